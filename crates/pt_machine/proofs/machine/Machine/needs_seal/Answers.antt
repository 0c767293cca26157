use Rattle.std.proofs.Common.{◌≡◌, ◌+◌, ◌≤◌, ◌<◌, ℕ, nat_lt, nat_le, ◌&&◌, ap, sym, ◌∙◌, length}
use Rattle.std.proofs.Common.{arith, false}
use Rattle.std.proofs.lemmas.Bool.Decides.{nat_tests}
use Rattle.pt_model.specs.Histories.{history_length}
use Rattle.pt_state.specs.Adds.{history_of}
use Rattle.pt_history.proofs.Places.{history_length-past}
use Rattle.pt_machine.proofs.machine.Machine.needs_seal.Goals as goal

-- past the limit, the room alone decides
within : (limit entries room : ℕ) → limit < entries + room
    → nat_le room limit ≡ (nat_lt limit (entries + room) && nat_le room limit)
within limit entries room l = grind (arith, nat_tests)

-- otherwise the comparison with the limit decides
under : (limit entries room : ℕ) → entries + room ≤ limit
    → nat_lt limit (entries + room) ≡ (nat_lt limit (entries + room) && nat_le room limit)
under limit entries room l = grind (arith, nat_tests)

-- no seal is needed if the entries and the room are within the limit
there : (limit entries room : ℕ) → entries + room ≤ limit
    → false ≡ (nat_lt limit (entries + room) && nat_le room limit)
there limit entries room l = grind (arith, nat_tests)

pub returns-then-room : goal.returns-then-room
returns-then-room g c =
    let s = c.args.self.now in
    let room = 1 + c.args.need in
    there s.stored.limit (history_length (history_of s)) room
    (omega (
      arith,
      history_length-past s.stored,
      ap (λ s. s.stored.limit) c.self.view_is,
      ap (λ s. length s.stored.entries) c.self.view_is,
      c.room.ensures.room,
      c.room.ensures.within,
      c.if-room.true,
    ))

pub returns-then-limit-entry_count : goal.returns-then-limit-entry_count
returns-then-limit-entry_count g c =
    let s = c.args.self.now in
    let room = 1 + c.args.need in
    let count : c.entry_count-entry_count.result ≡ history_length (history_of s) =
    c.entry_count-entry_count.ensures.value
    ∙ (ap (λ s. length s.stored.entries) c.self.view_is ∙ sym (history_length-past s.stored)) in
    let limit = c.limit-limit.ensures ∙ ap (λ s. s.stored.limit) c.self.view_is in
    ap (nat_le room) limit
    ∙ within s.stored.limit (history_length (history_of s)) room
    (omega (arith, count, limit, c.if-limit-entry_count.true))

pub returns-else-limit-entry_count : goal.returns-else-limit-entry_count
returns-else-limit-entry_count g c =
    let s = c.args.self.now in
    let room = 1 + c.args.need in
    let count : c.entry_count-entry_count.result ≡ history_length (history_of s) =
    c.entry_count-entry_count.ensures.value
    ∙ (ap (λ s. length s.stored.entries) c.self.view_is ∙ sym (history_length-past s.stored)) in
    let limit = c.limit-limit.ensures ∙ ap (λ s. s.stored.limit) c.self.view_is in
    ap (λ (l : ℕ). nat_lt l (c.entry_count-entry_count.result + room)) limit
    ∙ (ap (λ (k : ℕ). nat_lt s.stored.limit (k + room)) count
    ∙ under s.stored.limit (history_length (history_of s)) room
    (omega (arith, count, limit, c.if-limit-entry_count.false)))
