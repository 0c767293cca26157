use Rattle.std.proofs.Common.{◌≡◌, ◌+◌, ℕ, suc, ap, sym, ◌∙◌, length, nat_lt, arith}
use Rattle.pt_model.specs.Histories.{history_length, ◌▷◌}
use Rattle.pt_model.specs.Room.{entry_for, need}
use Rattle.pt_state.specs.Adds.{history_of}
use Rattle.pt_history.proofs.Places.{history_length-past}
use Rattle.pt_machine.proofs.machine.Machine.is_over.Goals as goal

pub returns : goal.returns
returns g c =
    let h = history_of c.args.self.now in
    let count : c.entry_count-entry_count.result ≡ history_length h =
    c.entry_count-entry_count.ensures.value
    ∙ (ap (λ s. length s.stored.entries) c.self.view_is
    ∙ sym (history_length-past c.args.self.now.stored)) in
    let needed : c.plan.result.need ≡ need (h ▷ entry_for h c.args.event.now) =
    c.plan.ensures.planned.needs in
    let total : c.entry_count-entry_count.result + 1 + c.plan.result.need
    ≡ suc (history_length h) + need (h ▷ entry_for h c.args.event.now) = omega
    (arith, count, needed) in
    ap (λ (l : ℕ). nat_lt l (c.entry_count-entry_count.result + 1 + c.plan.result.need))
    (c.limit.ensures ∙ ap (λ s. s.stored.limit) c.self.view_is)
    ∙ ap (nat_lt c.args.self.now.stored.limit) total
