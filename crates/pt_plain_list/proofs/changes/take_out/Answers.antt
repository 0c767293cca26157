use Rattle.std.proofs.Common.{◌≡◌, ◌==◌, sym, ap, ◌∙◌, ◌||◌, ℕ, true, false, ◌++◌, ◌∷◌, [], length}
use Rattle.std.proofs.Common.{arith}
use Rattle.pt_waitq.specs.declared.waiter.Waiter.{Waiter}
use Rattle.pt_waitq.specs.ListLemmas.{filter-rest}
use Rattle.pt_waitq.specs.Waits.{is_listed, has_waiter}
use Rattle.pt_plain_list.proofs.AdmittedLemmas.{removed, fewer-waiting}
use Rattle.pt_plain_list.proofs.RoomLemmas.{room-freed}
use Rattle.pt_plain_list.proofs.changes.take_out.Goals as goal

pub returns-then-has_entry-clause-admitted : goal.returns-then-has_entry-clause-admitted
returns-then-has_entry-clause-admitted g c = λ d.
    let client = c.args.client in
    let idle = c.args.idle.now.items in
    let es = c.args.waiting.now.items in
    let has : has_waiter client es ≡ true =
    ap (has_waiter client) (sym c.deref.ensures.value)
    ∙ (sym c.has_entry.ensures ∙ c.if-has_entry.true) in
    ap (λ cs. is_listed d cs || has_waiter d c.forget_waiter.new.entries.items)
    c.push_reserved.ensures.items
    ∙ (ap (λ xs. is_listed d (idle ++ client ∷ []) || has_waiter d xs) c.forget_waiter.ensures.others
    ∙ removed client idle es has d)

pub returns-then-has_entry-clause-bound : goal.returns-then-has_entry-clause-bound
returns-then-has_entry-clause-bound g c =
    let client = c.args.client in
    let old = c.args.waiting.now in
    let left = c.forget_waiter.new.entries in
    let has : has_waiter client old.items ≡ true =
    ap (has_waiter client) (sym c.deref.ensures.value)
    ∙ (sym c.has_entry.ensures ∙ c.if-has_entry.true) in
    let fewer = fewer-waiting client old.items has in
    let len = c.push_reserved.ensures.len in
    omega (arith, fewer, ap length c.forget_waiter.ensures.others, old.ok.0, left.ok.0, len)

pub returns-else-has_entry-clause-entries : goal.returns-else-has_entry-clause-entries
returns-else-has_entry-clause-entries g c =
    let client = c.args.client in
    let es = c.args.waiting.now.items in
    let none : has_waiter client es ≡ false =
    ap (has_waiter client) (sym c.deref.ensures.value)
    ∙ (sym c.has_entry.ensures ∙ c.if-has_entry.false) in
    sym (filter-rest (λ (e : ℕ × Waiter). e.1.client == client) es none)

pub push_reserved-requires : goal.push_reserved-requires
push_reserved-requires g c =
    let client = c.args.client in
    let es = c.args.waiting.now in
    let has : has_waiter client es.items ≡ true =
    ap (has_waiter client) (sym c.deref.ensures.value)
    ∙ (sym c.has_entry.ensures ∙ c.if-has_entry.true) in
    room-freed _ _ _ _ _ c.requires es.ok.0 (fewer-waiting client es.items has)
