use Rattle.std.proofs.Common.{ℕ, ◌==◌, cond, List, Some, ap, sym, ◌∙◌}
use Rattle.std.specs.Map.{lookup}
use Rattle.std.specs.Ordering.{nat_cmp}
use Rattle.std.specs.BTreeMap.{is_at, insert_entry}
use Rattle.pt_rwlock.proofs.boxed.BoxedRows.insert_first.Goals as goal

pub returns-clause-rows : goal.returns-clause-rows
returns-clause-rows g c =
    let seen = c.deref_mut.ensures.value
    ∙ (c.in_ok-rows.ensures.ok ∙ (c.new.ensures ∙ sym c.requires)) in
    c.in_ok-insert.ensures.rows
    ∙ ap (λ (xs : List (ℕ × ℕ)). insert_entry nat_cmp xs c.args.client 0) seen

pub returns-clause-others : goal.returns-clause-others
returns-clause-others g c =
    let seen = c.deref_mut.ensures.value
    ∙ (c.in_ok-rows.ensures.ok ∙ (c.new.ensures ∙ sym c.requires)) in
    λ other.
    c.in_ok-insert.ensures.others other
    ∙ ap (λ (xs : List (ℕ × ℕ)). cond (c.args.client == other) (Some 0)
    (lookup (is_at (nat_cmp other)) xs)) seen
