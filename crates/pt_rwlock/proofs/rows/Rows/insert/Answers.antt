use Rattle.std.proofs.Common.{ℕ, ◌==◌, cond, List, Some, ap, sym, ◌∙◌, subst}
use Rattle.std.specs.Map.{lookup}
use Rattle.std.specs.Ordering.{nat_cmp}
use Rattle.std.specs.BTreeMap.{is_at, insert_entry}
use Rattle.pt_rwlock.specs.RowPlaces.{IsInOrder, place_in}
use Rattle.pt_rwlock.proofs.ViewRows.{whenever-err}
use Rattle.pt_rwlock.proofs.rows.Rows.insert.Goals as goal

pub count_below-place-requires : goal.count_below-place-requires
count_below-place-requires g c =
    subst IsInOrder (sym c.as_slice-2.ensures.value) c.self.invariant

pub insert_at-requires-clause-place : goal.insert_at-requires-clause-place
insert_at-requires-clause-place g c =
    c.count_below-place.ensures
    ∙ ap (λ (xs : List (ℕ × ℕ)). place_in xs c.args.client) c.as_slice-2.ensures.value

pub insert_at-requires-clause-new : goal.insert_at-requires-clause-new
insert_at-requires-clause-new g c =
    ap (lookup (is_at (nat_cmp c.args.client))) c.self.view_is ∙ c.requires

pub invariant_of-self-2 : goal.invariant_of-self-2
invariant_of-self-2 g c = c.insert_at.ensures.order

pub returns-clause-rows : goal.returns-clause-rows
returns-clause-rows g c =
    c.in_ok-insert_at.ensures.rows
    ∙ ap (λ (xs : List (ℕ × ℕ)). insert_entry nat_cmp xs c.args.client 0) c.self.view_is

pub returns-clause-others : goal.returns-clause-others
returns-clause-others g c = λ other.
    c.in_ok-insert_at.ensures.others other
    ∙ ap (λ (xs : List (ℕ × ℕ)). cond (c.args.client == other) (Some 0)
    (lookup (is_at (nat_cmp other)) xs)) c.self.view_is

pub returns-in_err-insert_at-clause-unchanged : goal.returns-in_err-insert_at-clause-unchanged
returns-in_err-insert_at-clause-unchanged g c =
    whenever-err c.from_residual-in_err-insert_at.result
    (c.in_err-insert_at.ensures.unchanged ∙ c.self.view_is)
