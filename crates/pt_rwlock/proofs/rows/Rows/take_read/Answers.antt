use Rattle.std.proofs.Common.{ℕ, ◌-◌, ◌==◌, cond, List, Some, ap, sym, ◌∙◌}
use Rattle.std.specs.Map.{lookup}
use Rattle.std.specs.Ordering.{nat_cmp}
use Rattle.std.specs.BTreeMap.{is_at}
use Rattle.pt_rwlock.specs.RowPlaces.{place_in}
use Rattle.pt_rwlock.proofs.rows.Rows.take_read.Goals as goal

pub set-requires-clause-place : goal.set-requires-clause-place
set-requires-clause-place g c =
    c.note_place_of-place.ensures.place
    ∙ sym (ap (λ (xs : List (ℕ × ℕ)). place_in xs c.args.client)
    c.note_place_of-place.ensures.unchanged)

pub returns-clause-others : goal.returns-clause-others
returns-clause-others g c = λ other.
    c.set.ensures.others other
    ∙ ap (λ (xs : List (ℕ × ℕ)). cond (c.args.client == other) (Some (c.reads-before.result - 1))
    (lookup (is_at (nat_cmp other)) xs))
    c.note_place_of-place.ensures.unchanged
