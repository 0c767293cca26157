use Rattle.std.proofs.Common.{ℕ, ◌+◌, ◌<◌, ◌==◌, cond, List, Some, ap, sym, ◌∙◌, subst}
use Rattle.std.specs.Prelude.{IfSome}
use Rattle.std.specs.Map.{lookup}
use Rattle.std.specs.Ordering.{nat_cmp}
use Rattle.std.specs.BTreeMap.{is_at}
use Rattle.pt_rwlock.proofs.ViewRows.{boxed-seen}
use Rattle.pt_rwlock.proofs.boxed.BoxedRows.add_read.Goals as goal

pub add_read-requires-clause-within : goal.add_read-requires-clause-within
add_read-requires-clause-within g c =
    let seen = boxed-seen c.self.inside.boxed c.in-Some.rows c.deref_mut.result.now c.args.self.now
    c.in-Some.is c.self.view_is c.deref_mut.ensures.value in
    subst (λ (xs : List (ℕ × ℕ)). IfSome (lookup (is_at (nat_cmp c.args.client)) xs)
    (λ (reads : ℕ). reads < 255)) (sym seen) c.requires.within

pub returns-clause-others : goal.returns-clause-others
returns-clause-others g c =
    let seen = boxed-seen c.self.inside.boxed c.in-Some.rows c.deref_mut.result.now c.args.self.now
    c.in-Some.is c.self.view_is c.deref_mut.ensures.value in
    λ other.
    c.add_read.ensures.others other
    ∙ ap (λ (xs : List (ℕ × ℕ)). cond (c.args.client == other) (Some (c.add_read.result + 1))
    (lookup (is_at (nat_cmp other)) xs)) seen
