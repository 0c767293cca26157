use Rattle.std.proofs.Common.{ℕ, ◌-◌, ◌<◌, ◌==◌, cond, List, Some, ap, sym, ◌∙◌, subst}
use Rattle.std.specs.Prelude.{IfSome}
use Rattle.std.specs.Map.{lookup}
use Rattle.std.specs.Ordering.{nat_cmp}
use Rattle.std.specs.BTreeMap.{is_at}
use Rattle.pt_rwlock.proofs.ViewRows.{boxed-seen}
use Rattle.pt_rwlock.proofs.boxed.BoxedRows.take_read.Goals as goal

pub take_read-requires-clause-some : goal.take_read-requires-clause-some
take_read-requires-clause-some g c =
    let seen = boxed-seen c.self.inside.boxed c.in-Some.rows c.deref_mut.result.now c.args.self.now
    c.in-Some.is c.self.view_is c.deref_mut.ensures.value in
    subst (λ (xs : List (ℕ × ℕ)). IfSome (lookup (is_at (nat_cmp c.args.client)) xs)
    (λ (reads : ℕ). 0 < reads)) (sym seen) c.requires.some

pub returns-clause-others : goal.returns-clause-others
returns-clause-others g c =
    let seen = boxed-seen c.self.inside.boxed c.in-Some.rows c.deref_mut.result.now c.args.self.now
    c.in-Some.is c.self.view_is c.deref_mut.ensures.value in
    λ other.
    c.take_read.ensures.others other
    ∙ ap (λ (xs : List (ℕ × ℕ)). cond (c.args.client == other) (Some (c.take_read.result - 1))
    (lookup (is_at (nat_cmp other)) xs)) seen
