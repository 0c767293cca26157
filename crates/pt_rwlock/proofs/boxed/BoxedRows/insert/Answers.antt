use Rattle.std.proofs.Common.{◌≡◌, ℕ, ◌==◌, cond, List, Some, subst}
use Rattle.std.specs.Prelude.{OnOk, OnErr}
use Rattle.std.specs.Map.{lookup}
use Rattle.std.specs.Ordering.{nat_cmp}
use Rattle.std.specs.BTreeMap.{is_at, insert_entry}
use Rattle.pt_rwlock.proofs.ViewRows.{boxed-seen}
use Rattle.pt_rwlock.proofs.boxed.BoxedRows.insert.Goals as goal

pub returns-in-Some-clause-rows : goal.returns-in-Some-clause-rows
returns-in-Some-clause-rows g c =
    let seen = boxed-seen c.self.inside.boxed c.in-Some.rows c.deref_mut.result.now c.args.self.now
    c.in-Some.is c.self.view_is c.deref_mut.ensures.value in
    subst (λ (xs : List (ℕ × ℕ)). OnOk c.insert.result
    (c.insert.new.self ≡ insert_entry nat_cmp xs c.args.client 0)) seen c.insert.ensures.rows

pub returns-in-Some-clause-others : goal.returns-in-Some-clause-others
returns-in-Some-clause-others g c =
    let seen = boxed-seen c.self.inside.boxed c.in-Some.rows c.deref_mut.result.now c.args.self.now
    c.in-Some.is c.self.view_is c.deref_mut.ensures.value in
    subst (λ (xs : List (ℕ × ℕ)). OnOk c.insert.result ((other : ℕ)
    → lookup (is_at (nat_cmp other)) c.insert.new.self
    ≡ cond (c.args.client == other) (Some 0) (lookup (is_at (nat_cmp other)) xs)))
    seen c.insert.ensures.others

pub returns-in-Some-clause-unchanged : goal.returns-in-Some-clause-unchanged
returns-in-Some-clause-unchanged g c =
    let seen = boxed-seen c.self.inside.boxed c.in-Some.rows c.deref_mut.result.now c.args.self.now
    c.in-Some.is c.self.view_is c.deref_mut.ensures.value in
    subst (λ (xs : List (ℕ × ℕ)). OnErr c.insert.result (c.insert.new.self ≡ xs)) seen
    c.insert.ensures.unchanged
