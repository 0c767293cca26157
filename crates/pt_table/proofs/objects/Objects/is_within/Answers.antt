use Rattle.std.proofs.Common.{◌≡◌, ◌≤◌, ◌+◌, ℕ, Bool, not, true, false, List, length, Option, Some}
use Rattle.std.proofs.Common.{None, is_some, refl, sym, subst, arith, true≢false}
use Rattle.std.specs.Bool.{OnTrue}
use Rattle.pt_table.specs.Linked.{IsRowChain}
use Rattle.pt_table.proofs.Walked.{IsWalked, walk-begins, walk-on, walk-ends}
use Rattle.pt_table.proofs.objects.Objects.is_within.Goals as goal

pub loop-init : goal.loop-init
loop-init g c = (walk-begins c.args.self.now c.args.head, omega arith)

pub loop-preserved : goal.loop-preserved
loop-preserved g c = (
  subst (IsWalked c.args.self.now c.args.head (c.loop.counter + 1)) (sym c.next-rest.ensures)
      (walk-on c.args.self.now c.args.head c.loop.rest c.loop.counter c.in-Some.first
      c.loop.invariant.0 c.in-Some.is),
  omega (arith, c.loop-test.true),
)

pub returns-in_default : goal.returns-in_default
returns-in_default g c = λ ns l.
    let steps = walk-ends c.args.self.now c.args.head c.loop.rest c.loop.counter
    c.loop.invariant.0 c.in_default.is ns l in
    omega (arith, steps, c.loop.invariant.1)

pub returns : goal.returns
returns g c = go c.is_none.result c.is_none.ensures
  where
    is-none : (o : Option ℕ) → is_some o ≡ false → o ≡ None
    is-none None e = refl
    is-none (Some n) e = absurd (true≢false e)

    go : (b : Bool) → is_some c.loop.rest ≡ not b
        → OnTrue b ((ns : List ℕ) → IsRowChain c.args.self.now c.args.head ns
        → length ns ≤ c.args.max_len)
    go false e = tt
    go true e = λ ns l.
        let steps = walk-ends c.args.self.now c.args.head c.loop.rest c.loop.counter
        c.loop.invariant.0 (is-none c.loop.rest e) ns l in
        omega (arith, steps, c.loop.invariant.1)
