use Rattle.std.proofs.Common.{◌≡◌, ◌-◌, ◌∙◌, None, cond, nat_eq, take, sym, ap, subst, arith}
use Rattle.std.specs.Prelude.{slice_index_or}
use Rattle.pt_table.specs.Linked.{number_before}
use Rattle.pt_table.proofs.Relinked.{IsRelinked, relinks-none, relinks-more, relinks-all}
use Rattle.pt_table.proofs.Relinked.{is-out, last-there}
use Rattle.pt_table.proofs.Sorted.{no-front, one-more, whole-front}
use Rattle.pt_table.proofs.objects.Objects.link_each.Goals as goal

pub loop-i-init : goal.loop-i-init
loop-i-init g c = (
  subst (λ ns. IsRelinked c.args.self.now c.args.self.now c.args.numbers.now ns None)
      (sym (whole-front c.args.numbers.now))
      (relinks-none c.args.self.now c.args.numbers.now),
  omega arith,
)

pub set_own-requires : goal.set_own-requires
set_own-requires g c =
    last-there c.args.self.now c.loop-i.self c.args.numbers.now
    (take c.loop-i.i c.args.numbers.now) c.loop-i.head c.loop-i.invariant.0
    (take (c.loop-i.i - 1) c.args.numbers.now)
    (slice_index_or c.args.numbers.now (c.loop-i.i - 1) 0)
    (one-more c.loop-i.i c.args.numbers.now (omega (arith, c.loop-i-test.true))
    c.loop-i.invariant.1)
    c.requires.rows

pub loop-i-preserved : goal.loop-i-preserved
loop-i-preserved g c =
    let number = slice_index_or c.args.numbers.now (c.loop-i.i - 1) 0 in (
      relinks-more c.args.self.now c.loop-i.self c.args.numbers.now
          (take c.loop-i.i c.args.numbers.now) c.loop-i.head c.loop-i.invariant.0
          (take (c.loop-i.i - 1) c.args.numbers.now) number
          (one-more c.loop-i.i c.args.numbers.now (omega (arith, c.loop-i-test.true))
          c.loop-i.invariant.1)
          c.set_own.new.self c.requires.rising c.set_own.ensures.next
          (λ n. c.set_own.ensures.before n
          ∙ ap (λ o. cond (nat_eq number n) o (number_before c.loop-i.self n))
          c.number_ahead.ensures)
          c.set_own.ensures.linked c.set_own.ensures.rows,
      omega (arith, c.loop-i.invariant.1),
    )

pub returns-clause-chain : goal.returns-clause-chain
returns-clause-chain g c =
    let none : c.loop-i.i ≡ 0 = omega (arith, c.loop-i-test.false) in
    relinks-all c.args.self.now c.loop-i.self c.args.numbers.now
    (take c.loop-i.i c.args.numbers.now) c.loop-i.head c.loop-i.invariant.0
    (no-front c.loop-i.i c.args.numbers.now none)

pub returns-clause-next : goal.returns-clause-next
returns-clause-next g c = λ n out.
    let none : c.loop-i.i ≡ 0 = omega (arith, c.loop-i-test.false) in
    c.loop-i.invariant.0.next n
    (is-out c.args.self.now c.loop-i.self c.args.numbers.now
    (take c.loop-i.i c.args.numbers.now) c.loop-i.head c.loop-i.invariant.0
    (no-front c.loop-i.i c.args.numbers.now none) n out)

pub returns-clause-before : goal.returns-clause-before
returns-clause-before g c = λ n out.
    let none : c.loop-i.i ≡ 0 = omega (arith, c.loop-i-test.false) in
    c.loop-i.invariant.0.before n
    (is-out c.args.self.now c.loop-i.self c.args.numbers.now
    (take c.loop-i.i c.args.numbers.now) c.loop-i.head c.loop-i.invariant.0
    (no-front c.loop-i.i c.args.numbers.now none) n out)

pub returns-clause-linked : goal.returns-clause-linked
returns-clause-linked g c = λ n out.
    let none : c.loop-i.i ≡ 0 = omega (arith, c.loop-i-test.false) in
    c.loop-i.invariant.0.linked n
    (is-out c.args.self.now c.loop-i.self c.args.numbers.now
    (take c.loop-i.i c.args.numbers.now) c.loop-i.head c.loop-i.invariant.0
    (no-front c.loop-i.i c.args.numbers.now none) n out)

pub returns-clause-rows : goal.returns-clause-rows
returns-clause-rows g c = c.loop-i.invariant.0.rows
