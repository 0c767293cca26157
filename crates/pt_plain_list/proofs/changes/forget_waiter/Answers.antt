use Rattle.std.proofs.Common.{ℕ, ◌==◌, not, length, refl, sym, ap, ◌∙◌, arith}
use Rattle.pt_waitq.specs.declared.waiter.Waiter.{Waiter}
use Rattle.pt_plain_list.proofs.ForgetLemmas.{kept-shorter, one-less, goes-down, at-most}
use Rattle.pt_plain_list.proofs.ForgetLemmas.{kept-first, stands-ahead, kept-more, kept-less}
use Rattle.pt_plain_list.proofs.ForgetLemmas.{kept-last}
use Rattle.pt_plain_list.proofs.changes.forget_waiter.Goals as goal

pub returns-clause-bound : goal.returns-clause-bound
returns-clause-bound g c =
    let old = c.args.entries.now in
    let new = c.loop-i.entries in
    let kept = c.loop-i.invariant in
    let test = λ (e : ℕ × Waiter). not (e.1.client == c.args.client) in
    let fewer = kept-shorter test old.items new.items c.loop-i.i kept.0 kept.1 in
    omega (arith, fewer, new.ok.0, old.ok.0)

pub loop-i-preserved-then-eq : goal.loop-i-preserved-then-eq
loop-i-preserved-then-eq g c =
    let old = c.args.entries.now.items in
    let test = λ (e : ℕ × Waiter). not (e.1.client == c.args.client) in
    let kept = c.loop-i.invariant in (
      one-less c.loop-i.i (length old) kept.0,
      kept-less test old c.loop-i.entries.items
          c.remove.new.self.items c.loop-i.i c.index.result.now c.loop-i-test.true kept.0 kept.1
          c.index.ensures (ap not (sym c.eq.ensures ∙ c.if-eq.true)) c.remove.ensures.items,
      c.remove.ensures.capacity ∙ kept.2,
    )

pub loop-i-preserved : goal.loop-i-preserved
loop-i-preserved g c =
    let old = c.args.entries.now.items in
    let test = λ (e : ℕ × Waiter). not (e.1.client == c.args.client) in
    let kept = c.loop-i.invariant in (
      one-less c.loop-i.i (length old) kept.0,
      kept-more test old c.loop-i.entries.items c.loop-i.i
          c.index.result.now c.loop-i-test.true kept.0 kept.1 c.index.ensures
          (ap not (sym c.eq.ensures ∙ c.if-eq.false)),
      kept.2,
    )

pub returns-clause-others : goal.returns-clause-others
returns-clause-others g c =
    let test = λ (e : ℕ × Waiter). not (e.1.client == c.args.client) in
    kept-last test c.args.entries.now.items c.loop-i.entries.items
    c.loop-i.i c.loop-i-test.false c.loop-i.invariant.1

pub returns-clause-room : goal.returns-clause-room
returns-clause-room g c = c.loop-i.invariant.2

pub loop-i-init : goal.loop-i-init
loop-i-init g c =
    let old = c.args.entries.now in
    let test = λ (e : ℕ × Waiter). not (e.1.client == c.args.client) in
    let all = c.len-i.ensures ∙ old.ok.0 in (
      at-most c.len-i.result (length old.items) all,
      kept-first test old.items c.len-i.result all,
      refl,
    )

pub index-requires : goal.index-requires
index-requires g c =
    let now = c.loop-i.entries in
    let kept = c.loop-i.invariant in
    let test = λ (e : ℕ × Waiter). not (e.1.client == c.args.client) in
    stands-ahead test c.args.entries.now.items now.items
    c.loop-i.i now.len c.loop-i-test.true kept.0 kept.1 now.ok.0

pub remove-requires : goal.remove-requires
remove-requires g c =
    let now = c.loop-i.entries in
    let kept = c.loop-i.invariant in
    let test = λ (e : ℕ × Waiter). not (e.1.client == c.args.client) in
    stands-ahead test c.args.entries.now.items now.items
    c.loop-i.i now.len c.loop-i-test.true kept.0 kept.1 now.ok.0

pub loop-i-smaller : goal.loop-i-smaller
loop-i-smaller g c = goes-down c.loop-i.i c.loop-i-test.true

pub loop-i-smaller-then-eq : goal.loop-i-smaller-then-eq
loop-i-smaller-then-eq g c = goes-down c.loop-i.i c.loop-i-test.true
