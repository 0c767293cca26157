use Rattle.std.specs.BinaryHeap.{heap_items, IsHeap}
use Rattle.pt_timers.proofs.StaleLemmas.{one-canceled, one-out}
use Rattle.pt_timers.proofs.OrderLemmas.{on-no-error, kept-before, noted-before, on-error}
use Rattle.std.proofs.Common.{◌≡◌, ◌&&◌, not, sym, ap, subst, ◌∙◌}
use Rattle.pt_timers.specs.Deadlines.{key_cmp, same_key, is_live}
use Rattle.pt_timers.proofs.order.cancel.Goals.{
  then-capacity-len-via-then-capacity-len,
  then-capacity-len-via-else-capacity-len+then-is_err,
}
use Rattle.pt_timers.proofs.order.cancel.Goals as goal

pub returns-else-is_err-clause-live : goal.returns-else-is_err-clause-live
returns-else-is_err-clause-live g c =
    one-canceled (heap_items c.args.keys.now) (heap_items c.args.canceled.now)
    (heap_items c.push.new.keys) c.args.key.now
    (on-no-error c.push.result c.is_err.result c.is_err.ensures.value c.if-is_err.false
    c.push.ensures.ok)

pub returns-else-is_err-clause-before : goal.returns-else-is_err-clause-before
returns-else-is_err-clause-before g c =
    let put =
    on-no-error c.push.result c.is_err.result c.is_err.ensures.value c.if-is_err.false
    c.push.ensures.ok in
    noted-before (heap_items c.args.canceled.now) (heap_items c.push.new.keys) c.args.last.now
    c.max.result c.args.key.now c.requires.before c.max.ensures (λ q h. sym (put q) ∙ h)

pub returns-then-capacity-len-clause-canceled : goal.returns-then-capacity-len-clause-canceled
returns-then-capacity-len-clause-canceled g c =
    let same : heap_items c.then-capacity-len.canceled ≡ heap_items c.args.canceled.now =
    elim c.then-capacity-len.branch as (λ _.
    heap_items c.then-capacity-len.canceled ≡ heap_items c.args.canceled.now) [
      | then-capacity-len-via-then-capacity-len w ↦ ap heap_items w.canceled-is
      | then-capacity-len-via-else-capacity-len+then-is_err w ↦ ap heap_items w.canceled-is
          ∙ on-error w.push.result w.is_err.result w.is_err.ensures.value w.if-is_err.true
          w.push.ensures.unchanged
    ] in
    subst (IsHeap key_cmp) (sym same) c.requires.canceled

pub returns-then-capacity-len-clause-before : goal.returns-then-capacity-len-clause-before
returns-then-capacity-len-clause-before g c =
    let same : heap_items c.then-capacity-len.canceled ≡ heap_items c.args.canceled.now =
    elim c.then-capacity-len.branch as (λ _.
    heap_items c.then-capacity-len.canceled ≡ heap_items c.args.canceled.now) [
      | then-capacity-len-via-then-capacity-len w ↦ ap heap_items w.canceled-is
      | then-capacity-len-via-else-capacity-len+then-is_err w ↦ ap heap_items w.canceled-is
          ∙ on-error w.push.result w.is_err.result w.is_err.ensures.value w.if-is_err.true
          w.push.ensures.unchanged
    ] in
    kept-before (heap_items c.args.canceled.now) (heap_items c.then-capacity-len.canceled)
    c.args.last.now c.max.result c.args.key.now c.requires.before c.max.ensures same

pub returns-then-capacity-len-clause-live : goal.returns-then-capacity-len-clause-live
returns-then-capacity-len-clause-live g c =
    let x = c.args.key.now in
    let ks = heap_items c.args.keys.now in
    let same : heap_items c.then-capacity-len.canceled ≡ heap_items c.args.canceled.now =
    elim c.then-capacity-len.branch as (λ _.
    heap_items c.then-capacity-len.canceled ≡ heap_items c.args.canceled.now) [
      | then-capacity-len-via-then-capacity-len w ↦ ap heap_items w.canceled-is
      | then-capacity-len-via-else-capacity-len+then-is_err w ↦ ap heap_items w.canceled-is
          ∙ on-error w.push.result w.is_err.result w.is_err.ensures.value w.if-is_err.true
          w.push.ensures.unchanged
    ] in
    λ q.
    one-out ks (heap_items c.drop_key.new.keys) (heap_items c.then-capacity-len.canceled) x
    c.drop_key.ensures.left q
    ∙ ap (λ cs. not (same_key x q) && is_live ks cs q) same
