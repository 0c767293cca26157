use Rattle.std.proofs.Common.{sym, ◌∙◌}
use Rattle.pt_records.specs.Callers.{caller_after_move, has_open}
use Rattle.pt_records.specs.Writes.{is_unmoved_at, caller_after_broadcast}
use Rattle.pt_records.proofs.CallerScans.{nth-none, nth-same, nth-written, nth-absent, by-true}
use Rattle.pt_records.proofs.CallerScans.{by-false}
use Rattle.pt_records.proofs.cond.wake_nth.Goals as goal

pub returns-in_default : goal.returns-in_default
returns-in_default g c =
    sym (nth-none (caller_after_broadcast c.args.q c.args.at c.args.cause) c.args.clients.now
    c.args.index
    (sym c.in_default.ensures.value))

pub returns-then-not-is_waiting : goal.returns-then-not-is_waiting
returns-then-not-is_waiting g c =
    let v = c.in-Some.caller.now in
    sym (nth-same (caller_after_broadcast c.args.q c.args.at c.args.cause) c.args.clients.now
    c.args.index v
    (sym c.in-Some.ensures.value)
    (by-false (has_open (is_unmoved_at c.args.q) v) (caller_after_move c.args.at c.args.cause v) v
    (sym c.if-not-is_waiting.ensures)))

pub returns-in-Some-at_mut_near : goal.returns-in-Some-at_mut_near
returns-in-Some-at_mut_near g c =
    let v = c.in-Some.caller.now in
    let woken = caller_after_move c.args.at c.args.cause in
    rw c.move_open.ensures
    (nth-written (caller_after_broadcast c.args.q c.args.at c.args.cause) woken c.args.clients.now
    c.args.index
    c.in-Some.c v c.in-Some-at_mut_near.row.now c.requires (sym c.in-Some.ensures.number)
    (sym c.in-Some.ensures.value) c.in-Some-at_mut_near.ensures.value
    (by-true (has_open (is_unmoved_at c.args.q) v) (woken v) v
    (sym c.is_waiting.ensures ∙ c.if-not-is_waiting.false)))

pub returns-in_default-at_mut_near : goal.returns-in_default-at_mut_near
returns-in_default-at_mut_near g c =
    nth-absent c.args.clients.now c.args.index c.in-Some.c c.in-Some.caller.now c.requires
    (sym c.in-Some.ensures.number) (sym c.in-Some.ensures.value)
    c.in_default-at_mut_near.ensures.value
