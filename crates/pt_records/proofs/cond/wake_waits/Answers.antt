use Rattle.std.proofs.Common.{◌≤◌, sym, ap, ◌∙◌, arith, length}
use Rattle.pt_records.specs.Writes.{caller_after_broadcast, rewritten_nth}
use Rattle.pt_records.proofs.CallerScans.{first-none, first-more, first-once, rewrites-all}
use Rattle.pt_records.proofs.cond.wake_waits.Goals as goal

pub loop-i-init : goal.loop-i-init
loop-i-init g c = sym (first-none
    (caller_after_broadcast c.args.q c.args.at c.args.cause) c.args.clients.now)

pub wake_nth-requires : goal.wake_nth-requires
wake_nth-requires g c =
    rw c.loop-i.invariant
    (first-once (caller_after_broadcast c.args.q c.args.at c.args.cause) c.args.clients.now
    c.loop-i.i c.requires)

pub loop-i-preserved : goal.loop-i-preserved
loop-i-preserved g c =
    c.wake_nth.ensures
    ∙ ap (λ rows. rewritten_nth (caller_after_broadcast c.args.q c.args.at c.args.cause) rows
    c.loop-i.i)
    c.loop-i.invariant
    ∙ first-more (caller_after_broadcast c.args.q c.args.at c.args.cause) c.args.clients.now
    c.loop-i.i

pub returns : goal.returns
returns g c =
    let all : length c.args.clients.now ≤ c.loop-i.i = omega (arith, c.len-i-end.ensures.len) in
    rw c.loop-i.invariant
    (rewrites-all (caller_after_broadcast c.args.q c.args.at c.args.cause) c.args.clients.now
    c.loop-i.i all)
