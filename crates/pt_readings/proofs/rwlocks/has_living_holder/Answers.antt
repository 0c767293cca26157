use Rattle.std.proofs.Common.{sym, ap, ◌∙◌, arith, below_more, is_some}
use Rattle.std.specs.Prelude.{◌&&◌}
use Rattle.pt_types.specs.RwlockTable.{has_lock}
use Rattle.pt_model.specs.Clients.{is_alive}
use Rattle.pt_model.specs.Rwlocks.{rwlock_view}
use Rattle.pt_model.specs.Histories.{history, place}
use Rattle.pt_readings.proofs.Prefix.{place_all}
use Rattle.pt_model.proofs.FirstBelow.{first_below-none, first_below-at}
use Rattle.pt_readings.proofs.rwlocks.has_living_holder.Goals as goal

pub returns-then-holds_alive : goal.returns-then-holds_alive
returns-then-holds_alive c =
    let h = history c.args.entries.now in
    sym (ap is_some (first_below-at (λ k. is_alive h k && has_lock (rwlock_view h c.args.r k))
    (place h) c.loop-i.i
    (omega (arith, place_all c.args.entries.now)) c.loop-i.invariant
    (sym c.holds_alive.ensures ∙ c.if-holds_alive.true)))

pub loop-i-preserved : goal.loop-i-preserved
loop-i-preserved c =
    below_more _ _ c.loop-i.invariant (sym c.holds_alive.ensures ∙ c.if-holds_alive.false)

pub returns : goal.returns
returns c =
    let h = history c.args.entries.now in
    sym (ap is_some (first_below-none (λ k. is_alive h k && has_lock (rwlock_view h c.args.r k))
    (place h)
    (λ k lt. c.loop-i.invariant k (omega (arith, place_all c.args.entries.now)))))
