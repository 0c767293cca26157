use Rattle.std.proofs.Common.{◌≡◌, ◌∙◌, ℕ, Bool, true, false, cond, Option, Some, None, refl, arith}
use Rattle.std.proofs.Common.{sym}
use Rattle.pt_types.specs.declared.time.Clock.{Clock}
use Rattle.pt_records.proofs.RowLoops.{nth-in}
use Rattle.pt_timers.specs.Deadlines.{deadline_at}
use Rattle.pt_machine.proofs.TimerDrops.{drops-none, row-moved, row-kept, row-empty, rows-all}
use Rattle.pt_machine.proofs.push.drop_moved.Goals as goal
use Rattle.pt_machine.proofs.push.drop_moved.Goals.{in-Some+then-was_moved, in-Some+else-was_moved}
use Rattle.pt_machine.proofs.push.drop_moved.Goals.{in_default}

-- no deadline is set
pub returns-then-has_none : goal.returns-then-has_none
returns-then-has_none g c p =
    drops-none _ (deadline_at c.args.timers.now p) (c.has_none.ensures c.if-has_none.true p)

pub loop-i-init : goal.loop-i-init
loop-i-init g c p = refl

-- what is still set was set before
was-set : (b : Bool) (x : Option (Clock × ℕ)) (d : Clock × ℕ) → cond b None x ≡ Some d
    → x ≡ Some d
was-set true x d e = absurd cc
was-set false x d e = e

pub drop_deadline-requires : goal.drop_deadline-requires
drop_deadline-requires g c = λ d e.
    let o = c.in-Some.open in
    c.requires o (nth-in c.args.state.now.clients c.loop-i.i o
    (sym c.open_nth.ensures ∙ c.in-Some.is))
    d (was-set _ _ d (sym (c.loop-i.invariant o.call.place) ∙ e))

-- one more row was seen
pub loop-i-preserved : goal.loop-i-preserved
loop-i-preserved g c =
    elim c.match-open_nth.branch [
      | in-Some+then-was_moved w ↦ rw w.timers-is
          (row-moved c.args.place c.args.state.now.clients c.loop-i.i
          (deadline_at c.args.timers.now) (deadline_at c.loop-i.timers) c.loop-i.invariant
          w.in-Some.open (sym c.open_nth.ensures ∙ w.in-Some.is)
          (sym w.was_moved.ensures ∙ w.if-was_moved.true) (deadline_at w.drop_deadline.new.timers)
          w.drop_deadline.ensures)
      | in-Some+else-was_moved w ↦ rw w.timers-is
          (row-kept c.args.place c.args.state.now.clients c.loop-i.i
          (deadline_at c.args.timers.now) (deadline_at c.loop-i.timers) c.loop-i.invariant
          w.in-Some.open (sym c.open_nth.ensures ∙ w.in-Some.is)
          (sym w.was_moved.ensures ∙ w.if-was_moved.false))
      | in_default w ↦ rw w.timers-is
          (row-empty c.args.place c.args.state.now.clients c.loop-i.i
          (deadline_at c.args.timers.now) (deadline_at c.loop-i.timers) c.loop-i.invariant
          (sym c.open_nth.ensures ∙ w.in_default.is))
    ]

-- all rows were seen
pub returns : goal.returns
returns g c p =
    c.loop-i.invariant p
    ∙ rows-all c.args.place c.args.state.now.clients c.loop-i.i
    (omega (arith, c.loop-i-test.false, c.len-i-end.ensures.len))
    (deadline_at c.args.timers.now p) p
