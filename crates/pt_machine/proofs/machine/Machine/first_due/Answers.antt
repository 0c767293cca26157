use Rattle.pt_state.specs.Adds.{history_of}
use Rattle.pt_machine.specs.CallDeadlines.{AreDeadlinesSet}
use Rattle.pt_machine.proofs.DueLemmas.{unserved-good, first-late, as-read}
use Rattle.pt_machine.proofs.machine.Machine.first_due.Goals as goal

pub returns : goal.returns
returns g c =
    let s = c.args.self.now in
    let read = c.requires.tables in
    let timed : AreDeadlinesSet (history_of s) c.self.inside.timers =
    rw (← c.self.view_is) c.self.invariant.1 in
    first-late (history_of s) read.follows c.self.inside.timers timed
    (unserved-good (history_of s) read.follows c.requires.unserved) _
    (as-read (history_of s) c.self.inside.state s c.self.view_is read.clocks) _ c.least_due.ensures
