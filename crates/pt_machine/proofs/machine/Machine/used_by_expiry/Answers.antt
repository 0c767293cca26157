use Rattle.std.proofs.Common.{sym, ◌∙◌}
use Rattle.pt_state.specs.Adds.{history_of}
use Rattle.pt_state.specs.Serving.{call_of_open}
use Rattle.pt_state.proofs.ForceCallers.{known-open}
use Rattle.pt_machine.proofs.ForcedNeeds.{need-expire_end, need-expire_wait}
use Rattle.pt_machine.proofs.machine.Machine.used_by_expiry.Goals as goal

pub returns-then-is_cond_wait : goal.returns-then-is_cond_wait
returns-then-is_cond_wait g c =
    let s = c.args.self.now in
    let o = c.args.late.now in
    let read = c.requires.tables in
    need-expire_wait (history_of s) (call_of_open o) read.follows
    (known-open (history_of s) s.clients read.follows read.callers o c.requires.is_open)
    c.requires.step
    (sym c.is_cond_wait.ensures ∙ c.if-is_cond_wait.true)

pub returns-else-is_cond_wait : goal.returns-else-is_cond_wait
returns-else-is_cond_wait g c =
    let s = c.args.self.now in
    let o = c.args.late.now in
    let read = c.requires.tables in
    need-expire_end (history_of s) (call_of_open o) read.follows
    (known-open (history_of s) s.clients read.follows read.callers o c.requires.is_open)
    c.requires.step
    (sym c.is_cond_wait.ensures ∙ c.if-is_cond_wait.false)
