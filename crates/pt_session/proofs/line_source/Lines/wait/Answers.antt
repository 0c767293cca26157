use Rattle.std.proofs.Common.{subst, sym}
use Rattle.pt_session.specs.Sources.{LineSourceView, HasTakenNothing}
use Rattle.pt_session.proofs.SourceLemmas.{still_lines}
use Rattle.pt_session.proofs.line_source.Lines.wait.Goals.{
  then-are_read_here+in_default+else-not-read_on_helper_thread,
  else-are_read_here,
}
use Rattle.pt_session.proofs.line_source.Lines.wait.Goals as goal

pub returns-then-not-read_on_helper_thread-clause-lines :
    goal.returns-then-not-read_on_helper_thread-clause-lines
returns-then-not-read_on_helper_thread-clause-lines g c =
    still_lines c.args.self.now c.are_read_here.new.self c.read_on_helper_thread.new.self
    c.are_read_here.ensures c.read_on_helper_thread.ensures

pub returns-clause-lines : goal.returns-clause-lines
returns-clause-lines g c =
    let old : LineSourceView = c.args.self.now in
    elim c.if-are_read_here.branch as (λ _. HasTakenNothing old c.if-are_read_here.self) [
      | then-are_read_here+in_default+else-not-read_on_helper_thread w ↦
          subst (HasTakenNothing old) (sym w.self-is)
          (still_lines old c.are_read_here.new.self w.read_on_helper_thread.new.self
          c.are_read_here.ensures w.read_on_helper_thread.ensures)
      | else-are_read_here w ↦ subst (HasTakenNothing old) (sym w.self-is) c.are_read_here.ensures
    ]
