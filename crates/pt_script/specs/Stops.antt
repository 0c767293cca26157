-- Stops: what became of the lines to come: the writer broke, memory lacked, or all were told of.
use Rattle.std.specs.Prelude.{◌≡◌, ℕ, ◌++◌, List, [], length}
use Rattle.pt_grammar.specs.declared.cut.Cut.{Cut}
use Rattle.pt_grammar.specs.Lines.{CutterView, lines_to_come}
use Rattle.pt_model.specs.Histories.{place}
use Rattle.pt_legal.specs.Cores.{history_of}
use Rattle.pt_engine.specs.declared.fault.ScriptFault.{ScriptFault}
use Rattle.pt_engine.specs.declared.fault.ScriptFault.TheVariants.{Read, Write, Memory}
use Rattle.pt_engine.specs.Scripts.{Script, core_of}
use Rattle.pt_script.specs.Tellings.{TellsCuts, Telling}
use Rattle.pt_script.specs.Texts.{BreaksOff, IsUntouched, WriterView}

-- the first of the lines to come were told of, and the writer broke while this was written after
-- the old text, or while it was flushed
pub record IsCutOff (Tells : Telling) (cutter : CutterView) (s : Script) (old : List ℕ)
    (w : WriterView) : Type 0 where
  pub cuts : List Cut
  pub later : List Cut
  pub last : Script
  pub text : List ℕ
  pub given : lines_to_come cutter [] ≡ cuts ++ later
  pub tells : Tells s cuts last text
  pub breaks : BreaksOff old text w

-- how telling of the lines to come is stopped by a fault; no reader takes part in it
abbrev pub StopsAtFault : Telling → ScriptFault → CutterView → Script → List ℕ → WriterView → Type 0
StopsAtFault Tells Read cutter s old w = ⊥
StopsAtFault Tells Write cutter s old w = IsCutOff Tells cutter s old w
StopsAtFault Tells Memory cutter s old w = IsUntouched old w

-- all lines to come were told of; the count is that of all lines, and next is the place of the
-- next entry
pub record IsEnd (Tells : Telling) (cutter : CutterView) (s : Script) (old new : List ℕ)
    (count next : ℕ) : Type 0 where
  pub last : Script
  pub appends : TellsCuts Tells s (lines_to_come cutter []) old last new
  pub lines : count ≡ length last.seen
  pub history : next ≡ place (history_of (core_of last))
