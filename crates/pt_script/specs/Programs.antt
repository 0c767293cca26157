-- Programs: how a program that tells what came of a script ends, and what it reports.
use Rattle.std.specs.Prelude.{◌≡◌, ℕ, ◌++◌, ◌⊎◌, true, List, [], ◌∷◌, codes}
use Rattle.pt_engine.specs.declared.fault.ScriptFault.{ScriptFault}
use Rattle.pt_engine.specs.declared.fault.ScriptFault.TheVariants.{Read, Write, Memory}
use Rattle.pt_script.specs.Tellings.{Telling}
use Rattle.pt_script.specs.Texts.{IsBroken, WriterView}
use Rattle.pt_script.specs.Ends.{RunView, IsFaultOf, IsScriptText}

-- the exit status after a fault: 3 for that of a device, 5 for lack of memory  [profile]
abbrev pub status_of : ScriptFault → ℕ
status_of Read = 3
status_of Write = 3
status_of Memory = 5

-- the words that report a fault
abbrev pub words_of : ScriptFault → List ℕ
words_of Read = codes "ptserver: read failed"
words_of Write = codes "ptserver: write failed"
words_of Memory = codes "ptserver: out of memory"

-- the line that reports a fault, with its newline
abbrev pub report_of : ScriptFault → List ℕ
report_of fault = words_of fault ++ 10 ∷ []

-- the writer broke while a line was written after the old text, or while it was flushed
pub record IsCutReport (old line : List ℕ) (w : WriterView) : Type 0 where
  pub front : List ℕ
  pub rest : List ℕ
  pub parts : line ≡ front ++ rest
  pub taken : w.taken ≡ old ++ front
  pub cause : IsBroken w.failures w.rejections

-- a line was written after the old text, and is flushed; or the writer broke
abbrev pub Reports : List ℕ → List ℕ → WriterView → Type 0
Reports old line w =
    ((w.taken ≡ old ++ line) × (w.flushed ≡ old ++ line)) ⊎ IsCutReport old line w

-- all was read, and its whole text is written and flushed
pub record IsDone (Tells : Telling) (c : RunView) : Type 0 where
  pub lines : ℕ
  pub entries : ℕ
  pub text : IsScriptText Tells c.reader.given c.writer.taken lines entries
  pub flushed : c.writer.flushed ≡ c.writer.taken
  pub ended : c.reader.has_ended ≡ true
  pub read : c.reader.failures ≡ 0
  pub wrote : c.writer.failures ≡ 0

-- how the program ends: with status 0 and no report, if all is done; otherwise with the status of a
-- fault, which is reported
pub data EndsWith (Tells : Telling) (c : RunView) (old : List ℕ) (errors : WriterView)
    (status : ℕ) : Type 0 where
  done : IsDone Tells c → errors.taken ≡ old → status ≡ 0 → EndsWith Tells c old errors status
  stops : (fault : ScriptFault) → IsFaultOf Tells c fault → Reports old (report_of fault) errors
      → status ≡ status_of fault → EndsWith Tells c old errors status
