-- Ends: what a whole script has read, and what is written of it.
use Rattle.std.specs.Prelude.{◌≡◌, ℕ, ◌-◌, ◌≤◌, ◌<◌, ◌⊎◌, ◌++◌, List, length, take, Bool}
use Rattle.std.specs.Prelude.{false}
use mathlib.Core.List.{IsPrefix}
use Rattle.pt_grammar.specs.declared.cut.Cut.{Cut}
use Rattle.pt_grammar.specs.Lines.{CutterView, HasNoWholeLine, lines, lines_to_come}
use Rattle.pt_engine.specs.declared.fault.ScriptFault.{ScriptFault}
use Rattle.pt_engine.specs.declared.fault.ScriptFault.TheVariants.{Read, Write, Memory}
use Rattle.pt_model.specs.Histories.{place}
use Rattle.pt_legal.specs.Cores.{history_of}
use Rattle.pt_engine.specs.Scripts.{Script, empty_script, core_of}
use Rattle.pt_script.specs.Tellings.{Telling}
use Rattle.pt_script.specs.Texts.{IsBroken, WriterView}

-- exactly what may be written for these bytes was written; the count is that of the lines, and next
-- is the place of the next entry
pub record IsScriptText (Tells : Telling) (bytes text : List ℕ) (count next : ℕ) : Type 0 where
  pub last : Script
  pub tells : Tells empty_script (lines bytes) last text
  pub lines : count ≡ length (lines bytes)
  pub history : next ≡ place (history_of (core_of last))

-- what was written begins a text that may be written for the first lines of these bytes
pub record BeginsScriptText (Tells : Telling) (bytes text : List ℕ) : Type 0 where
  pub count : ℕ
  pub last : Script
  pub whole : List ℕ
  pub within : count ≤ length (lines bytes)
  pub tells : Tells empty_script (take count (lines bytes)) last whole
  pub begins : IsPrefix text whole

-- lines from the front of these bytes were told of by this text, and a cutter holds the rest of the
-- bytes
pub record HasAnsweredLines (Tells : Telling) (bytes : List ℕ) (cutter : CutterView) (s : Script)
    (text : List ℕ) : Type 0 where
  pub cuts : List Cut
  pub given : (more : List ℕ) → lines (bytes ++ more) ≡ cuts ++ lines_to_come cutter more
  pub tells : Tells empty_script cuts s text

-- each whole line in these bytes was told of, by this text and nothing else; the rest of the bytes
-- is the beginning of a line
pub record TellsWhole (Tells : Telling) (bytes text : List ℕ) : Type 0 where
  pub rest : CutterView
  pub last : Script
  pub answered : HasAnsweredLines Tells bytes rest last text
  pub begun : HasNoWholeLine rest

-- what a reader gave, what it gave before its latest read, how often it failed, the number of reads
-- meanwhile, and whether it has reported its end
pub record ReaderView : Type 0 where
  pub given : List ℕ
  pub earlier : List ℕ
  pub failures : ℕ
  pub reads : ℕ
  pub has_ended : Bool

-- the same for a reader of any type, from what contracts see of it: what it gave, what it gave
-- before its latest read, how often it failed, the number of its reads, and whether it has reported
-- its end; the last two arguments are the reader before and after
abbrev pub reader_view : {R : Type 0} → (R → List ℕ) → (R → List ℕ) → (R → ℕ) → (R → ℕ) → (R → Bool)
    → R → R → ReaderView
reader_view given earlier failures reads ended old new = record {
  given = given new;
  earlier = earlier new;
  failures = failures new;
  reads = reads new - reads old;
  has_ended = ended new;
}

-- how a run went: the reader and the writer after it, and the most reads that it may make
-- [profile]
pub record RunView : Type 0 where
  pub reader : ReaderView
  pub writer : WriterView
  pub limit : ℕ

-- why reading is given up: a read failed; or the number of reads reached its limit, and each gave a
-- byte or more
abbrev pub IsCutInput : RunView → Type 0
IsCutInput c =
    (c.reader.failures ≡ 1)
    ⊎ ((c.reader.failures ≡ 0) × (c.reader.reads ≡ c.limit) × (c.limit ≤ length c.reader.given))

-- a read fault: no end was reported, and what is told of each line that had come in whole is
-- written and flushed
pub record IsReadFault (Tells : Telling) (c : RunView) : Type 0 where
  pub cause : IsCutInput c
  pub no_end : c.reader.has_ended ≡ false
  pub whole : TellsWhole Tells c.reader.given c.writer.taken
  pub flushed : c.writer.flushed ≡ c.writer.taken
  pub wrote : c.writer.failures ≡ 0
  pub accepted : c.writer.rejections ≡ 0

-- a write fault: the writer broke, and not all that had to be written is flushed; but what is told
-- of each line that was whole before the latest read is
pub record IsWriteFault (Tells : Telling) (c : RunView) : Type 0 where
  pub cause : IsBroken c.writer.failures c.writer.rejections
  pub begins : BeginsScriptText Tells c.reader.given c.writer.taken
  pub short : length c.writer.flushed < length begins.whole
  pub whole : TellsWhole Tells c.reader.earlier c.writer.flushed
  pub read : c.reader.failures ≡ 0

-- lack of memory: neither device failed, and what is told of each line that was whole before the
-- latest read is written and flushed
pub record IsMemoryFault (Tells : Telling) (c : RunView) : Type 0 where
  pub read : c.reader.failures ≡ 0
  pub wrote : c.writer.failures ≡ 0
  pub accepted : c.writer.rejections ≡ 0
  pub whole : TellsWhole Tells c.reader.earlier c.writer.taken
  pub flushed : c.writer.flushed ≡ c.writer.taken

-- when each fault occurs
abbrev pub IsFaultOf : Telling → RunView → ScriptFault → Type 0
IsFaultOf Tells c Read = IsReadFault Tells c
IsFaultOf Tells c Write = IsWriteFault Tells c
IsFaultOf Tells c Memory = IsMemoryFault Tells c
