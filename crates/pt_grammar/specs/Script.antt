-- Script: which text spells which line of a script.
use Rattle.std.specs.Prelude.{◌≡◌, ℕ, ◌++◌, List, ◌∷◌, Option, None, Some, Result, Ok, Err, IfOk}
use Rattle.std.specs.Prelude.{IfErr, length, nat_lt, codes, if◌then◌else◌}
use Rattle.std.specs.Str.{bytes_eq}
use Rattle.pt_types.specs.declared.call.Call.{Call}
use Rattle.pt_types.specs.declared.outcome.Refusal.{Refusal}
use Rattle.pt_types.specs.declared.outcome.Refusal.TheVariants as refusal
use Rattle.pt_grammar.specs.declared.call_line.CallLine.{CallLine}
use Rattle.pt_grammar.specs.declared.call_line.CallLine.TheVariants as line
use Rattle.pt_grammar.specs.declared.client.Who.{Who}
use Rattle.pt_grammar.specs.declared.client.Who.TheVariants.{Named, Star, Unknown}
use Rattle.pt_grammar.specs.declared.cut.Cut.{Cut}
use Rattle.pt_grammar.specs.declared.cut.Cut.TheVariants.{Line, Long}
use Rattle.pt_grammar.specs.declared.script_line.ScriptBody.{ScriptBody}
use Rattle.pt_grammar.specs.declared.script_line.ScriptBody.TheVariants.{Hello, Ask, Die, Tick}
use Rattle.pt_grammar.specs.declared.script_line.ScriptLine.{ScriptLine}
use Rattle.pt_grammar.specs.ClientNames.{IsClientName}
use Rattle.pt_grammar.specs.Clients.{who_text, who_named, who_of, before_space, after_space}
use Rattle.pt_grammar.specs.Grammar.{Spells}
use Rattle.pt_grammar.specs.Lines.{CutterView, lines_to_come}
use Rattle.pt_grammar.specs.Reading.{call_read}

-- the text after a client spells this: a hello, a call or `die`; under `*` a moment, and nothing
-- else  [profile]
abbrev pub SpellsBody : Who → List ℕ → ScriptBody → Type 0
SpellsBody (Named name) rest (Hello p) = IsClientName name × Spells rest (line.Hello p)
SpellsBody (Named name) rest (Ask request) = IsClientName name × Spells rest (line.Ask request)
SpellsBody (Named name) rest Die = IsClientName name × (rest ≡ codes "die")
SpellsBody Star rest (Tick clock t) = Spells rest (line.Tick clock t)
SpellsBody who rest body = ⊥

-- the text spells a line of a script: the client, one space, and what it says
pub record SpellsScript (text : List ℕ) (who : Who) (body : ScriptBody) : Type 0 where
  pub rest : List ℕ
  pub says : SpellsBody who rest body
  pub spelled : text ≡ who_text who ++ 32 ∷ rest

-- a line that is too long: it belongs to no client, and is LONG  [profile]
abbrev pub long_line : ScriptLine
long_line = record { who = Unknown; body = Err refusal.Long }

-- a text is read as this line of a script: its client, and exactly what it spells, or otherwise
-- LONG past 128 bytes and SYNTAX up to them  [profile]
pub record IsReadAs (text : List ℕ) (read : ScriptLine) : Type 0 where
  pub who : read.who ≡ who_of text
  pub found : IfOk read.body (SpellsScript text read.who)
  pub exact :
      (who : Who) (body : ScriptBody) → SpellsScript text who body
      → read ≡ record { who = who; body = Ok body }
  pub err :
      IfErr read.body
      (λ why. why ≡ (if nat_lt 128 (length text) then refusal.Long else refusal.Syntax))

-- what a cutter gives is read as this line of a script
abbrev pub IsReadOf : Cut → ScriptLine → Type 0
IsReadOf (Line text) read = IsReadAs text.items read
IsReadOf Long read = read ≡ long_line

-- what a script's line says, from what it would be on a connection
abbrev pub body_of : Who → CallLine → Result ScriptBody Refusal
body_of (Named name) (line.Hello p) = Ok (Hello p)
body_of (Named name) (line.Ask request) = Ok (Ask request)
body_of Star (line.Tick clock t) = Ok (Tick clock t)
body_of who read = Err refusal.Syntax

-- what a line of a script says, if it can be read
abbrev pub body_from : Who → Result CallLine Refusal → Result ScriptBody Refusal
body_from who (Ok read) = body_of who read
body_from who (Err why) = Err why

-- what is read after a client and one space
abbrev pub body_read : Who → List ℕ → Result ScriptBody Refusal
body_read (Named name) rest =
    if bytes_eq rest (codes "die") then Ok Die
    else body_from (Named name) (call_read rest)
body_read Star rest = body_from Star (call_read rest)
body_read Unknown rest = Err refusal.Syntax

-- what a client's line says: this call, or nothing that can be read
abbrev pub call_or_syntax : Option Call → Result ScriptBody Refusal
call_or_syntax (Some request) = Ok (Ask request)
call_or_syntax None = Err refusal.Syntax

-- what is read after a client, if a space follows it
abbrev pub body_after : Who → Option (List ℕ) → Result ScriptBody Refusal
body_after who None = Err refusal.Syntax
body_after who (Some rest) = body_read who rest

-- what a text that is not too long is read as
abbrev pub short_read : List ℕ → ScriptLine
short_read text = record {
  who = who_named (before_space text);
  body = body_after (who_named (before_space text)) (after_space text);
}

-- what a text is read as
abbrev pub script_read : List ℕ → ScriptLine
script_read text = if nat_lt 128 (length text) then long_line else short_read text

-- what a cut line is read as in a script
abbrev pub script_of : Cut → ScriptLine
script_of (Line text) = script_read text.items
script_of Long = long_line

-- the next line to come is read as this line of a script
pub record IsNextScriptLine (old : CutterView) (line : ScriptLine) (new : CutterView) : Type 0 where
  pub cut : Cut
  pub read : line ≡ script_of cut
  pub given : (more : List ℕ) → lines_to_come old more ≡ cut ∷ lines_to_come new more
