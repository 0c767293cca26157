-- Reading: how a text is read, if it can be read.
use Rattle.std.specs.Prelude.{◌≡◌, ℕ, List, [], ◌∷◌, Option, None, Result, Ok, Err, IfOk, IfErr}
use Rattle.std.specs.Prelude.{length, nat_lt, if◌then◌else◌}
use Rattle.std.specs.Option.{option_map, option_and_then, ok_or}
use Rattle.pt_types.specs.declared.call.Call.{Call}
use Rattle.pt_types.specs.declared.call.Call.TheVariants as call
use Rattle.pt_types.specs.declared.outcome.Refusal.{Refusal}
use Rattle.pt_types.specs.declared.outcome.Refusal.TheVariants.{Syntax, Long}
use Rattle.pt_types.specs.NamedVerbs.{call_on}
use Rattle.pt_grammar.specs.declared.call_line.CallLine.{CallLine}
use Rattle.pt_grammar.specs.declared.call_line.CallLine.TheVariants as line
use Rattle.pt_grammar.specs.declared.cut.Cut.{Cut}
use Rattle.pt_grammar.specs.declared.cut.Cut.TheVariants as cut
use Rattle.pt_grammar.specs.declared.verb.Verb.{Verb}
use Rattle.pt_grammar.specs.declared.verb.Verb.TheVariants.{Hello, Moment, MutexInit, BarrierInit}
use Rattle.pt_grammar.specs.declared.verb.Verb.TheVariants.{Wait, Timedwait, Clockwait, Named}
use Rattle.pt_grammar.specs.declared.verb.Verb.TheVariants.{Timed}
use Rattle.pt_grammar.specs.declared.verb.Verb.TheVariants.{Clocked}
use Rattle.pt_grammar.specs.Verbs.{verb_of, call_until, call_by_clock}
use Rattle.pt_grammar.specs.Lines.{CutterView, lines_to_come}
use Rattle.pt_fields.specs.Fields.{fields}
use Rattle.pt_grammar.specs.Grammar.{Spells}
use Rattle.pt_fields.specs.Numbers.{read_number}
use Rattle.pt_grammar.specs.Arguments.{read_name, read_kind, read_robust, single_field, first_then}
use Rattle.pt_grammar.specs.Arguments.{read_priority}
use Rattle.pt_grammar.specs.Arguments.{read_moment, two_numbers, name_and_deadline}
use Rattle.pt_grammar.specs.Arguments.{name_clock_and_deadline}

-- the line of a verb and the fields after it
abbrev pub line_of : Verb → List (List ℕ) → Option CallLine
line_of Hello args =
    option_map line.Hello (option_and_then read_priority (single_field read_number args))
line_of (Moment clock) args =
    option_map (line.Tick clock) (option_and_then read_moment (two_numbers args))
line_of MutexInit args =
    option_map (λ a. line.Ask (call.MutexInit a.0 a.1.0 a.1.1))
    (first_then read_name (first_then read_kind (single_field read_robust)) args)
line_of BarrierInit args =
    option_map (λ a. line.Ask (call.BarrierInit a.0 a.1))
    (first_then read_name (single_field read_number) args)
line_of Wait args =
    option_map (λ a. line.Ask (call.Wait a.0 a.1)) (first_then read_name
    (single_field read_name) args)
line_of Timedwait args =
    option_map (λ a. line.Ask (call.Timedwait a.0 a.1.0 a.1.1))
    (first_then read_name name_and_deadline args)
line_of Clockwait args =
    option_map (λ a. line.Ask (call.Clockwait a.0 a.1.0 a.1.1.0 a.1.1.1))
    (first_then read_name name_clock_and_deadline args)
line_of (Named verb) args = option_map (λ n. line.Ask (call_on verb n))
    (single_field read_name args)
line_of (Timed verb) args =
    option_map (λ a. line.Ask (call_until verb a.0 a.1)) (name_and_deadline args)
line_of (Clocked verb) args =
    option_map (λ a. line.Ask (call_by_clock verb a.0 a.1.0 a.1.1)) (name_clock_and_deadline args)

-- the line of a verb and the fields after it asks for this call, or for none
abbrev pub IsCallOfVerb : Verb → List (List ℕ) → Option Call → Type 0
IsCallOfVerb Hello args call = call ≡ None
IsCallOfVerb (Moment clock) args call = call ≡ None
IsCallOfVerb verb args call = option_map line.Ask call ≡ line_of verb args

-- the line of these fields
abbrev pub line_of_fields : List (List ℕ) → Option CallLine
line_of_fields [] = None
line_of_fields (word ∷ args) = option_and_then (λ verb. line_of verb args) (verb_of word)

-- the line that a text is read as
abbrev pub line_read : List ℕ → Option CallLine
line_read text = line_of_fields (fields text)

-- what a line of a connection is read as, or why it can't be read
abbrev pub call_read : List ℕ → Result CallLine Refusal
call_read text = if nat_lt 128 (length text) then Err Long else ok_or (line_read text) Syntax

-- a text is read as this on a connection: exactly what it spells, or otherwise LONG past 128 bytes
-- and SYNTAX up to them  [profile]
pub record IsCallReadAs (text : List ℕ) (read : Result CallLine Refusal) : Type 0 where
  pub found : IfOk read (Spells text)
  pub exact : (request : CallLine) → Spells text request → read ≡ Ok request
  pub err : IfErr read (λ why. why ≡ (if nat_lt 128 (length text) then Long else Syntax))

-- what a cutter gives is read as this on a connection: LONG if it was too long  [profile]
abbrev pub IsCallReadOf : Cut → Result CallLine Refusal → Type 0
IsCallReadOf (cut.Line text) read = IsCallReadAs text.items read
IsCallReadOf cut.Long read = read ≡ Err Long

-- what a cut line is read as on a connection
abbrev pub call_of_cut : Cut → Result CallLine Refusal
call_of_cut (cut.Line text) = call_read text.items
call_of_cut cut.Long = Err Long

-- the next line to come is read as this line of a connection
pub record IsNextCallLine (old : CutterView) (reading : Result CallLine Refusal)
    (new : CutterView) : Type 0 where
  pub cut : Cut
  pub read : reading ≡ call_of_cut cut
  pub given : (more : List ℕ) → lines_to_come old more ≡ cut ∷ lines_to_come new more
