-- Transcripts: the lines of a session with the words that answered them.
use Rattle.std.specs.Prelude.{ℕ, suc, ◌≡◌, ◌≢◌, ◌++◌, ◌&&◌, Bool, true, false, List, [], ◌∷◌}
use Rattle.std.specs.Prelude.{length, map, Option, Some, None, Result, Ok, Err, is_some}
use Rattle.std.specs.Prelude.{if◌then◌else◌}
use Rattle.std.specs.List.{flat_map}
use Rattle.std.specs.Option.{option_map}
use Rattle.std.specs.declared.snapshot.Snapshot.{Snapshot}
use Rattle.pt_types.specs.declared.call.Call.{Call}
use Rattle.pt_types.specs.declared.outcome.Outcome.{Outcome as Answer}
use Rattle.pt_types.specs.declared.outcome.Outcome.TheVariants.{Done}
use Rattle.pt_types.specs.declared.outcome.Refusal.{Refusal as Reason}
use Rattle.pt_types.specs.declared.outcome.Refusal.TheVariants.{Syntax, Long, Dead, Nohello}
use Rattle.pt_grammar.specs.declared.call_line.CallLine.TheVariants.{Hello, Ask, Tick}
use Rattle.pt_lines.specs.declared.reply.Word.{Word}
use Rattle.pt_lines.specs.declared.reply.Word.TheVariants.{Outcome, Refusal}
use Rattle.pt_lines.specs.Replies.{reply_line}
use Rattle.pt_hub.specs.declared.pass.Receipt.{Receipt}
use Rattle.pt_hub.specs.declared.pass.Tick.{Tick as Reported}
use Rattle.pt_hub.specs.Passes.{PassView, LeftView, ClockView}
use Rattle.pt_session.specs.declared.kinds.Retention.{Retention}
use Rattle.pt_session.specs.Readings.{Reading}
use Rattle.pt_session.specs.Retained.{moments_by, receipts_by}

-- a submitted line with its word, or none if its call is open  [profile]
abbrev pub Exchange : Type 0
Exchange = Reading × Option Word

-- the exchanges of a log
abbrev pub exchanges_of : List (Snapshot Reading × Option Word) → List Exchange
exchanges_of ps = map (λ p. (p.0.value, p.1)) ps

-- the priority of a hello, if it was accepted  [profile]
abbrev pub hello_by : Exchange → List ℕ
hello_by (Ok (Hello p), Some (Outcome x)) = p ∷ []
hello_by _ = []

-- a call with its answer, or none if it is open, if the call was accepted  [profile]
abbrev pub call_by : Exchange → List (Call × Option Answer)
call_by (Ok (Ask call), Some (Outcome x)) = (call, Some x) ∷ []
call_by (Ok (Ask call), None) = (call, None) ∷ []
call_by _ = []

-- a moment with its clock, if it was accepted  [profile]
abbrev pub moment_by : Exchange → List Reported
moment_by (Ok (Tick clock t), Some (Outcome x)) = record { clock = clock; moment = t } ∷ []
moment_by _ = []

-- all accepted hellos, calls and moments, each in order  [profile]
abbrev pub hellos_in : List Exchange → List ℕ
hellos_in xs = flat_map hello_by xs

abbrev pub calls_in : List Exchange → List (Call × Option Answer)
calls_in xs = flat_map call_by xs

abbrev pub moments_in : List Exchange → List Reported
moments_in xs = flat_map moment_by xs

-- whether a list has any elements
abbrev pub is_not_empty : List ℕ → Bool
is_not_empty [] = false
is_not_empty (p ∷ ps) = true

-- whether a hello was accepted  [profile]
abbrev pub has_joined : List Exchange → Bool
has_joined xs = is_not_empty (hellos_in xs)

-- the refusal is of an event, and not of the line itself: neither SYNTAX nor LONG nor NOHELLO
-- [profile]
abbrev pub IsOfEvent : Reason → Type 0
IsOfEvent r = (r ≢ Syntax) × (r ≢ Long) × (r ≢ Nohello)

-- what answers a line whose event is refused for this reason. The hub refuses no event of a client
-- that it has as a line is refused, so the first three never come  [profile]
abbrev pub event_refusal : Reason → Reason
event_refusal Syntax = Dead
event_refusal Long = Dead
event_refusal Nohello = Dead
event_refusal r = r

-- the word is `0` or a refusal of an event  [profile]
abbrev pub IsDoneWord : Option Word → Type 0
IsDoneWord None = ⊥
IsDoneWord (Some (Outcome x)) = x ≡ Done
IsDoneWord (Some (Refusal r)) = IsOfEvent r

-- the word is an outcome or a refusal of an event, or there is none since the call is open
-- [profile]
abbrev pub IsCallWord : Option Word → Type 0
IsCallWord None = Unit {0}
IsCallWord (Some (Outcome x)) = Unit {0}
IsCallWord (Some (Refusal r)) = IsOfEvent r

-- this word may answer the line, given whether a hello was accepted before it: hello comes first
-- and only once, and a line that cannot be read is answered by its own refusal  [profile]
abbrev pub IsWordFor : Bool → Reading → Option Word → Type 0
IsWordFor joined (Err r) w = w ≡ Some (Refusal r)
IsWordFor joined (Ok (Tick clock t)) w = IsDoneWord w
IsWordFor false (Ok (Hello p)) w = IsDoneWord w
IsWordFor true (Ok (Hello p)) w = w ≡ Some (Refusal Nohello)
IsWordFor false (Ok (Ask call)) w = w ≡ Some (Refusal Nohello)
IsWordFor true (Ok (Ask call)) w = IsCallWord w

-- whether each of these lines was answered
abbrev pub all_answered : List Exchange → Bool
all_answered [] = true
all_answered (x ∷ xs) = is_some x.1 && all_answered xs

-- each further line was submitted after all lines before it were answered, and its word may answer
-- it  [profile]
abbrev pub AreAnsweredAfter : List Exchange → List Exchange → Type 0
AreAnsweredAfter before [] = Unit {0}
AreAnsweredAfter before (x ∷ xs) =
    (all_answered before ≡ true) × IsWordFor (has_joined before) x.0 x.1
    × AreAnsweredAfter (before ++ x ∷ []) xs

-- each line was submitted after all lines before it were answered, and its word may answer it
-- [profile]
abbrev pub IsTranscript : List Exchange → Type 0
IsTranscript xs = AreAnsweredAfter [] xs

-- the lines without their words
abbrev pub lines_of_exchanges : List Exchange → List Reading
lines_of_exchanges xs = map (λ x. x.0) xs

-- the text of the answer to line n  [profile]
abbrev pub answer_line : ℕ → Option Word → List ℕ
answer_line n None = []
answer_line n (Some w) = reply_line None n w

-- the text of the answers to these lines, if the first is line n  [profile]
abbrev pub text_from : ℕ → List Exchange → List ℕ
text_from n [] = []
text_from n (x ∷ xs) = answer_line n x.1 ++ text_from (suc n) xs

-- the text of the answers to all lines, which are numbered from 1  [profile]
abbrev pub text_of : List Exchange → List ℕ
text_of xs = text_from 1 xs

-- the calls of receipts, with the answers that were taken
abbrev pub calls_of : List Receipt → List (Call × Option Answer)
calls_of rs = map (λ r. (r.call, r.answer)) rs

-- a client joined exactly if a hello was accepted; it has that hello's priority, and its receipts
-- are of the accepted calls  [profile]
abbrev pub IsPassOf : Retention → List Exchange → Option PassView → Type 0
IsPassOf r xs None = (hellos_in xs ≡ []) × (calls_in xs ≡ [])
IsPassOf r xs (Some p) =
    (hellos_in xs ≡ p.priority ∷ []) × (calls_of (receipts_by r p) ≡ calls_in xs)

-- the pass that a client left, without its Death
abbrev pub pass_of : LeftView → PassView
pass_of l =
    record {
      client = l.client;
      priority = l.priority;
      seen = l.joined;
      discarded = l.discarded;
      receipts = l.receipts;
    }

-- a client left something exactly if a hello was accepted; it had that hello's priority, and its
-- receipts are of the accepted calls  [profile]
abbrev pub IsLeftOf : Retention → List Exchange → Option LeftView → Type 0
IsLeftOf r xs left = IsPassOf r xs (option_map pass_of left)

-- a client, a clock, what is retained of them, and the lines that were submitted for them
pub record SessionState : Type 0 where
  pub retention : Retention
  pub pass : Option PassView
  pub clock : ClockView
  pub exchanges : List Exchange

-- each line has a word that may answer it; the client's calls and the clock's moments are the
-- accepted ones  [profile]
pub record IsSessionState (d : SessionState) : Type 0 where
  pub words : IsTranscript d.exchanges
  pub pass : IsPassOf d.retention d.exchanges d.pass
  pub clock : moments_by d.retention d.clock ≡ moments_in d.exchanges
