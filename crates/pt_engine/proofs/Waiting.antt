-- The line of a call that is open after an event's entry is the event's own line, or is stored.
use Rattle.std.proofs.Common.{◌≡◌, ℕ, ◌==◌, ◌⊎◌, inl, inr, Bool, true, false, cond, List, ◌∷◌}
use Rattle.std.proofs.Common.{Option, Some, None, refl, sym, ap, ◌∙◌, subst, arith, eq-eqb}
use Rattle.std.proofs.lemmas.Bool.Decides.{nat_tests}
use Rattle.pt_types.specs.declared.call.Call.{Call as FunctionCall}
use Rattle.pt_types.specs.declared.outcome.Outcome.{Outcome}
use Rattle.pt_types.specs.Tables.{reply}
use Rattle.pt_model.specs.declared.entry.Entry.{Entry}
use Rattle.pt_model.specs.declared.entry.Entry.TheVariants as entry
use Rattle.pt_model.specs.declared.entry.Event.{Event}
use Rattle.pt_model.specs.declared.entry.Event.TheVariants as event
use Rattle.pt_model.specs.declared.waiting_call.WaitingCall.{WaitingCall}
use Rattle.pt_model.specs.Searches.{In}
use Rattle.pt_model.specs.Histories.{History, ◌▷◌, place}
use Rattle.pt_model.specs.Answers.{outcome, open_calls, open_place}
use Rattle.pt_model.specs.Room.{entry_for}
use Rattle.pt_model.specs.Steps.{Step, calls, Follows}
use Rattle.pt_model.specs.Verdicts.{verdict}
use Rattle.pt_model.proofs.Allowances.{allowed}
use Rattle.pt_model.proofs.Effects.{effect}
use Rattle.pt_model.proofs.Found.{newest_call}
use Rattle.pt_model.proofs.Once.{open_unanswered}
use Rattle.pt_model.proofs.OneEach.{none_of_client}
use Rattle.pt_model.proofs.Opens.{left, was_open}
use Rattle.pt_legal.specs.Applying.{outcome_at_once}
use Rattle.pt_engine.specs.declared.line_id.LineId.{LineId}
use Rattle.pt_engine.specs.Scripts.{calls_with}
use Rattle.pt_engine.specs.Engines.{AreLines, StoresPendingLine, IsLineOf, latest_line, mark_of}
use Rattle.pt_engine.specs.Engines.{own_first}
use Rattle.pt_engine.proofs.Answered.{IsForAnswered}
use Rattle.pt_engine.proofs.Callers.{stands_own}
use Rattle.pt_engine.proofs.CallLines.{line_here, line_on}

-- the client of a call had no open call
abbrev IsFree : History → Entry → Type 0
IsFree h (entry.Call c call r) = open_place h c ≡ None
IsFree h _ = Unit {0}

free : (h : History) (e : Entry) → Step h e → IsFree h e
free h _ (calls c call n a o) = o
free h _ s = tt

same_sym : (m n : ℕ) → (m == n) ≡ (n == m)
same_sym m n = grind (arith, nat_tests)

-- with the event's own line put first, the stored lines are the same before and after it is stored
pub own_same : (o : Option Outcome) (v : Event) (line : LineId) (asked stored : List (ℕ × LineId))
    → StoresPendingLine o (mark_of v) line asked stored → (c : ℕ)
    → latest_line (own_first (mark_of v) line stored) c
    ≡ latest_line (own_first (mark_of v) line asked) c
own_same None (event.Call d call) line asked stored sets c = go (c == d) refl
  where
    go : (b : Bool) → (c == d) ≡ b
        → cond b (Some line) (latest_line stored c) ≡ cond b (Some line) (latest_line asked c)
    go true at = refl
    go false at =
        sets c ∙ ap (λ b. cond b (Some line) (latest_line asked c)) (same_sym d c ∙ at)
own_same None (event.Join p) line asked stored sets c = ap (λ rows. latest_line rows c) sets
own_same None (event.Death d) line asked stored sets c = ap (λ rows. latest_line rows c) sets
own_same None (event.Moment k t) line asked stored sets c = ap (λ rows. latest_line rows c) sets
own_same (Some x) v line asked stored sets c =
    ap (λ rows. latest_line (own_first (mark_of v) line rows) c) sets

-- the line of a call that waits is stored
waits_stored : (v : Event) (line : LineId) (asked stored : List (ℕ × LineId))
    → StoresPendingLine None (mark_of v) line asked stored → (c : ℕ)
    → latest_line stored c ≡ latest_line (own_first (mark_of v) line asked) c
waits_stored (event.Call d call) line asked stored sets c =
    sets c ∙ ap (λ b. cond b (Some line) (latest_line asked c)) (same_sym d c)
waits_stored (event.Join p) line asked stored sets c = ap (λ rows. latest_line rows c) sets
waits_stored (event.Death d) line asked stored sets c = ap (λ rows. latest_line rows c) sets
waits_stored (event.Moment k t) line asked stored sets c = ap (λ rows. latest_line rows c) sets

-- the line of a call at a place: the event's own, or else one that was stored before
abbrev pub HasLine : History → Event → LineId → List (ℕ × LineId) → List (ℕ × LineId) → ℕ → ℕ
    → Type 0
HasLine h v line asked lines j c =
    IsLineOf (own_first (mark_of v) line asked) (calls_with v line (place h) lines) c j
    × (IsLineOf asked (calls_with v line (place h) lines) c j ⊎ (j ≡ place h))

-- the line of a call that is open after the event is stored, whether or not the event's own call is
-- answered
pub stored_line : (o : Option Outcome) (h after : History) (v : Event) (line : LineId)
    (asked stored lines : List (ℕ × LineId)) (w : WaitingCall)
    → o ≡ outcome_at_once v after (place h) → StoresPendingLine o (mark_of v) line asked stored
    → In w (open_calls after) → HasLine h v line asked lines w.place w.client
    → IsLineOf stored (calls_with v line (place h) lines) w.client w.place
stored_line None h after v line asked stored lines w told sets i has =
    (has.0.0, (waits_stored v line asked stored sets w.client ∙ has.0.1.0, has.0.1.1))
stored_line (Some x) h after (event.Call d call) line asked stored lines w told sets i has =
    by has.1
  where
    noted : List (ℕ × LineId)
    noted = calls_with (event.Call d call) line (place h) lines

    by : IsLineOf asked noted w.client w.place ⊎ (w.place ≡ place h)
        → IsLineOf stored noted w.client w.place
    by (inl is) = subst (λ rows. IsLineOf rows noted w.client w.place) (sym sets) is
    by (inr at) =
        let none : Some x ≡ None =
        told ∙ sym (ap (outcome after) at) ∙ open_unanswered after w i in
        absurd cc
stored_line (Some x) h after (event.Join p) line asked stored lines w told sets i has =
    subst (λ rows. IsLineOf rows lines w.client w.place) (sym sets) has.0
stored_line (Some x) h after (event.Death d) line asked stored lines w told sets i has =
    subst (λ rows. IsLineOf rows lines w.client w.place) (sym sets) has.0
stored_line (Some x) h after (event.Moment k t) line asked stored lines w told sets i has =
    subst (λ rows. IsLineOf rows lines w.client w.place) (sym sets) has.0

-- an event's entry after a history whose open calls have stored lines
module _ (h : History) (line : LineId) (asked lines : List (ℕ × LineId))
    (are : AreLines asked lines h) where
  -- a call that was open has its line
  old_line : (v : Event) (w : WaitingCall) → IsFree h (entry_for h v) → In w (open_calls h)
      → IsLineOf (own_first (mark_of v) line asked) (calls_with v line (place h) lines)
      w.client w.place
  old_line (event.Call d call) w none i = go (w.client == d) refl
    where
      is : IsLineOf asked lines w.client w.place
      is = are.stored w i

      go : (b : Bool) → (w.client == d) ≡ b
          → IsLineOf ((d, line) ∷ asked)
          (calls_with (event.Call d call) line (place h) lines) w.client w.place
      go true at =
          let same : w.client ≡ d = grind (arith, nat_tests) in
          absurd (none_of_client (open_calls h) d w none i same)
      go false at = (
        is.0,
        (
          ap (λ b. cond b (Some line) (latest_line asked w.client)) at ∙ is.1.0,
          line_on (event.Call d call) line is.0 (place h) w.place lines is.1.1,
        ),
      )
  old_line (event.Join p) w none i = are.stored w i
  old_line (event.Death d) w none i = are.stored w i
  old_line (event.Moment k t) w none i = are.stored w i

  old_has : (v : Event) → Step h (entry_for h v) → (w : WaitingCall) → In w (open_calls h)
      → HasLine h v line asked lines w.place w.client
  old_has v step w i =
      let is = are.stored w i in (
        old_line v w (free h (entry_for h v) step) i,
        inl (is.0, (is.1.0, line_on v line is.0 (place h) w.place lines is.1.1)),
      )

  -- so has the event's own call
  here_has : (d : ℕ) (call : FunctionCall) → HasLine h (event.Call d call) line asked lines (place h) d
  here_has d call = (
    (
      line,
      (
        ap (λ b. cond b (Some line) (latest_line asked d)) (eq-eqb d d refl),
        line_here d call line (place h) lines (are.fresh (place h) (omega arith)),
      ),
    ),
    inr refl,
  )

  own_has : (v : Event) (w : WaitingCall) → In w (left h (entry_for h v))
      → HasLine h v line asked lines w.place w.client
  own_has (event.Call d call) w i =
      let made = effect h d call (reply (verdict h d call)) in
      let at = (newest_call h d made (allowed h d call) w i).0 in
      let by = stands_own h d made (allowed h d call) w i in
      subst (λ j. HasLine h (event.Call d call) line asked lines j w.client) (sym at)
      (subst (λ c. HasLine h (event.Call d call) line asked lines (place h) c) (sym by)
      (here_has d call))
  own_has (event.Join p) w i = absurd i
  own_has (event.Death d) w i = absurd i
  own_has (event.Moment k t) w i = absurd i

  -- so have all calls that are open after the entry
  pub open_has : (v : Event) → Follows h → Step h (entry_for h v) → (w : WaitingCall)
      → In w (open_calls (h ▷ entry_for h v)) → HasLine h v line asked lines w.place w.client
  open_has v follows step w i = by (was_open h (entry_for h v) follows step w i)
    where
      by : In w (open_calls h) ⊎ In w (left h (entry_for h v))
          → HasLine h v line asked lines w.place w.client
      by (inl old) = old_has v step w old
      by (inr own) = own_has v w own

  -- so have all calls that the entry answers
  pub answered_has : (v : Event) → Step h (entry_for h v)
      → IsForAnswered (HasLine h v line asked lines) h (entry_for h v)
  answered_has (event.Call d call) step = here_has d call
  answered_has (event.Join p) step = old_has (event.Join p) step
  answered_has (event.Death d) step = old_has (event.Death d) step
  answered_has (event.Moment k t) step = old_has (event.Moment k t) step
