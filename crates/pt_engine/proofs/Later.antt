-- What holds of the calls that are open after an event's entry holds of those that are answered
-- later, and of those that stay open, as long as no other event comes.
use Rattle.std.proofs.Common.{◌≡◌, ℕ, ◌⊎◌, inl, inr, List, [], ◌∷◌, Option, Some, None, refl}
use Rattle.std.specs.List.{cons_option}
use Rattle.pt_model.specs.declared.entry.Entry.{Entry}
use Rattle.pt_model.specs.declared.entry.Entry.TheVariants.{Call}
use Rattle.pt_model.specs.declared.entry.Event.{Event}
use Rattle.pt_model.specs.declared.waiting_call.WaitingCall.{WaitingCall}
use Rattle.pt_model.specs.Searches.{In, Each}
use Rattle.pt_model.specs.Histories.{History, ◌▷◌, append_entries}
use Rattle.pt_model.specs.Answers.{entry_replies, open_calls, replies_from}
use Rattle.pt_model.specs.Legal.{event_of, events_of}
use Rattle.pt_model.specs.Steps.{Step, Follows}
use Rattle.pt_model.proofs.Histories.{follows-part}
use Rattle.pt_model.proofs.Lists.{Each-append}
use Rattle.pt_model.proofs.Opens.{left, was_open}
use Rattle.pt_engine.proofs.Answered.{IsForAnswered, IsOfCall, told_each}
use Rattle.pt_engine.proofs.Followers.{cons_none}

-- if a list of entries has no event, its first entry has none
none_first : (o : Option Event) (vs : List Event) → cons_option o vs ≡ [] → o ≡ None
none_first None vs e = refl
none_first (Some v) vs e = absurd cc

module _ (P : ℕ → ℕ → Type 0) where
  -- a statement about all open calls, by their places and clients
  abbrev pub IsForOpen : History → Type 0
  IsForOpen h = (w : WaitingCall) → In w (open_calls h) → P w.place w.client

  -- the calls that an entry with no event answers were open
  answered_quiet : (h : History) (e : Entry) → event_of e ≡ None → IsForOpen h
      → IsForAnswered P h e
  answered_quiet h (Call c call r) none all = absurd cc
  answered_quiet h e none all = all

  -- no other call is open after it
  open_quiet : (h : History) (e : Entry) → event_of e ≡ None → Follows h → Step h e
      → IsForOpen h → IsForOpen (h ▷ e)
  open_quiet h e none f s all w i = by e none (was_open h e f s w i)
    where
      by : (x : Entry) → event_of x ≡ None → In w (open_calls h) ⊎ In w (left h x)
          → P w.place w.client
      by x none (inl old) = all w old
      by (Call c call r) none (inr own) = absurd cc
      by x none (inr own) = absurd own

  quiet_each : (h : History) (es : List Entry) → events_of es ≡ [] → Follows (append_entries h es)
      → IsForOpen h → Each (IsOfCall P) (replies_from h es) × IsForOpen (append_entries h es)
  quiet_each h [] none f all = (tt, all)
  quiet_each h (e ∷ es) none f all =
      let before = follows-part (h ▷ e) es f in
      let quiet = none_first (event_of e) (events_of es) none in
      let later = quiet_each (h ▷ e) es (cons_none (event_of e) (events_of es) none) f
      (open_quiet h e quiet before.0 before.1 all) in (
        Each-append (IsOfCall P) (entry_replies h e) (replies_from (h ▷ e) es)
            (told_each P h e before.0 before.1 (answered_quiet h e quiet all)) later.0,
        later.1,
      )

  -- the answers of an entry and of those that follow it
  pub event_each : (h : History) (e : Entry) (es : List Entry) → events_of es ≡ []
      → Follows (append_entries (h ▷ e) es) → IsForAnswered P h e → IsForOpen (h ▷ e)
      → Each (IsOfCall P) (replies_from h (e ∷ es)) × IsForOpen (append_entries (h ▷ e) es)
  event_each h e es none f own all =
      let before = follows-part (h ▷ e) es f in
      let later = quiet_each (h ▷ e) es none f all in (
        Each-append (IsOfCall P) (entry_replies h e) (replies_from (h ▷ e) es)
            (told_each P h e before.0 before.1 own) later.0,
        later.1,
      )
