-- How one event, with the entries that must follow it, changes a client's answers.
use Rattle.std.proofs.Common.{◌≡◌, ℕ, ◌+◌, ◌≤◌, true, false, cond, List, [], ◌∷◌, ◌++◌, Some}
use Rattle.std.proofs.Common.{is_some, refl, sym, ap, ◌∙◌, subst, arith}
use Rattle.std.proofs.lemmas.List.{append_cancel_left}
use Rattle.std.proofs.lemmas.List.Elements.{filter_map-append}
use Rattle.pt_model.specs.declared.entry.Entry.{Entry}
use Rattle.pt_model.specs.declared.entry.Event.{Event}
use Rattle.pt_model.specs.declared.entry.Event.TheVariants as event
use Rattle.pt_model.specs.Starts.{Start}
use Rattle.pt_model.specs.Histories.{History, Begin, ◌▷◌, place, append_entries, history_since}
use Rattle.pt_model.specs.Histories.{is_forced, outer}
use Rattle.pt_model.specs.Clients.{client_priority, is_alive}
use Rattle.pt_model.specs.Queries.{latest_call}
use Rattle.pt_model.specs.Answers.{entry_replies, replies_from}
use Rattle.pt_model.specs.Room.{entry_for}
use Rattle.pt_model.specs.Legal.{LegalSince, event_of, events_of}
use Rattle.pt_model.specs.Steps.{Step, Follows}
use Rattle.pt_model.proofs.Histories.{append_entries-append, place-append_entries}
use Rattle.pt_model.proofs.Legality.{events_of-legal, history_since-part, history_since-step}
use Rattle.pt_client_events.specs.Tallies.{reply_count_in, reply_count, open_call_count, own_call_count}
use Rattle.pt_client_events.specs.GoesOn.{ContinuesLegally}
use Rattle.pt_client_events.proofs.EntryTallies.{tally_step, reply_count_in-append, replies-append}
use Rattle.pt_client_events.proofs.ForcedTallies.{client_priority-quiet, latest_call-quiet, outer-quiet, tally-quiet}

event_of-entry : (h : History) (v : Event) → event_of (entry_for h v) ≡ Some v
event_of-entry h (event.Join p) = refl
event_of-entry h (event.Call c call) = refl
event_of-entry h (event.Death c) = refl
event_of-entry h (event.Moment z t) = refl

not_forced : (h : History) (v : Event) → is_forced (entry_for h v) ≡ false
not_forced h (event.Join p) = refl
not_forced h (event.Call c call) = refl
not_forced h (event.Death c) = refl
not_forced h (event.Moment z t) = refl

module _ (s : Start) (old : List Entry) (v : Event) (new : List Entry)
    (g : ContinuesLegally s old v new)
  where
    abbrev pub h : History
    h = history_since s old

    abbrev pub x : Entry
    x = entry_for (history_since s old) v

    abbrev fs : List Entry
    fs = g.extends.0

    legal : LegalSince s (old ++ x ∷ fs) (events_of old ++ v ∷ [])
    legal = subst (λ es. LegalSince s es (events_of old ++ v ∷ [])) g.extends.1 g.legal

    whole : history_since s new ≡ append_entries (h ▷ x) fs
    whole = ap (history_since s) g.extends.1 ∙ append_entries-append (Begin s) old (x ∷ fs)

    -- the other entries are forced
    forced_ones : events_of fs ≡ []
    forced_ones =
        let all : events_of (old ++ x ∷ fs) ≡ events_of old ++ v ∷ [] =
        events_of-legal (Begin s) (old ++ x ∷ fs) (events_of old ++ v ∷ []) legal in
        let rest : events_of (x ∷ fs) ≡ v ∷ [] =
        append_cancel_left (events_of old) (events_of (x ∷ fs)) (v ∷ [])
        (sym (filter_map-append event_of old (x ∷ fs)) ∙ all) in
        let first : events_of (x ∷ fs) ≡ v ∷ events_of fs =
        let is : event_of x ≡ Some v = event_of-entry (history_since s old) v in rw is refl in
        append_cancel_left (v ∷ []) (events_of fs) [] (sym first ∙ rest)

    pub events-more : events_of new ≡ events_of old ++ v ∷ []
    events-more = events_of-legal (Begin s) new (events_of old ++ v ∷ []) g.legal

    step : Follows h × Step h x
    step = history_since-step s old fs x (events_of old ++ v ∷ []) g.starts legal

    pub before-more : Follows h
    before-more = step.0

    follows : Follows (append_entries (h ▷ x) fs)
    follows = history_since-part s old (x ∷ fs) (events_of old ++ v ∷ []) g.starts legal

    pub client_priority-more : (c : ℕ) → client_priority (history_since s new) c
        ≡ client_priority (h ▷ x) c
    client_priority-more c = ap (λ g. client_priority g c) whole
        ∙ client_priority-quiet c (h ▷ x) fs forced_ones

    pub alive-more : (c : ℕ) → is_alive (history_since s new) c ≡ is_alive (h ▷ x) c
    alive-more c = ap is_some (client_priority-more c)

    pub latest_call-more : (c : ℕ) → latest_call (history_since s new) c ≡ latest_call (h ▷ x) c
    latest_call-more c = ap (λ g. latest_call g c) whole
        ∙ latest_call-quiet c (h ▷ x) fs forced_ones

    -- there is one more outer entry
    pub outer-more : outer (history_since s new) ≡ outer h + 1
    outer-more =
        let one : (cond {A = ℕ} (is_forced x) 0 1) ≡ 1 = rw (not_forced h v) refl in
        omega (arith, ap outer whole, outer-quiet (h ▷ x) fs forced_ones, one)

    pub place-more : place h + 1 ≤ place (history_since s new)
    place-more = omega (arith, ap place whole, place-append_entries (h ▷ x) fs)

    told_parts : (c : ℕ) → reply_count s new c
        ≡ reply_count s old c + (reply_count_in c (entry_replies h x) + reply_count_in c
        (replies_from (h ▷ x) fs))
    told_parts c =
        ap (λ es. reply_count s es c) g.extends.1
        ∙ (ap (reply_count_in c) (replies-append (Begin s) old (x ∷ fs))
        ∙ (reply_count_in-append c (replies_from (Begin s) old) (replies_from h (x ∷ fs))
        ∙ ap (λ n. reply_count s old c + n)
        (reply_count_in-append c (entry_replies h x) (replies_from (h ▷ x) fs))))

    -- no answer is taken back
    pub entry_replies-more : (c : ℕ) → reply_count s old c ≤ reply_count s new c
    entry_replies-more c = omega (arith, told_parts c)

    -- for a client that lives afterwards, only its own call adds to its answers plus its open call
    pub tally-more : (c : ℕ) → is_alive (history_since s new) c ≡ true
        → reply_count s new c + open_call_count (history_since s new) c
        ≡ reply_count s old c + open_call_count h c + own_call_count c x
    tally-more c a =
        let a' : is_alive (h ▷ x) c ≡ true = sym (alive-more c) ∙ a in
        let opened : open_call_count (history_since s new) c
        ≡ open_call_count (append_entries (h ▷ x) fs) c =
        ap (λ g. open_call_count g c) whole in
        omega (
          arith,
          told_parts c,
          opened,
          tally_step h c x step.0 step.1 a',
          tally-quiet c (h ▷ x) fs forced_ones follows a',
        )
