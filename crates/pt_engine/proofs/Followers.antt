-- The entries that follow an event's entry have no event.
use Rattle.std.proofs.Common.{◌≡◌, List, [], ◌∷◌, ◌++◌, length, drop, Option, Some, None, refl, sym}
use Rattle.std.proofs.Common.{ap, ◌∙◌}
use Rattle.std.proofs.Math.Seq.{drop-append_seam}
use Rattle.std.specs.List.{cons_option}
use Rattle.pt_model.specs.declared.entry.Entry.{Entry}
use Rattle.pt_model.specs.declared.entry.Event.{Event}
use Rattle.pt_model.specs.declared.entry.Event.TheVariants as event
use Rattle.pt_model.specs.Starts.{Start}
use Rattle.pt_model.specs.Histories.{History, Begin, history_since}
use Rattle.pt_model.specs.Legal.{LegalSince, event_of, events_of}
use Rattle.pt_model.specs.Room.{entry_for}
use Rattle.pt_model.proofs.Legality.{events_of-legal}

-- if some entries have no event, neither have those after the first
pub cons_none : (o : Option Event) (vs : List Event) → cons_option o vs ≡ [] → vs ≡ []
cons_none None vs e = e
cons_none (Some v) vs e = absurd cc

-- the event of the entry that an event becomes is that event
event_back : (h : History) (v : Event) → event_of (entry_for h v) ≡ Some v
event_back h (event.Call c call) = refl
event_back h _ = refl

events_apart : (xs ys : List Entry) → events_of (xs ++ ys) ≡ events_of xs ++ events_of ys
events_apart [] ys = refl
events_apart (x ∷ xs) ys =
    ap (cons_option (event_of x)) (events_apart xs ys)
    ∙ joins (event_of x) (events_of xs) (events_of ys)
  where
    joins : (o : Option Event) (us vs : List Event)
        → cons_option o (us ++ vs) ≡ cons_option o us ++ vs
    joins None us vs = refl
    joins (Some v) us vs = refl

-- the entries that follow an event's entry have no event
pub none_forced : (s : Start) (old new fs : List Entry) (v : Event)
    → new ≡ old ++ entry_for (history_since s old) v ∷ fs → LegalSince s new (events_of old ++ v
    ∷ [])
    → events_of fs ≡ []
none_forced s old new fs v extends legal =
    let all : events_of old ++ (v ∷ events_of fs) ≡ events_of old ++ v ∷ [] =
    ap (λ o. events_of old ++ cons_option o (events_of fs)) (sym (event_back
    (history_since s old) v))
    ∙ sym (events_apart old (entry_for (history_since s old) v ∷ fs))
    ∙ sym (ap events_of extends)
    ∙ events_of-legal (Begin s) new (events_of old ++ v ∷ []) legal in
    let rest : v ∷ events_of fs ≡ v ∷ [] =
    sym (drop-append_seam (events_of old) (v ∷ events_of fs))
    ∙ ap (drop (length (events_of old))) all
    ∙ drop-append_seam (events_of old) (v ∷ []) in
    cc
