-- How many entries an event may add, and how many are reserved after it.
use Rattle.std.proofs.Common.{◌≡◌, ◌+◌, ◌≤◌, true, false, List, [], ◌∷◌}
use Rattle.std.proofs.Common.{length, None, refl, sym, arith}
use Rattle.std.proofs.lemmas.Bool.{false≢true}
use Rattle.pt_types.specs.Tables.{reply}
use Rattle.pt_model.specs.declared.entry.Entry.{Entry}
use Rattle.pt_model.specs.declared.entry.Entry.TheVariants.{Join, Call, Death, Moment, Grant, Trip}
use Rattle.pt_model.specs.declared.entry.Entry.TheVariants.{Yield, Expire}
use Rattle.pt_model.specs.declared.entry.Event.{Event}
use Rattle.pt_model.specs.declared.entry.Event.TheVariants as event
use Rattle.pt_model.specs.Histories.{History, Begin, ◌▷◌, append_entries, is_forced}
use Rattle.pt_model.specs.Legal.{event_of, events_of}
use Rattle.pt_model.specs.Room.{need, entry_for}
use Rattle.pt_model.specs.Seals.{seal}
use Rattle.pt_model.specs.Steps.{Step, joins, calls, dies, ticks, grants, trips, yields, expires}
use Rattle.pt_model.specs.Steps.{Follows}
use Rattle.pt_model.specs.EndLaws.{KeepsRoom}
use Rattle.pt_model.specs.Verdicts.{verdict}
use Rattle.pt_model.proofs.Agreeing.{seal_agrees}
use Rattle.pt_model.proofs.Changes.{left_by}
use Rattle.pt_model.proofs.Effects.{Effect, Idle, Creates, Removes, Relocks, Frees, Mends, Returns, Wakes, Waits, effect}
use Rattle.pt_model.proofs.ContinuesAlike.{agrees_on}
use Rattle.pt_model.proofs.Histories.{follows-part}
use Rattle.pt_model.proofs.Induction.{start-seal}
use Rattle.pt_model.proofs.Needs.{need-call, need-join, need-moment}
use Rattle.pt_model.proofs.Room.{room-death, room-step}

one_left : (E : Effect) → length (left_by E) ≤ 1
one_left Idle = omega arith
one_left (Creates n k) = omega arith
one_left (Removes n k o) = omega arith
one_left (Relocks o) = omega arith
one_left (Frees o) = omega arith
one_left (Mends o) = omega arith
one_left (Returns o) = omega arith
one_left (Wakes os all) = omega arith
one_left (Waits w) = omega arith

-- an outer entry takes one, and three more are reserved after it at most
pub need-outer : (h : History) (e : Entry) → Follows h → Step h e → is_forced e ≡ false
    → 1 + need (h ▷ e) ≤ need h + 4
need-outer h _ f (joins p n lt) o = omega (arith, need-join h p f)
need-outer h _ f (calls c call n a p) o =
    omega (
      arith,
      need-call h c call f n a p,
      one_left (effect h c call (reply (verdict h c call))),
    )
need-outer h _ f (dies c n a) o = omega (arith, room-death h c f a)
need-outer h _ f (ticks k t n) o = omega (arith, need-moment h k t f)
need-outer h _ f (grants w s i g) o = absurd (false≢true (sym o))
need-outer h _ f (trips w s i c) o = absurd (false≢true (sym o))
need-outer h _ f (yields m s p) o = absurd (false≢true (sym o))
need-outer h _ f (expires w s i p) o = absurd (false≢true (sym o))

forced-by : (e : Entry) → event_of e ≡ None → is_forced e ≡ true
forced-by (Join c p) n = absurd cc
forced-by (Call c call x) n = absurd cc
forced-by (Death c) n = absurd cc
forced-by (Moment k t) n = absurd cc
forced-by (Grant j x) n = refl
forced-by (Trip b) n = refl
forced-by (Yield m) n = refl
forced-by (Expire j) n = refl

pub outer-by : (h : History) (v : Event) → is_forced (entry_for h v) ≡ false
outer-by h (event.Join p) = refl
outer-by h (event.Call c call) = refl
outer-by h (event.Death c) = refl
outer-by h (event.Moment k t) = refl

-- entries without events are forced, one by one
no_event : (e : Entry) (es : List Entry) → events_of (e ∷ es) ≡ []
    → (event_of e ≡ None) × (events_of es ≡ [])
no_event (Join c p) es n = absurd cc
no_event (Call c call x) es n = absurd cc
no_event (Death c) es n = absurd cc
no_event (Moment k t) es n = absurd cc
no_event (Grant j x) es n = (refl, n)
no_event (Trip b) es n = (refl, n)
no_event (Yield m) es n = (refl, n)
no_event (Expire j) es n = (refl, n)

-- forced entries take what was reserved for them
pub need-append_entries : (h : History) (fs : List Entry) → Follows (append_entries h fs)
    → events_of fs ≡ []
    → length fs + need (append_entries h fs) ≤ need h
need-append_entries h [] f n = omega arith
need-append_entries h (e ∷ fs) f n =
    let parts = no_event e fs n in
    let before = follows-part (h ▷ e) fs f in
    let keeps : KeepsRoom h e = room-step h e before.0 before.1 (forced-by e parts.0) in
    omega (arith, need-append_entries (h ▷ e) fs f parts.1, keeps.0, keeps.1)

-- a seal keeps what is reserved
pub need-sealed : (h : History) → Follows h → need (Begin (seal h)) ≡ need h
need-sealed h f = sym (agrees_on h (Begin (seal h)) f (start-seal h f) (seal_agrees h f)).needs
