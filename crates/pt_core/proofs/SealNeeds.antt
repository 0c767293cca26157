-- Which events need a seal, and which are refused if a seal can make room.
use Rattle.std.proofs.Common.{◌≡◌, ℕ, ◌+◌, ◌≤◌, ◌<◌, Bool, true, false, cond, nat_le, nat_lt, ◌&&◌}
use Rattle.std.proofs.Common.{◌||◌, Some, None, refl, sym, ap, ◌∙◌, arith}
use Rattle.std.proofs.lemmas.Bool.Decides.{nat_tests}
use Rattle.std.specs.Option.{option_or}
use Rattle.pt_types.specs.declared.outcome.Refusal.TheVariants.{Full}
use Rattle.pt_types.specs.Limits.{max_place}
use Rattle.pt_model.specs.declared.entry.Event.{Event}
use Rattle.pt_model.specs.declared.entry.Event.TheVariants as event
use Rattle.pt_model.specs.Histories.{History, ◌▷◌, place, history_length}
use Rattle.pt_model.specs.Clients.{is_alive}
use Rattle.pt_model.specs.Room.{need, refusal, entry_for, exceeds_limit, room_for, needs_seal}
use Rattle.pt_model.specs.Room.{is_full}
use Rattle.pt_model.specs.Room.{refusal_within, refusal_with_seals}
use Rattle.pt_history.specs.Stored.{Stored, stored_history}
use Rattle.pt_history.proofs.Places.{history_length-past}
use Rattle.pt_core.specs.Stores.{IsStoreValid}
use Rattle.pt_legal.specs.Applying.{is_death}
use Rattle.pt_core.specs.Settling.{IsRoomReady}
use Rattle.pt_legal.proofs.SealRoom.{needs-parts, none-over}
use Rattle.pt_core.proofs.AcceptingLemmas.{death-fits, unrefused-alive}

-- neither the room nor the place is above its limit
fits : (limit history_length room at most : ℕ) → room ≤ limit → at ≤ most
    → (nat_lt limit room || ((nat_lt limit (history_length + room) && nat_le room limit)
    && nat_lt most at))
    ≡ false
fits limit history_length room at most l p = grind (arith, nat_tests)

-- a seal is needed, but no numbers are left for places
full : (limit history_length room at most : ℕ) → limit < history_length + room → room ≤ limit
    → most < at
    → (nat_lt limit room || ((nat_lt limit (history_length + room) && nat_le room limit)
    && nat_lt most at))
    ≡ true
full limit history_length room at most l r p = grind (arith, nat_tests)

-- only the number of the next place decides
places-alone : (limit history_length room at most : ℕ) → limit < history_length + room → room
    ≤ limit
    → (nat_lt limit room || ((nat_lt limit (history_length + room) && nat_le room limit)
    && nat_lt most at))
    ≡ nat_lt most at
places-alone limit history_length room at most l r = grind (arith, nat_tests)

none-needed : (limit history_length room : ℕ) → history_length + room ≤ limit
    → (nat_lt limit (history_length + room) && nat_le room limit) ≡ false
none-needed limit history_length room l = grind (arith, nat_tests)

module _ (limit : ℕ) (h : History) (v : Event) where
  -- whether a seal is needed, by the need in a plan
  pub planned-seal : (n : ℕ) (needed : Bool) → n ≡ need (h ▷ entry_for h v)
      → needed ≡ (nat_lt limit (history_length h + (1 + n)) && nat_le (1 + n) limit)
      → needed ≡ needs_seal limit h v
  planned-seal n needed en is =
      is ∙ ap (λ (k : ℕ). nat_lt limit (history_length h + (1 + k)) && nat_le (1 + k) limit) en

  -- an event that needs a seal is refused only if no numbers are left for places
  pub refused-sealed : refusal h v ≡ None → needs_seal limit h v ≡ true → (at : ℕ) → at ≡ place h
      → cond (nat_lt max_place at) (Some Full) None ≡ refusal_with_seals limit h v
  refused-sealed ok e at is =
      let parts = needs-parts limit h v e in
      ap (λ n. cond (nat_lt max_place n) (Some Full) None) is
      ∙ (ap (λ b. cond b (Some Full) None)
      (sym (places-alone limit (history_length h) (room_for h v)
      (place h) max_place parts.0 parts.1))
      ∙ sym (ap (λ o. option_or o (cond (is_full limit h v) (Some Full) None)) ok))

  -- with numbers for places it is accepted after the seal
  pub accepted-sealed : refusal h v ≡ None → room_for h v ≤ limit → place h ≤ max_place
      → refusal_with_seals limit h v ≡ None
  accepted-sealed ok l p =
      ap (λ o. option_or o (cond (is_full limit h v) (Some Full) None)) ok
      ∙ ap (λ b. cond b (Some Full) None)
      (fits limit (history_length h) (room_for h v) (place h) max_place l p)

  -- without them it is FULL
  pub full-sealed : refusal h v ≡ None → needs_seal limit h v ≡ true → max_place < place h
      → refusal_with_seals limit h v ≡ Some Full
  full-sealed ok e p =
      let parts = needs-parts limit h v e in
      ap (λ o. option_or o (cond (is_full limit h v) (Some Full) None)) ok
      ∙ ap (λ b. cond b (Some Full) None)
      (full limit (history_length h) (room_for h v) (place h) max_place parts.0 parts.1 p)

-- an event for which there is room is not refused
pub ready-within : (s : Stored) (v : Event) → IsRoomReady s v → refusal (stored_history s) v ≡ None
    → refusal_within s.limit (stored_history s) v ≡ None
ready-within s v r ok =
    ap (λ o. option_or o (cond (exceeds_limit s.limit (stored_history s ▷ entry_for
    (stored_history s) v)) (Some Full)
    None)) ok
    ∙ ap (λ b. cond b (Some Full) None)
    (none-over s.limit _ (omega (arith, r.room, r.fits, history_length-past s)))

-- an event for which there is room already needs no seal
pub room-unsealed : (s : Stored) (v : Event) → IsStoreValid s → room_for (stored_history s) v
    ≤ s.room
    → needs_seal s.limit (stored_history s) v ≡ false
room-unsealed s v k l =
    none-needed s.limit (history_length (stored_history s)) (room_for (stored_history s) v)
    (omega (arith, l, k.fits, history_length-past s))

-- the Death of a living client needs none
pub death-unsealed : (s : Stored) (c : ℕ) → IsStoreValid s → is_alive (stored_history s) c ≡ true
    → needs_seal s.limit (stored_history s) (event.Death c) ≡ false
death-unsealed s c k alive = room-unsealed s (event.Death c) k (death-fits s k c alive)

-- so an event that needs one is not a Death
pub no-death : (s : Stored) (v : Event) → IsStoreValid s → refusal (stored_history s) v ≡ None
    → needs_seal s.limit (stored_history s) v ≡ true → is_death v ≡ false
no-death s (event.Death c) k ok needs =
    let none = death-unsealed s c k (unrefused-alive (stored_history s) c ok) in
    absurd (let no : true ≡ false = sym needs ∙ none in cc)
no-death s (event.Join p) k ok needs = refl
no-death s (event.Call c call) k ok needs = refl
no-death s (event.Moment z t) k ok needs = refl
