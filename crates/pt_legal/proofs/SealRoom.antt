-- The room of an event that needs a seal, and the refusal of one that needs none.
use Rattle.std.proofs.Common.{◌≡◌, ℕ, ◌+◌, ◌≤◌, ◌<◌, Bool, true, false, cond, nat_le, nat_lt, ◌&&◌}
use Rattle.std.proofs.Common.{◌||◌, Some, None, sym, ap, ◌∙◌, arith}
use Rattle.std.proofs.lemmas.Bool.Decides.{nat_tests}
use Rattle.std.specs.Option.{option_or}
use Rattle.pt_types.specs.declared.outcome.Refusal.TheVariants.{Full}
use Rattle.pt_types.specs.Limits.{max_place}
use Rattle.pt_model.specs.declared.entry.Event.{Event}
use Rattle.pt_model.specs.Histories.{History, ◌▷◌, place, history_length}
use Rattle.pt_model.specs.Room.{refusal, entry_for, exceeds_limit, room_for, needs_seal}
use Rattle.pt_model.specs.Room.{refusal_within, refusal_with_seals}

-- the limit is exceeded without a seal, and not with one
passes : (limit history_length room : ℕ) → (nat_lt limit (history_length + room)
    && nat_le room limit) ≡ true
    → (limit < history_length + room) × (room ≤ limit)
passes limit history_length room e = grind (arith, nat_tests)

-- if no seal is needed, the limit is exceeded exactly if it would be without seals
over : (limit history_length room : ℕ) (places : Bool)
    → (nat_lt limit (history_length + room) && nat_le room limit) ≡ false
    → (nat_lt limit room || ((nat_lt limit (history_length + room) && nat_le room limit) && places))
    ≡ nat_lt limit (history_length + room)
over limit history_length room places e = grind (arith, nat_tests)

-- what is within the limit does not exceed it
pub none-over : (limit all : ℕ) → all ≤ limit → nat_lt limit all ≡ false
none-over limit all l = grind (arith, nat_tests)

module _ (limit : ℕ) (h : History) (v : Event) where
  -- an event that needs a seal has room after it
  pub needs-parts : needs_seal limit h v ≡ true
      → (limit < history_length h + room_for h v) × (room_for h v ≤ limit)
  needs-parts e = passes limit (history_length h) (room_for h v) e

  over_as_it_stands : exceeds_limit limit (h ▷ entry_for h v)
      ≡ nat_lt limit (history_length h + room_for h v)
  over_as_it_stands = ap (nat_lt limit) (omega arith)

  -- an event that needs no seal is refused as it would be without seals
  pub refused-without : needs_seal limit h v ≡ false
      → refusal_with_seals limit h v ≡ refusal_within limit h v
  refused-without e =
      ap (λ b. option_or (refusal h v) (cond b (Some Full) None))
      (over limit (history_length h) (room_for h v) (nat_lt max_place (place h)) e
      ∙ sym over_as_it_stands)
