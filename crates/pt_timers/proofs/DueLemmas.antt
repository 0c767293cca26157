-- The sooner of the deadlines that are due by one clock and by the other.
use Rattle.std.proofs.Common.{◌≡◌, ℕ, Bool, true, false, cond, List, Option, Some, None, refl}
use Rattle.std.proofs.Common.{arith}
use Rattle.std.proofs.lemmas.Bool.Decides.{nat_tests}
use Rattle.pt_types.specs.declared.time.Clock.{Clock}
use Rattle.pt_types.specs.declared.time.Clock.TheVariants.{Real, Mono}
use Rattle.pt_types.specs.Times.{pair_before}
use Rattle.pt_timers.specs.declared.key.TimerKey.{TimerKey}
use Rattle.pt_timers.specs.Deadlines.{deadline_at, moments, is_reached, pair_of, sooner_of}
use Rattle.pt_timers.specs.Deadlines.{IsFirstDue, IsLeastDue}

-- the order by deadline, then place
before-asymmetric : (a b : ℕ × ℕ) → pair_before a b ≡ true → pair_before b a ≡ false
before-asymmetric a b h = grind (arith, nat_tests)

before-back : (a b c : ℕ × ℕ) → pair_before a b ≡ false → pair_before b c ≡ false
    → pair_before a c ≡ false
before-back a b c h k = grind (arith, nat_tests)

module _ (w : List (ℕ × (Clock × ℕ))) (real mono : Option ℕ) where
  -- one is due by the monotonic clock alone
  mono_alone : (t : TimerKey) → IsFirstDue w Real real None → IsFirstDue w Mono mono (Some t)
      → IsLeastDue w (moments real mono) (Some t.place)
  mono_alone t one other = (Mono, t.nanos, other.0, other.1, first)
    where
      first : (q : ℕ) (l : Clock) (m : ℕ) → deadline_at w q ≡ Some (l, m)
          → is_reached (moments real mono l) m ≡ true → pair_before (m, q) (pair_of t) ≡ false
      first q Real m e r = absurd (let late = one q m e in cc)
      first q Mono m e r = other.2 q m e

  -- one is due by the real clock alone
  pub real-alone : (t : TimerKey) → IsFirstDue w Real real (Some t) → IsFirstDue w Mono mono None
      → IsLeastDue w (moments real mono) (Some t.place)
  real-alone t one other = (Real, t.nanos, one.0, one.1, first)
    where
      first : (q : ℕ) (l : Clock) (m : ℕ) → deadline_at w q ≡ Some (l, m)
          → is_reached (moments real mono l) m ≡ true → pair_before (m, q) (pair_of t) ≡ false
      first q Real m e r = one.2 q m e
      first q Mono m e r = absurd (let late = other q m e in cc)

  -- one is due by each clock
  by_both : (a b : TimerKey) → IsFirstDue w Real real (Some a) → IsFirstDue w Mono mono (Some b)
      → IsLeastDue w (moments real mono) (Some (sooner_of (Some a) b).place)
  by_both a b one other = go (pair_before (pair_of b) (pair_of a)) refl
    where
      go : (x : Bool) → pair_before (pair_of b) (pair_of a) ≡ x
          → IsLeastDue w (moments real mono) (Some (cond x b a).place)
      go true e = (Mono, b.nanos, other.0, other.1, first)
        where
          first : (q : ℕ) (l : Clock) (m : ℕ) → deadline_at w q ≡ Some (l, m)
              → is_reached (moments real mono l) m ≡ true → pair_before (m, q) (pair_of b) ≡ false
          first q Real m f r =
              before-back (m, q) (pair_of a) (pair_of b) (one.2 q m f)
              (before-asymmetric (pair_of b) (pair_of a) e)
          first q Mono m f r = other.2 q m f
      go false e = (Real, a.nanos, one.0, one.1, first)
        where
          first : (q : ℕ) (l : Clock) (m : ℕ) → deadline_at w q ≡ Some (l, m)
              → is_reached (moments real mono l) m ≡ true → pair_before (m, q) (pair_of a) ≡ false
          first q Real m f r = one.2 q m f
          first q Mono m f r = before-back (m, q) (pair_of b) (pair_of a) (other.2 q m f) e

  -- if one is due by the monotonic clock, the sooner of it and of what is due by the real one
  pub sooner-due : (best : Option TimerKey) (t : TimerKey) → IsFirstDue w Real real best
      → IsFirstDue w Mono mono (Some t)
      → IsLeastDue w (moments real mono) (Some (sooner_of best t).place)
  sooner-due None t one other = mono_alone t one other
  sooner-due (Some a) t one other = by_both a t one other
