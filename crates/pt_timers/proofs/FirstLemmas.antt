-- The first deadline in the order of a clock.
use Rattle.std.proofs.Common.{◌≡◌, ℕ, ◌<◌, ◌≤◌, Bool, true, false, List, Option}
use Rattle.std.proofs.Common.{Some, None, sym, ap, ◌∙◌, arith}
use Rattle.std.proofs.lemmas.Bool.{false≢true}
use Rattle.std.proofs.lemmas.Bool.Decides.{nat_tests}
use Rattle.pt_types.specs.declared.time.Clock.{Clock}
use Rattle.pt_types.specs.Times.{Timespec, deadline_nanos, is_invalid_deadline, pair_before}
use Rattle.pt_timers.specs.declared.key.TimerKey.{TimerKey}
use Rattle.pt_timers.specs.Deadlines.{deadline_at, pair_of, timer_key, is_in, max_nanos}
use Rattle.pt_timers.specs.Deadlines.{AreTimers}
use Rattle.pt_timers.specs.Deadlines.{IsFirstDue, IsLeast}

first-least : (a b : ℕ × ℕ) → pair_before a b ≡ false → b.0 ≤ a.0
first-least a b h = grind (arith, nat_tests)

module _ (places w : List (ℕ × (Clock × ℕ))) (view : places ≡ w)
    (is_due : Clock → TimerKey → Bool) (kept : AreTimers places is_due) (k : Clock)
    (order : List TimerKey) (own : (q : TimerKey) → is_in order q ≡ is_due k q)
  where
    -- a deadline that is set is in its order
    listed : (q m : ℕ) → deadline_at w q ≡ Some (k, m)
        → is_in order (timer_key m q) ≡ true
    listed q m e =
        own (timer_key m q)
        ∙ kept.ordered q k m (ap (λ ts. deadline_at ts q) view ∙ e)

    module _ (none : (q : TimerKey) → is_in order q ≡ false) where
      -- if the order is empty, nothing is set
      not-set : (q m : ℕ) → deadline_at w q ≡ Some (k, m) → ⊥
      not-set q m e =
          false≢true (sym (none (timer_key m q)) ∙ listed q m e)

      pub no-first : (now : Option ℕ) → IsFirstDue w k now None
      no-first now q m e = absurd (not-set q m e)

      pub no-least : IsLeast w k None
      no-least q m e = not-set q m e

    module _ (key : TimerKey) (there : is_in order key ≡ true)
        (least : (q : TimerKey) → is_in order q ≡ true
        → pair_before (pair_of q) (pair_of key) ≡ false) where
      -- the first is set, and no other is before it
      here : deadline_at w key.place ≡ Some (k, key.nanos)
      here =
          ap (λ ts. deadline_at ts key.place) (sym view)
          ∙ (kept.placed k key (sym (own key) ∙ there)).0

      pub first-nanos : key.nanos < max_nanos
      first-nanos = (kept.placed k key (sym (own key) ∙ there)).1

      not-sooner : (q m : ℕ) → deadline_at w q ≡ Some (k, m)
          → pair_before (m, q) (pair_of key) ≡ false
      not-sooner q m e =
          least (timer_key m q) (listed q m e)

      pub first-due : (now : ℕ) → key.nanos ≤ now → IsFirstDue w k (Some now) (Some key)
      first-due now le = (here, grind (arith, nat_tests, le), not-sooner)

      pub not-due : (now : ℕ) → now < key.nanos → IsFirstDue w k (Some now) None
      not-due now late q m e =
          let le = first-least (m, q) (pair_of key) (not-sooner q m e) in
          grind (arith, nat_tests, le, late)

      pub first-is-least : (d : Timespec) → deadline_nanos d ≡ key.nanos
          → is_invalid_deadline d ≡ false → IsLeast w k (Some d)
      first-is-least d nanos time = (
        key.place,
        here ∙ ap (λ n. Some (k, n)) (sym nanos),
        time,
        λ q m e.
            let le = first-least (m, q) (pair_of key) (not-sooner q m e) in
            omega (arith, nanos, le),
      )
