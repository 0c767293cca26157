-- The deadlines that are set, and the open call that is overdue first.
use Rattle.std.proofs.Common.{◌≡◌, ℕ, ◌≤◌, Bool, true, false, not, List, Option, Some, None}
use Rattle.std.proofs.Common.{is_some, unwrap_or, refl, sym, ap, ◌∙◌, arith, filter}
use Rattle.std.proofs.lemmas.Bool.Decides.{nat_tests}
use Rattle.std.proofs.lemmas.Bool.{false≢true, and_parts, and_from}
use Rattle.std.specs.Prelude.{option_map}
use Rattle.std.specs.Option.{option_or}
use Rattle.pt_types.specs.declared.outcome.Outcome.{Outcome}
use Rattle.pt_types.specs.declared.time.Clock.{Clock}
use Rattle.pt_types.specs.declared.time.Clock.TheVariants.{Real, Mono}
use Rattle.pt_types.specs.Operations.{same_clock}
use Rattle.pt_types.specs.Times.{Timespec, deadline_nanos, has_invalid_deadline, pair_before}
use Rattle.pt_timers.specs.Deadlines.{deadline_at, moments, is_reached, IsLeastDue, IsLeast}
use Rattle.pt_model.specs.declared.entry.Entry.TheVariants.{Grant}
use Rattle.pt_model.specs.Searches.{In, first_below, least}
use Rattle.pt_model.specs.Histories.{History, place}
use Rattle.pt_model.specs.Clients.{clock, is_due}
use Rattle.pt_model.specs.declared.waiting_call.WaitingCall.{WaitingCall}
use Rattle.pt_model.specs.WaitingCall.{call_at_place}
use Rattle.pt_model.specs.Answers.{open_calls}
use Rattle.pt_model.specs.Moves.{is_moved}
use Rattle.pt_model.specs.Grants.{grant_outcome}
use Rattle.pt_model.specs.Forced.{forced_service, forced_yield, forced_expire, yield_if, expire_if}
use Rattle.pt_model.specs.Forced.{is_orphan, is_overdue, expires_before}
use Rattle.pt_model.specs.Queries.{has_deadline, deadline_if, least_deadline}
use Rattle.pt_model.specs.Steps.{Follows}
use Rattle.pt_model.proofs.Lists.{In-filter, filter-in, false_by}
use Rattle.pt_model.proofs.Leasts.{least-in, least-none, none-least}
use Rattle.pt_model.proofs.Orders.{IsOrder, expires_before-order, least-first}
use Rattle.pt_model.proofs.Found.{one_open}
use Rattle.pt_state.specs.declared.state.State.{State}
use Rattle.pt_state.specs.Clocks.{AreClocks}
use Rattle.pt_state.proofs.ServingOrders.{expires-one}
use Rattle.pt_machine.specs.CallDeadlines.{call_deadline, has_timer, timer_of_call, timer_of_found}
use Rattle.pt_machine.specs.CallDeadlines.{AreDeadlinesSet, IsFirstOverdue}
use Rattle.pt_machine.proofs.NoBadDeadlines.{grants-bad}
use Rattle.pt_machine.proofs.OpenPlaces.{place-in, place-one}

-- a Yield or an Expire is not a Grant
not_granted : (m : Option ℕ) (late : Option WaitingCall) (k : ℕ) (x : Outcome)
    → option_or (yield_if m) (expire_if late) ≡ Some (Grant k x) → ⊥
not_granted (Some m) late k x e = cc
not_granted None (Some w) k x e = cc
not_granted None None k x e = cc

-- a clock has reached a deadline exactly if the deadline is due
reached_due : (t : Option ℕ) (m : ℕ) → is_reached t m ≡ is_due t (Some m)
reached_due None m = refl
reached_due (Some now) m = refl

-- if an optional deadline is due, there is one
due_some : (t d : Option ℕ) → is_due t d ≡ true → (m : ℕ) × (d ≡ Some m)
due_some None d e = absurd cc
due_some (Some now) None e = absurd cc
due_some (Some now) (Some m) e = (m, refl)

-- an option that is some has a value
some_of : (d : Option ℕ) → is_some d ≡ true → (m : ℕ) × (d ≡ Some m)
some_of None e = absurd cc
some_of (Some m) e = (m, refl)

-- the clock and the nanoseconds of a deadline that is set
clocked : (c : Clock) (d : Option ℕ) (k : Clock) (m : ℕ)
    → option_map {U = Clock × ℕ} (λ n. (c, n)) d ≡ Some (k, m) → (c ≡ k) × (d ≡ Some m)
clocked c None k m e = absurd cc
clocked c (Some n) k m e = (
  ap (λ (o : Option (Clock × ℕ)). (unwrap_or o (k, m)).0) e,
  ap (λ (o : Option (Clock × ℕ)). Some (unwrap_or o (k, m)).1) e,
)

-- the stored clocks are those of the history
pub as-read : {A : Type 0} (h : History) (inside s : State A) → inside ≡ s → AreClocks h s.clocks
    → (k : Clock) → moments inside.clocks.real inside.clocks.mono k ≡ clock h k
as-read h inside s is all Real = ap (λ (t : State _). t.clocks.real) is ∙ all Real
as-read h inside s is all Mono = ap (λ (t : State _). t.clocks.mono) is ∙ all Mono

-- two clocks that compare as the same are equal
one_clock : (c k : Clock) → same_clock c k ≡ true → c ≡ k
one_clock Real Real e = refl
one_clock Mono Mono e = refl
one_clock Real Mono e = absurd cc
one_clock Mono Real e = absurd cc

own_clock : (k : Clock) → same_clock k k ≡ true
own_clock Real = refl
own_clock Mono = refl

-- an element is the least if none goes before it and each that ties with it is equal to it
least_at : {X : Type 0} (lt : X → X → Bool) → IsOrder lt → (ws : List X) (w : X) → In w ws
    → ((v : X) → In v ws → lt v w ≡ false)
    → ((v : X) → In v ws → lt v w ≡ false → lt w v ≡ false → v ≡ w) → least lt ws ≡ Some w
least_at lt o ws w i first one = go (least lt ws) refl
  where
    go : (q : Option _) → least lt ws ≡ q → q ≡ Some w
    go None e = absurd (least-none lt ws e w i)
    go (Some u) e =
        let j = least-in lt ws u e in
        ap Some (one u j (first u j) (least-first lt o ws u e w i))

module _ (h : History) (f : Follows h) where
  -- if no call is to be served, the deadline of each open call that has one is a time
  pub unserved-good : forced_service h ≡ None → (w : WaitingCall) → In w (open_calls h)
      → has_invalid_deadline (call_deadline h w.place) ≡ false
  unserved-good n w i =
      false_by (has_invalid_deadline (call_deadline h w.place))
      (λ bad. not_granted (first_below (place h) (is_orphan h))
      (least expires_before (filter (is_overdue h) (open_calls h))) w.place (grant_outcome h w)
      (ap (λ o. option_or o (option_or (forced_yield h) (forced_expire h))) (sym n)
      ∙ grants-bad h f w i bad))

  module _ (ts : List (ℕ × (Clock × ℕ))) (kept : AreDeadlinesSet h ts)
      (good : (w : WaitingCall) → In w (open_calls h)
      → has_invalid_deadline (call_deadline h w.place) ≡ false)
    where
      -- the deadline of an open call that was not moved is set
      set_for : (w : WaitingCall) → In w (open_calls h) → not (is_moved h w) ≡ true
          → deadline_at ts w.place ≡ timer_of_call w
      set_for w i still =
          let t : has_timer h w ≡ true = and_from (not (is_moved h w)) _ still (ap not
          (good w i)) in
          kept w.place
          ∙ ap timer_of_found (place-one w.place (filter (has_timer h) (open_calls h)) w
          (filter-in (has_timer h) (open_calls h) w i t) refl
          (λ v j at. one_open h f v w (In-filter (has_timer h) (open_calls h) v j).0 i at))

      -- a deadline that is set is that of such a call
      abbrev SetBy : ℕ → Clock → ℕ → Type 0
      SetBy p k m =
          (w : WaitingCall) × In w (open_calls h) × (w.place ≡ p) × (not (is_moved h w) ≡ true)
          × (w.clock ≡ k) × (w.deadline ≡ Some m)

      set_by : (p : ℕ) (k : Clock) (m : ℕ) → deadline_at ts p ≡ Some (k, m) → SetBy p k m
      set_by p k m e =
          go (call_at_place p (filter (has_timer h) (open_calls h))) refl (sym (kept p) ∙ e)
        where
          go : (o : Option WaitingCall) → call_at_place p (filter (has_timer h) (open_calls h)) ≡ o
              → timer_of_found o ≡ Some (k, m) → SetBy p k m
          go None q d = absurd cc
          go (Some w) q d =
              let r = place-in p (filter (has_timer h) (open_calls h)) w q in
              let i = In-filter (has_timer h) (open_calls h) w r.0 in
              let own = clocked w.clock w.deadline k m d in
              (w, i.0, r.1, (and_parts (not (is_moved h w)) _ i.1).0, own.0, own.1)

      module _ (now : Clock → Option ℕ) (same : (k : Clock) → now k ≡ clock h k) where
        -- the deadline of an overdue call is set, and its clock has reached it
        due_set : (w : WaitingCall) → In w (filter (is_overdue h) (open_calls h))
            → (m : ℕ) × (w.deadline ≡ Some m) × (is_reached (now w.clock) m ≡ true)
            × (deadline_at ts w.place ≡ Some (w.clock, m))
        due_set w i =
            let r = In-filter (is_overdue h) (open_calls h) w i in
            let parts = and_parts (not (is_moved h w)) _ r.1 in
            let d = due_some (clock h w.clock) w.deadline parts.1 in (
              d.0,
              d.1,
              reached_due (now w.clock) d.0
                  ∙ (ap (λ t. is_due t (Some d.0)) (same w.clock)
                  ∙ (ap (is_due (clock h w.clock)) (sym d.1) ∙ parts.1)),
              set_for w r.0 parts.0 ∙ ap (option_map (λ n. (w.clock, n))) d.1,
            )

        -- if no deadline that is set is due, no call is overdue
        none-overdue : IsLeastDue ts now None
            → least expires_before (filter (is_overdue h) (open_calls h)) ≡ None
        none-overdue due =
            none-least expires_before (filter (is_overdue h) (open_calls h))
            (λ w i. let d = due_set w i in
            false≢true (sym (due w.place w.clock d.0 d.3) ∙ d.2))

        -- otherwise the call whose deadline is due first is the one that is overdue first
        first-overdue : (p : ℕ) → IsLeastDue ts now (Some p)
            → IsFirstOverdue h (Some p)
        first-overdue p due =
            let r = set_by p due.0 due.1 due.2 in
            let w = r.0 in
            let late : is_due (clock h w.clock) w.deadline ≡ true =
            ap (λ k. is_due (clock h k) w.deadline) r.4
            ∙ (ap (λ t. is_due t w.deadline) (sym (same due.0))
            ∙ (ap (is_due (now due.0)) r.5 ∙ (sym (reached_due (now due.0) due.1) ∙ due.3))) in
            let there = filter-in (is_overdue h) (open_calls h) w r.1
            (and_from (not (is_moved h w)) _ r.3 late) in (
              w,
              least_at expires_before expires_before-order
                  (filter (is_overdue h) (open_calls h)) w there
                  (λ v j. let d = due_set v j in
                  rw (d.1, r.5, r.2) (due.4 v.place v.clock d.0 d.3 d.2))
                  (λ v j a b. expires-one h f v w
                  (In-filter (is_overdue h) (open_calls h) v j).0 r.1 a b),
              place-one p (open_calls h) w r.1 r.2
                  (λ v j at. one_open h f v w j r.1 (at ∙ sym r.2)),
            )

        -- the call whose deadline is due first is overdue first, and if none is due, none is
        -- overdue
        pub first-late : (found : Option ℕ) → IsLeastDue ts now found → IsFirstOverdue h found
        first-late None due = none-overdue due
        first-late (Some p) due = first-overdue p due

      -- the deadline of a call by this clock is set
      on_clock : (k : Clock) (w : WaitingCall) → In w (filter (has_deadline h k) (open_calls h))
          → (m : ℕ) × (w.deadline ≡ Some m) × (deadline_at ts w.place ≡ Some (k, m))
      on_clock k w i =
          let r = In-filter (has_deadline h k) (open_calls h) w i in
          let parts = and_parts (not (is_moved h w)) _ r.1 in
          let its = and_parts (is_some w.deadline) _ parts.1 in
          let d = some_of w.deadline its.0 in (
            d.0,
            d.1,
            set_for w r.0 parts.0
                ∙ (ap (option_map (λ n. (w.clock, n))) d.1
                ∙ ap (λ c. Some (c, d.0)) (one_clock w.clock k its.1)),
          )

      -- the least deadline that is set for a clock is the least of the open calls that were not
      -- moved
      pub least-kept : (k : Clock) (found : Option Timespec) → IsLeast ts k found
          → option_map deadline_nanos found ≡ least_deadline h k
      least-kept k None all =
          ap deadline_if (sym (none-least expires_before (filter (has_deadline h k) (open_calls h))
          (λ w i. let s = on_clock k w i in all w.place s.0 s.2)))
      least-kept k (Some d) first =
          let r = set_by first.0 k (deadline_nanos d) first.1 in
          let there = filter-in (has_deadline h k) (open_calls h) r.0 r.1
          (and_from (not (is_moved h r.0)) _ r.3
          (and_from (is_some r.0.deadline) _ (ap is_some r.5)
          (ap (λ c. same_clock c k) r.4 ∙ own_clock k))) in
          sym (go (least expires_before (filter (has_deadline h k) (open_calls h))) refl r.0 r.5
          there)
        where
          same : (u w : WaitingCall) (m : ℕ) → w.deadline ≡ Some (deadline_nanos d)
              → u.deadline ≡ Some m → deadline_nanos d ≤ m → expires_before w u ≡ false
              → m ≡ deadline_nanos d
          same u w m own its le after =
              let pairs : pair_before (deadline_nanos d, w.place) (m, u.place) ≡ false =
              rw (own, its) at after in
              grind (arith, nat_tests, pairs)

          go : (o : Option WaitingCall)
              → least expires_before (filter (has_deadline h k) (open_calls h)) ≡ o
              → (w : WaitingCall) → w.deadline ≡ Some (deadline_nanos d)
              → In w (filter (has_deadline h k) (open_calls h))
              → deadline_if o ≡ Some (deadline_nanos d)
          go None e w own i =
              absurd (least-none expires_before (filter (has_deadline h k) (open_calls h)) e w i)
          go (Some u) e w own i =
              let s =
              on_clock k u (least-in expires_before (filter (has_deadline h k) (open_calls h)) u e)
              in
              let after = least-first expires_before expires_before-order
              (filter (has_deadline h k) (open_calls h)) u e w i in
              s.1 ∙ ap Some (same u w s.0 own s.1 (first.3 u.place s.0 s.2) after)
