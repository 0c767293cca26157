-- How the deadlines that are set change with one entry.
use Rattle.std.proofs.Common.{◌≡◌, ℕ, ◌<◌, inl, inr, Bool, true, false, cond, not, ◌&&◌, ◌||◌, ◌==◌}
use Rattle.std.proofs.Common.{List, [], ◌∷◌, ◌++◌, Option, Some, None, is_some, refl, sym, ap, ◌∙◌}
use Rattle.std.proofs.Common.{arith, filter}
use Rattle.std.proofs.lemmas.Bool.Decides.{nat_tests}
use Rattle.std.proofs.lemmas.Bool.{false≢true}
use Rattle.std.specs.Prelude.{option_map}
use Rattle.pt_types.specs.declared.outcome.Outcome.{Outcome}
use Rattle.pt_types.specs.Times.{has_invalid_deadline}
use Rattle.pt_types.specs.declared.time.Clock.{Clock}
use Rattle.pt_model.specs.declared.entry.Entry.{Entry}
use Rattle.pt_model.specs.declared.entry.Entry.TheVariants.{Join, Death, Moment, Grant, Yield}
use Rattle.pt_model.specs.declared.entry.Entry.TheVariants.{Expire}
use Rattle.pt_model.specs.Searches.{In}
use Rattle.pt_model.specs.Histories.{History, ◌▷◌, place}
use Rattle.pt_model.specs.declared.waiting_call.WaitingCall.{WaitingCall}
use Rattle.pt_model.specs.WaitingCall.{call_at_place, is_cond_wait}
use Rattle.pt_model.specs.Answers.{open_calls, open_place}
use Rattle.pt_model.specs.Moves.{cause_by_expiry, move_or, wait_move, is_moved}
use Rattle.pt_model.specs.Steps.{Follows}
use Rattle.pt_model.proofs.Lists.{In-filter, filter-in, filter-all, filter-filter}
use Rattle.pt_model.proofs.Sound.{Fresh-follows, below_open}
use Rattle.pt_model.proofs.Found.{one_open}
use Rattle.pt_model.proofs.OneEach.{none_of_client, one_each}
use Rattle.pt_model.proofs.Opens.{open-join, open-moment, open-yield, open-death, open-grant}
use Rattle.pt_model.proofs.Opens.{open-expire}
use Rattle.pt_model.proofs.Moves.{wait_move-expire}
use Rattle.pt_records.specs.Callers.{call_of}
use Rattle.pt_state.proofs.CallerFinds.{call_of-in, call_of-place}
use Rattle.pt_machine.specs.CallDeadlines.{call_deadline, has_timer, timer_of_call, timer_of_found}
use Rattle.pt_machine.specs.CallDeadlines.{timer_at}
use Rattle.pt_machine.proofs.NoBadDeadlines.{timed_old}

-- no call is found at a place if none that came there passes the test
pub at-none : (p : ℕ) (test : WaitingCall → Bool) (ws : List WaitingCall)
    → ((w : WaitingCall) → In w ws → w.place ≡ p → test w ≡ false)
    → call_at_place p (filter test ws) ≡ None
at-none p test [] f = refl
at-none p test (w ∷ ws) f =
    go (test w) refl (w.place == p) refl (at-none p test ws (λ v i. f v (inr i)))
  where
    go : (b : Bool) → test w ≡ b → (here : Bool) → (w.place == p) ≡ here
        → call_at_place p (filter test ws) ≡ None
        → call_at_place p (cond b (w ∷ filter test ws) (filter test ws)) ≡ None
    go false e here k ih = ih
    go true e false k ih = rw k ih
    go true e true k ih =
        let at : w.place ≡ p = grind (arith, nat_tests) in
        absurd (false≢true (sym (f w (inl refl) at) ∙ e))

-- two tests that agree at a place find the same call there
pub at-same : (p : ℕ) (test other : WaitingCall → Bool) (ws : List WaitingCall)
    → ((w : WaitingCall) → In w ws → w.place ≡ p → test w ≡ other w)
    → call_at_place p (filter test ws) ≡ call_at_place p (filter other ws)
at-same p test other [] f = refl
at-same p test other (w ∷ ws) f =
    go (w.place == p) refl (at-same p test other ws (λ v i. f v (inr i)))
  where
    aside : (b : Bool) (vs : List WaitingCall) → (w.place == p) ≡ false
        → call_at_place p (cond b (w ∷ vs) vs) ≡ call_at_place p vs
    aside true vs k = rw k refl
    aside false vs k = refl

    kept : (b : Bool) → call_at_place p (filter test ws) ≡ call_at_place p (filter other ws)
        → call_at_place p (cond b (w ∷ filter test ws) (filter test ws))
        ≡ call_at_place p (cond b (w ∷ filter other ws) (filter other ws))
    kept true ih = ap (λ (o : Option WaitingCall). cond (w.place == p) (Some w) o) ih
    kept false ih = ih

    go : (here : Bool) → (w.place == p) ≡ here
        → call_at_place p (filter test ws) ≡ call_at_place p (filter other ws)
        → call_at_place p (cond (test w) (w ∷ filter test ws) (filter test ws))
        ≡ call_at_place p (cond (other w) (w ∷ filter other ws) (filter other ws))
    go true k ih =
        let at : w.place ≡ p = grind (arith, nat_tests) in
        ap (λ b. call_at_place p (cond b (w ∷ filter test ws) (filter test ws))) (f w (inl refl) at)
        ∙ kept (other w) ih
    go false k ih =
        aside (test w) (filter test ws) k ∙ (ih ∙ sym (aside (other w) (filter other ws) k))

-- calls at other places that are added after these change nothing
pub at-before : (p : ℕ) (ws vs : List WaitingCall) → call_at_place p vs ≡ None
    → call_at_place p (ws ++ vs) ≡ call_at_place p ws
at-before p [] vs e = e
at-before p (w ∷ ws) vs e =
    ap (λ (o : Option WaitingCall). cond (w.place == p) (Some w) o) (at-before p ws vs e)

-- the only call that came at a place is found there
at_only : (ws : List WaitingCall) (w : WaitingCall) → In w ws
    → ((v : WaitingCall) → In v ws → v.place ≡ w.place → v ≡ w) → call_at_place w.place ws ≡ Some w
at_only [] w i one = absurd i
at_only (x ∷ xs) w i one =
    go (x.place == w.place) refl i (λ j. at_only xs w j (λ v k. one v (inr k)))
  where
    go : (here : Bool) → (x.place == w.place) ≡ here → In w (x ∷ xs)
        → (In w xs → call_at_place w.place xs ≡ Some w)
        → cond here (Some x) (call_at_place w.place xs) ≡ Some w
    go true k i ih =
        let at : x.place ≡ w.place = grind (arith, nat_tests) in ap Some (one x (inl refl) at)
    go false k (inl e) ih =
        let at : x.place ≡ w.place = ap (λ (u : WaitingCall). u.place) (sym e) in
        absurd (grind (arith, nat_tests))
    go false k (inr i) ih = ih i

-- at the place of an open call its deadline is set, if it can pass
pub set-open : (h : History) → Follows h → (w : WaitingCall) → In w (open_calls h)
    → timer_at h w.place ≡ cond (has_timer h w) (timer_of_call w) None
set-open h f w i = go (has_timer h w) refl
  where
    go : (b : Bool) → has_timer h w ≡ b → timer_at h w.place ≡ cond b (timer_of_call w) None
    go true e =
        ap timer_of_found (at_only (filter (has_timer h) (open_calls h)) w
        (filter-in (has_timer h) (open_calls h) w i e)
        (λ v j at. one_open h f v w (In-filter (has_timer h) (open_calls h) v j).0 i at))
    go false e =
        ap timer_of_found (at-none w.place (has_timer h) (open_calls h)
        (λ v j at. ap (has_timer h) (one_open h f v w j i at) ∙ e))

-- no deadline is set at the next place
pub set-new : (h : History) → Follows h → timer_at h (place h) ≡ None
set-new h f =
    ap timer_of_found (at-none (place h) (has_timer h) (open_calls h)
    (λ w i at. let lt : w.place < place h = (below_open h w (Fresh-follows h f) i).0 in
    absurd (omega (arith, lt, at))))

-- the deadline of an open call whose move is unchanged can pass if and only if it could before
pub still-set : (h : History) (e : Entry) (w : WaitingCall) → Follows h → In w (open_calls h)
    → wait_move (h ▷ e) w.place ≡ wait_move h w.place → has_timer (h ▷ e) w ≡ has_timer h w
still-set h e w f i m =
    ap (λ o. not (is_some o) && not (has_invalid_deadline (call_deadline (h ▷ e) w.place))) m
    ∙ ap (λ d. not (is_moved h w) && not (has_invalid_deadline d)) (timed_old h e w f i)

module _ (h : History) (e : Entry) (f : Follows h) (test : WaitingCall → Bool)
    (kept : open_calls (h ▷ e) ≡ filter test (open_calls h)) (p : ℕ) where
  -- the deadline at a place, by the calls that were open before the entry
  set_before : timer_at (h ▷ e) p
      ≡ timer_of_found (call_at_place p (filter (λ w. test w
      && has_timer (h ▷ e) w) (open_calls h)))
  set_before =
      ap (λ ws. timer_of_found (call_at_place p (filter (has_timer (h ▷ e)) ws))) kept
      ∙ ap (λ ws. timer_of_found (call_at_place p ws)) (filter-filter (has_timer (h ▷ e)) test
      (open_calls h))

  -- if an entry leaves the call at a place open and does not move it, its deadline stays set
  pub set-stays : ((w : WaitingCall) → In w (open_calls h) → w.place ≡ p
      → (test w ≡ true) × (wait_move (h ▷ e) w.place ≡ wait_move h w.place))
      → timer_at (h ▷ e) p ≡ timer_at h p
  set-stays k =
      set_before
      ∙ ap timer_of_found (at-same p (λ w. test w
      && has_timer (h ▷ e) w) (has_timer h) (open_calls h)
      (λ w i at. ap (λ b. b && has_timer (h ▷ e) w) (k w i at).0
      ∙ still-set h e w f i (k w i at).1))

  -- if it ends the call or moves it, no deadline is set there any more
  pub set-goes : ((w : WaitingCall) → In w (open_calls h) → w.place ≡ p
      → (test w && not (is_moved (h ▷ e) w)) ≡ false)
      → timer_at (h ▷ e) p ≡ None
  set-goes k =
      set_before
      ∙ ap timer_of_found (at-none p (λ w. test w && has_timer (h ▷ e) w) (open_calls h)
      (λ w i at. both (test w) (not (is_moved (h ▷ e) w))
      (not (has_invalid_deadline (call_deadline (h ▷ e) w.place))) (k w i at)))
    where
      both : (a b c : Bool) → (a && b) ≡ false → (a && (b && c)) ≡ false
      both true true c e = absurd cc
      both true false c e = refl
      both false b c e = refl

module _ (h : History) (e : Entry) (f : Follows h) (same : open_calls (h ▷ e) ≡ open_calls h)
    (p : ℕ) where
  -- all calls stay open
  none_left : open_calls (h ▷ e) ≡ filter (λ w. true) (open_calls h)
  none_left = same ∙ sym (filter-all (λ w. true) (open_calls h) (λ w i. refl))

  -- if the same calls are open and the one at a place is not moved, its deadline stays set
  pub set-same : ((w : WaitingCall) → In w (open_calls h) → w.place ≡ p
      → wait_move (h ▷ e) w.place ≡ wait_move h w.place) → timer_at (h ▷ e) p ≡ timer_at h p
  set-same k = set-stays h e f (λ w. true) none_left p (λ w i at. (refl, k w i at))

  -- and if it is moved, no deadline is set there any more
  pub set-wait_move : ((w : WaitingCall) → In w (open_calls h) → w.place ≡ p
      → is_moved (h ▷ e) w ≡ true) → timer_at (h ▷ e) p ≡ None
  set-wait_move k = set-goes h e f (λ w. true) none_left p (λ w i at. ap not (k w i at))

-- a Join sets no deadline and cancels none
pub set-join : (h : History) (k : ℕ) → Follows h → (p : ℕ)
    → timer_at (h ▷ Join (place h) k) p ≡ timer_at h p
set-join h k f p =
    set-same h (Join (place h) k) f (open-join h k (Fresh-follows h f)) p (λ w i at. refl)

-- nor does a Moment
pub set-moment : (h : History) (z : Clock) (t : ℕ) → Follows h → (p : ℕ)
    → timer_at (h ▷ Moment z t) p ≡ timer_at h p
set-moment h z t f p =
    set-same h (Moment z t) f (open-moment h z t) p (λ w i at. refl)

-- nor does a Yield
pub set-yield : (h : History) (m : ℕ) → Follows h → (p : ℕ)
    → timer_at (h ▷ Yield m) p ≡ timer_at h p
set-yield h m f p = set-same h (Yield m) f (open-yield h m) p (λ w i at. refl)

-- an entry that ends the call at place j and moves none
pub set-out : (h : History) (e : Entry) (j : ℕ) → Follows h
    → open_calls (h ▷ e) ≡ filter (λ w. not (w.place == j)) (open_calls h)
    → ((w : WaitingCall) → In w (open_calls h) → wait_move (h ▷ e) w.place ≡ wait_move h w.place)
    → (p : ℕ) → timer_at (h ▷ e) p ≡ cond (j == p) None (timer_at h p)
set-out h e j f left moves p = go (j == p) refl
  where
    go : (b : Bool) → (j == p) ≡ b → timer_at (h ▷ e) p ≡ cond b None (timer_at h p)
    go true k =
        set-goes h e f (λ w. not (w.place == j)) left p
        (λ w i at. let here : (w.place == j) ≡ true = grind (arith, nat_tests) in rw here refl)
    go false k =
        set-stays h e f (λ w. not (w.place == j)) left p
        (λ w i at. let other : (w.place == j) ≡ false = grind (arith, nat_tests) in
        (ap not other, moves w i))

-- a Grant cancels the deadline of its call
pub set-grant : (h : History) (j : ℕ) (x : Outcome) → Follows h → (p : ℕ)
    → timer_at (h ▷ Grant j x) p ≡ cond (j == p) None (timer_at h p)
set-grant h j x f p = set-out h (Grant j x) j f (open-grant h j x) (λ w i. refl) p

-- an Expire cancels the deadline of its call: a wait is moved, any other call ends
pub set-expire : (h : History) (u : WaitingCall) → Follows h → In u (open_calls h) → (p : ℕ)
    → timer_at (h ▷ Expire u.place) p ≡ cond (u.place == p) None (timer_at h p)
set-expire h u f i p = go (u.place == p) refl
  where
    gone : (waits : Bool) (j : ℕ) → (j == u.place) ≡ true → (u.place == j) ≡ true
        → ((waits || not (j == u.place))
        && not (is_some (move_or (place h) (cause_by_expiry (u.place == j) waits) (wait_move h j))))
        ≡ false
    gone true j e k = rw k refl
    gone false j e k = rw e refl

    stays : (waits b : Bool) → b ≡ false → (waits || not b) ≡ true
    stays true b e = refl
    stays false b e = ap not e

    go : (b : Bool) → (u.place == p) ≡ b
        → timer_at (h ▷ Expire u.place) p ≡ cond b None (timer_at h p)
    go true k =
        set-goes h (Expire u.place) f (λ w. is_cond_wait u.role || not (w.place == u.place))
        (open-expire h u f i) p
        (λ w j at. let here : (w.place == u.place) ≡ true = grind (arith, nat_tests) in
        let there : (u.place == w.place) ≡ true = grind (arith, nat_tests) in
        ap (λ o. (is_cond_wait u.role || not (w.place == u.place)) && not (is_some o))
        (wait_move-expire h u f i w.place) ∙ gone (is_cond_wait u.role) w.place here there)
    go false k =
        set-stays h (Expire u.place) f (λ w. is_cond_wait u.role || not (w.place == u.place))
        (open-expire h u f i) p
        (λ w j at. let other : (w.place == u.place) ≡ false = grind (arith, nat_tests) in
        let apart : (u.place == w.place) ≡ false = grind (arith, nat_tests) in (
          stays (is_cond_wait u.role) (w.place == u.place) other,
          wait_move-expire h u f i w.place
              ∙ ap (λ b. move_or (place h) (cause_by_expiry b (is_cond_wait u.role))
              (wait_move h w.place))
              apart,
        ))

-- the death of a client with no open call cancels none
pub set-death-free : (h : History) (c : ℕ) → Follows h → open_place h c ≡ None → (p : ℕ)
    → timer_at (h ▷ Death c) p ≡ timer_at h p
set-death-free h c f e p =
    set-stays h (Death c) f (λ w. not (w.client == c)) (open-death h c) p
    (λ w i at. (another w i (w.client == c) refl, refl))
  where
    another : (w : WaitingCall) → In w (open_calls h) → (b : Bool) → (w.client == c) ≡ b
        → not b ≡ true
    another w i false k = refl
    another w i true k =
        let its : w.client ≡ c = grind (arith, nat_tests) in
        absurd (none_of_client (open_calls h) c w e i its)

-- the death of a client cancels the deadline of its open call
pub set-death : (h : History) (c j : ℕ) → Follows h → open_place h c ≡ Some j → (p : ℕ)
    → timer_at (h ▷ Death c) p ≡ cond (j == p) None (timer_at h p)
set-death h c j f e p = found (call_of (open_calls h) c) refl
  where
    found : (x : Option WaitingCall) → call_of (open_calls h) c ≡ x
        → timer_at (h ▷ Death c) p ≡ cond (j == p) None (timer_at h p)
    found None k =
        let no : ◌≡◌ {A = Option ℕ} (Some j) None =
        sym e ∙ (sym (call_of-place (open_calls h) c)
        ∙ ap (option_map (λ (w : WaitingCall). w.place)) k) in
        absurd cc
    found (Some u) k = go (j == p) refl
      where
        its : In u (open_calls h) × (u.client ≡ c)
        its = call_of-in (open_calls h) c u k

        there : u.place ≡ j
        there =
            let both : ◌≡◌ {A = Option ℕ} (Some u.place) (Some j) =
            sym (ap (option_map (λ (w : WaitingCall). w.place)) k)
            ∙ (call_of-place (open_calls h) c ∙ e) in
            cc

        another : (w : WaitingCall) → In w (open_calls h) → (w.place ≡ j → ⊥) → (b : Bool)
            → (w.client == c) ≡ b → not b ≡ true
        another w i apart false t = refl
        another w i apart true t =
            let by : w.client ≡ c = grind (arith, nat_tests) in
            absurd (apart (ap (λ (v : WaitingCall). v.place)
            (one_each h f w u i its.0 (by ∙ sym its.1)) ∙ there))

        go : (b : Bool) → (j == p) ≡ b → timer_at (h ▷ Death c) p ≡ cond b None (timer_at h p)
        go true t =
            let here : j ≡ p = grind (arith, nat_tests) in
            set-goes h (Death c) f (λ w. not (w.client == c)) (open-death h c) p
            (λ w i at. let by : w.client ≡ c =
            ap (λ (v : WaitingCall). v.client)
            (one_open h f w u i its.0 (at ∙ (sym here ∙ sym there))) ∙ its.1 in
            let own : (w.client == c) ≡ true = grind (arith, nat_tests) in
            rw own refl)
        go false t =
            set-stays h (Death c) f (λ w. not (w.client == c)) (open-death h c) p
            (λ w i at. (
              another w i (λ k. absurd (grind (arith, nat_tests))) (w.client == c)
                  refl,
              refl,
            ))
