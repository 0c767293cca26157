-- CalmCalls: nothing must follow a call that gives nothing back and leaves no call waiting.
use Rattle.std.proofs.Common.{◌≡◌, ℕ, ◌≤◌, Bool, true, false, cond, not, ◌&&◌, ◌==◌, List, []}
use Rattle.std.proofs.Common.{◌++◌, Option, Some, None, is_some, filter, refl, sym, ap}
use Rattle.std.proofs.Common.{◌∙◌, subst, arith, inl, inr, ◌⊎◌}
use Rattle.std.proofs.lemmas.Bool.{false≢true}
use Rattle.std.proofs.lemmas.Bool.Decides.{nat_tests}
use Rattle.std.specs.Option.{option_or}
use Rattle.pt_types.specs.declared.call.Call.{Call as FunctionCall}
use Rattle.pt_types.specs.declared.call.ObjectKind.{ObjectKind}
use Rattle.pt_types.specs.declared.operations.LockKind.TheVariants.{MutexLock, ReadLock, WriteLock}
use Rattle.pt_types.specs.declared.operations.ObjectClass.TheVariants.{Mutex as MutexClass}
use Rattle.pt_types.specs.declared.outcome.Outcome.{Outcome}
use Rattle.pt_types.specs.declared.outcome.Outcome.TheVariants.{Done, Serial, Eperm, Einval, Ebusy}
use Rattle.pt_types.specs.declared.outcome.Outcome.TheVariants.{Eagain, Edeadlk, Etimedout}
use Rattle.pt_types.specs.declared.outcome.Outcome.TheVariants.{Eownerdead, Enotrecoverable}
use Rattle.pt_types.specs.declared.time.Clock.{Clock}
use Rattle.pt_types.specs.MutexTable.{is_some_number}
use Rattle.pt_types.specs.Operations.{Operation}
use Rattle.pt_types.specs.Operations.{Acquires, BarrierWaits, CondWaits, Broadcasts, Ends, Inits, Restores}
use Rattle.pt_types.specs.Operations.{Rwunlocks, Signals, Unlocks}
use Rattle.pt_types.specs.Tables.{reply}
use Rattle.pt_model.specs.declared.entry.Entry.TheVariants.{Call}
use Rattle.pt_model.specs.declared.waiting_call.WaitingCall.{WaitingCall}
use Rattle.pt_model.specs.Answers.{open_calls}
use Rattle.pt_model.specs.Clients.{clock, is_alive, is_due}
use Rattle.pt_model.specs.Forced.{expire_if, expires_before, forced, forced_expire, forced_service}
use Rattle.pt_model.specs.Forced.{forced_yield, is_dead_if, is_orphan, is_overdue, can_be_served}
use Rattle.pt_model.specs.Forced.{is_served_before, service_if, yield_if}
use Rattle.pt_model.specs.Histories.{History, ◌▷◌, place}
use Rattle.pt_model.specs.Moves.{wait_object, is_moved, move_or, wait_move}
use Rattle.pt_model.specs.Mutexes.{mutex_count, owner}
use Rattle.pt_model.specs.Objects.{find_object, is_robust, kind_of}
use Rattle.pt_model.specs.Searches.{In}
use Rattle.pt_model.specs.Steps.{Follows, Step}
use Rattle.pt_model.specs.Verdicts.{verdict}
use Rattle.pt_model.proofs.Allowances.{allowed}
use Rattle.pt_model.proofs.Disjoint.{owner-unmade}
use Rattle.pt_model.proofs.Changes.{cause_effect, gives_up, kind_effect}
use Rattle.pt_model.proofs.Changes.{left_by}
use Rattle.pt_model.proofs.Effects.{Effect, Idle, Creates, Removes, Relocks, Frees, Mends, Returns}
use Rattle.pt_model.proofs.Effects.{Waits, Wakes, act, effect, succeeds, upon}
use Rattle.pt_model.proofs.FirstBelow.{first_below-none}
use Rattle.pt_model.proofs.Holders.{owner-call}
use Rattle.pt_model.proofs.Leasts.{none-least}
use Rattle.pt_model.proofs.Lists.{false_by, In-append_cases, In-filter}
use Rattle.pt_model.proofs.Moves.{wait_move-call}
use Rattle.pt_model.proofs.Opens.{open-call}
use Rattle.pt_model.proofs.Readings.{kind-call}
use Rattle.pt_model.proofs.Services.{none-overdue, none-served}
use Rattle.pt_model.proofs.Sound.{Fresh-follows}
use Rattle.pt_state.proofs.Orphans.{orphan-rests}
use Rattle.pt_state.proofs.StepLemmas.{Called, called as known_call}
use Rattle.pt_next_grant.proofs.TouchedCalls.{call-aside, touched-call, touched_effect}
use Rattle.pt_machine.specs.SettledCalls.{is_settled_by}

and_false : (a : Bool) → (a && false) ≡ false
and_false true = refl
and_false false = refl

-- nothing must follow if no call is served or overdue and no mutex is an orphan
pub none-forced : (g : History) → ((w : WaitingCall) → In w (open_calls g) → can_be_served g w
    ≡ false)
    → ((m : ℕ) → is_orphan g m ≡ false)
    → ((w : WaitingCall) → In w (open_calls g) → is_overdue g w ≡ false) → forced g ≡ None
none-forced g served orphan due =
    ap (λ y. option_or y (option_or (forced_yield g) (forced_expire g))) no_service
    ∙ (ap (λ y. option_or y (forced_expire g)) no_yield ∙ no_expire)
  where
    none_in : (p : WaitingCall → Bool)
        → ((w : WaitingCall) → In w (open_calls g) → p w ≡ false)
        → (w : WaitingCall) → In w (filter p (open_calls g)) → ⊥
    none_in p e w i =
        let j = In-filter p (open_calls g) w i in false≢true (sym (e w j.0) ∙ j.1)

    no_service : forced_service g ≡ None
    no_service =
        ap (service_if g)
        (none-least (is_served_before g) (filter (can_be_served g) (open_calls g))
        (none_in (can_be_served g) served))

    no_yield : forced_yield g ≡ None
    no_yield = ap yield_if (first_below-none (is_orphan g) (place g) (λ m lt. orphan m))

    no_expire : forced_expire g ≡ None
    no_expire =
        ap expire_if
        (none-least expires_before (filter (is_overdue g) (open_calls g))
        (none_in (is_overdue g) due))

-- an effect touches nothing, moves nothing, and leaves no call waiting
abbrev pub Calm : History → Effect → Type 0
Calm h E =
    (touched_effect h E ≡ None)
    × (((j : ℕ) → cause_effect h (wait_move h) E j ≡ None) × (left_by E ≡ []))

upon_calm : (h : History) (o : Option ℕ) (k : ℕ → Effect) → ((x : ℕ) → Calm h (k x))
    → Calm h (upon o k)
upon_calm h None k e = (refl, ((λ j. refl), refl))
upon_calm h (Some x) k e = e x

pub idle : (h : History) → Calm h Idle
idle h = (refl, ((λ j. refl), refl))

-- the effect of a call that gives nothing back is calm, if the call is answered 0
succeeded : (h : History) (d : Operation) (b : Bool) → is_settled_by d b ≡ true
    → Calm h (succeeds h d)
succeeded h (Inits n kind) b e = (refl, ((λ j. refl), refl))
succeeded h (Ends n class) b e =
    upon_calm h (find_object h n class) (Removes n class) (λ x. (refl, ((λ j. refl), refl)))
succeeded h (Acquires n MutexLock how) b e =
    upon_calm h (find_object h n MutexClass) Relocks (λ x. (refl, ((λ j. refl), refl)))
succeeded h (Acquires n ReadLock how) b e = idle h
succeeded h (Acquires n WriteLock how) b e = idle h
succeeded h (Restores n) b e =
    upon_calm h (find_object h n MutexClass) Mends (λ x. (refl, ((λ j. refl), refl)))
succeeded h (Unlocks n) b e = absurd cc
succeeded h (Rwunlocks n) b e = absurd cc
succeeded h (CondWaits n m d) b e = absurd cc
succeeded h (Signals n) b e = absurd cc
succeeded h (Broadcasts n) b e = absurd cc
succeeded h (BarrierWaits n) b e = absurd cc

pub answered : (h : History) (c : ℕ) (z : Clock) (d : Operation) (b : Bool) → is_settled_by d b
    ≡ true
    → (x : Outcome) → Calm h (act h c z d (Some x))
answered h c z d b e Done = succeeded h d b e
answered h c z d b e Serial = idle h
answered h c z d b e Eperm = idle h
answered h c z d b e Einval = idle h
answered h c z d b e Ebusy = idle h
answered h c z d b e Eagain = idle h
answered h c z d b e Edeadlk = idle h
answered h c z d b e Etimedout = idle h
answered h c z d b e Eownerdead = idle h
answered h c z d b e Enotrecoverable = idle h

module _ (h : History) (f : Follows h) (c : ℕ) (call : FunctionCall)
    (s : Step h (Call c call (reply (verdict h c call)))) where
  abbrev r : Option Outcome
  r = reply (verdict h c call)

  abbrev g : History
  g = h ▷ Call c call (reply (verdict h c call))

  abbrev E : Effect
  E = effect h c call (reply (verdict h c call))

  pub has_call : Called h c call (reply (verdict h c call))
  has_call = known_call h c call (reply (verdict h c call)) s

  pub opens : open_calls g ≡ open_calls h ++ left_by E
  opens =
      open-call h c call (reply (verdict h c call)) (Fresh-follows h f) has_call.alive
      (allowed h c call)

  pub kind-at : (m : ℕ) → kind_of g m ≡ kind_effect (place h) E (kind_of h m) m
  kind-at m = kind-call h c call (reply (verdict h c call)) (kind_of h m) m

  -- no mutex is an orphan after a call, as none was before
  pub orphan : (m : ℕ) → is_orphan g m ≡ false
  orphan m =
      ap (λ o. is_robust (kind_of g m) && is_dead_if g o) (owner-call h c call f s m)
      ∙ taken (gives_up E m && (mutex_count h m c == 1))
    where
      before : (o : Option ℕ) → owner h m ≡ o → (is_robust (kind_of g m) && is_dead_if g o) ≡ false
      before None e = and_false (is_robust (kind_of g m))
      before (Some d) e = ap (λ k. is_robust k && not (is_alive h d)) (kind-at m) ∙ go E
        where
          was : (is_robust (kind_of h m) && not (is_alive h d)) ≡ false
          was =
              ap (λ o. is_robust (kind_of h m) && is_dead_if h o) (sym e)
              ∙ orphan-rests h f has_call.quiet m

          is_queue : (kind : ObjectKind) (b : Bool) → (place h == m) ≡ b
              → (is_robust (cond b (Some kind) (kind_of h m)) && not (is_alive h d)) ≡ false
          is_queue kind true t =
              let le : place h ≤ m = grind (arith, nat_tests) in
              let none : None ≡ Some d = sym (owner-unmade h f m le) ∙ e in
              absurd cc
          is_queue kind false t = was

          ended : (b : Bool)
              → (is_robust (cond b None (kind_of h m)) && not (is_alive h d)) ≡ false
          ended true = refl
          ended false = was

          go : (x : Effect)
              → (is_robust (kind_effect (place h) x (kind_of h m) m) && not (is_alive h d))
              ≡ false
          go (Creates n kind) = is_queue kind (place h == m) refl
          go (Removes n class q) = ended (q == m)
          go Idle = was
          go (Relocks k) = was
          go (Frees k) = was
          go (Mends k) = was
          go (Returns k) = was
          go (Wakes n all) = was
          go (Waits u) = was

      taken : (b : Bool)
          → (is_robust (kind_of g m) && is_dead_if g (cond b None (owner h m))) ≡ false
      taken true = and_false (is_robust (kind_of g m))
      taken false = before (owner h m) refl

  module _ (none : (j : ℕ) → cause_effect h (wait_move h) E j ≡ None) where
    pub stays_put : (j : ℕ) → wait_move g j ≡ wait_move h j
    stays_put j =
        wait_move-call h c call (reply (verdict h c call)) j
        ∙ ap (λ x. move_or (place h) x (wait_move h j)) (none j)

    -- no call is overdue if the one that is left waiting has no deadline
    pub due : ((w : WaitingCall) → In w (left_by E) → w.deadline ≡ None) → (w : WaitingCall)
        → In w (open_calls g) → is_overdue g w ≡ false
    due untimed w i =
        go (In-append_cases w (open_calls h) (left_by E)
        (subst (λ (ws : List WaitingCall). In w ws) opens i))
      where
        never : (now : Option ℕ) → (not (is_moved g w) && is_due now None) ≡ false
        never None = and_false (not (is_moved g w))
        never (Some t) = and_false (not (is_moved g w))

        go : In w (open_calls h) ⊎ In w (left_by E) → is_overdue g w ≡ false
        go (inl j) =
            ap (λ x. not (is_some x) && is_due (clock h w.clock) w.deadline) (stays_put w.place)
            ∙ none-overdue h has_call.quiet w j
        go (inr j) =
            ap (λ d. not (is_moved g w) && is_due (clock g w.clock) d) (untimed w j)
            ∙ never (clock g w.clock)

  -- nothing must follow a call whose effect is calm
  pub calm-rests : Calm h (effect h c call (reply (verdict h c call))) → forced g ≡ None
  calm-rests calm = none-forced g served orphan (due calm.1.0 (λ w i. absurd (nobody w i)))
    where
      nobody : (w : WaitingCall) → In w (left_by E) → ⊥
      nobody w i = subst (λ (ws : List WaitingCall). In w ws) calm.1.1 i

      served : (w : WaitingCall) → In w (open_calls g) → can_be_served g w ≡ false
      served w i =
          false_by (can_be_served g w)
          (λ t. let was = call-aside h c call f has_call.alive s w i t
          (ap (λ o. is_some_number o (wait_object g w))
          (touched-call h c call (reply (verdict h c call)) ∙ calm.0)) in
          false≢true (sym (none-served h has_call.quiet w was.0) ∙ was.1.0))
