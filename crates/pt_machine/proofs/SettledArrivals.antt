-- SettledArrivals: what must follow an arrival is the Trip of its barrier, or nothing.
use Rattle.std.proofs.Common.{◌≡◌, ℕ, false, cond, not, ◌&&◌, ◌==◌, nat_lt, suc, ◌-◌, List, []}
use Rattle.std.proofs.Common.{◌∷◌, ◌++◌, Option, Some, None, filter, refl, sym, ap, ◌∙◌, subst}
use Rattle.std.proofs.Common.{append-nil}
use Rattle.std.proofs.lemmas.List.Elements.{filter-append}
use Rattle.std.specs.Option.{option_or}
use Rattle.pt_types.specs.declared.call.Call.{Call as FunctionCall}
use Rattle.pt_types.specs.declared.operations.ObjectClass.TheVariants.{Barrier as BarrierClass}
use Rattle.pt_types.specs.declared.outcome.Outcome.{Outcome}
use Rattle.pt_types.specs.Operations.{BarrierWaits, Operation, clock_of, operation}
use Rattle.pt_model.specs.declared.entry.Entry.TheVariants.{Call}
use Rattle.pt_model.specs.Searches.{least}
use Rattle.pt_model.specs.Clients.{clock, is_due}
use Rattle.pt_model.specs.Histories.{History, ◌▷◌, place}
use Rattle.pt_model.specs.Objects.{is_robust, kind_of}
use Rattle.pt_model.specs.declared.waiting_call.WaitingCall.{WaitingCall}
use Rattle.pt_model.specs.declared.waiting_call.Role.TheVariants.{ForBarrier}
use Rattle.pt_model.specs.WaitingCall.{new_waiting_call, object_or_zero}
use Rattle.pt_model.specs.Answers.{open_calls}
use Rattle.pt_model.specs.Moves.{is_moved}
use Rattle.pt_model.specs.Mutexes.{mutex_count, lock_count, unlock_count, owner, unlocks_to_wait}
use Rattle.pt_model.specs.Forced.{expire_if, expires_before, forced, forced_expire, forced_service}
use Rattle.pt_model.specs.Forced.{forced_yield, is_dead_if, is_orphan, is_overdue, service}
use Rattle.pt_model.specs.Forced.{service_if, yield_if}
use Rattle.pt_model.specs.Steps.{Step, Follows}
use Rattle.pt_model.proofs.Allowances.{allowed}
use Rattle.pt_model.proofs.Changes.{left_by}
use Rattle.pt_model.proofs.Effects.{Allowed, effect, stays}
use Rattle.pt_model.proofs.FirstBelow.{first_below-none}
use Rattle.pt_model.proofs.Holders.{owner-same}
use Rattle.pt_model.proofs.Opens.{open-call}
use Rattle.pt_model.proofs.Sound.{Fresh-follows}
use Rattle.pt_state.specs.declared.state.State.{State}
use Rattle.pt_state.specs.Adds.{Adds, HasRoomFor, history_of}
use Rattle.pt_state.proofs.Orphans.{orphan-rests}
use Rattle.pt_state.proofs.StepLemmas.{Called, called as known_call}
use Rattle.pt_next_grant.specs.Candidates.{candidate, candidate_if}
use Rattle.pt_next_grant.specs.Touched.{goal_of_operation, service_object}
use Rattle.pt_next_grant.proofs.Candidates.{serves_touched}
use Rattle.pt_machine.proofs.SettledGrants.{and_false, neither}
use Rattle.pt_machine.proofs.QueuedSame.{history_of-adds}

module _ (h : History) (f : Follows h) (c : ℕ) (call : FunctionCall) (n : List ℕ)
    (has_request : operation call ≡ BarrierWaits n) (s : Step h (Call c call None)) where
  -- the history after the arrival
  abbrev after : History
  after = h ▷ Call c call None

  has_call : Called h c call None
  has_call = known_call h c call None s

  -- the arrival as it waits, without a deadline
  abbrev its : WaitingCall
  its = new_waiting_call h c (object_or_zero h n BarrierClass) ForBarrier (clock_of call) None

  opens : open_calls after ≡ open_calls h ++ its ∷ []
  opens =
      let may = subst (λ (r : Option Outcome). Allowed h c (effect h c call r)) (sym has_call.replies)
      (allowed h c call) in
      open-call h c call None (Fresh-follows h f) has_call.alive may
      ∙ ap (λ (d : Operation). open_calls h ++ left_by (stays h c (clock_of call) d)) has_request

  undue : is_overdue h its ≡ false
  undue =
      ap (λ b. not (is_moved h its) && b) (never (clock h (clock_of call)))
      ∙ and_false (not (is_moved h its))
    where
      never : (now : Option ℕ) → is_due now None ≡ false
      never None = refl
      never (Some t) = refl

  no_expire : forced_expire after ≡ None
  no_expire =
      ap (λ ws. expire_if (least expires_before ws))
      (ap (filter (is_overdue h)) opens
      ∙ (filter-append (is_overdue h) (open_calls h) (its ∷ [])
      ∙ (ap (λ b. filter (is_overdue h) (open_calls h) ++ cond b (its ∷ []) []) undue
      ∙ append-nil (filter (is_overdue h) (open_calls h)))))
      ∙ (neither (forced_yield h) (forced_expire h)
      (neither (forced_service h) (option_or (forced_yield h) (forced_expire h))
      has_call.quiet).1).1

  -- no mutex changes its owner
  same_owner : (m : ℕ) → owner after m ≡ owner h m
  same_owner m = owner-same h (Call c call None) m f (λ d. ap (nat_lt 0) (kept d))
    where
      kept : (d : ℕ) → mutex_count after m d ≡ mutex_count h m d
      kept d =
          ap (λ (q : Operation). lock_count h m d
          - cond (unlocks_to_wait h q m && (c == d)) (suc (unlock_count h m d))
          (unlock_count h m d)) has_request

  no_orphan : (m : ℕ) → is_orphan after m ≡ false
  no_orphan m =
      ap (λ y. is_robust (kind_of h m) && is_dead_if after y) (same_owner m)
      ∙ (ap (λ b. is_robust (kind_of h m) && b) (as_before (owner h m))
      ∙ orphan-rests h f has_call.quiet m)
    where
      as_before : (y : Option ℕ) → is_dead_if after y ≡ is_dead_if h y
      as_before None = refl
      as_before (Some d) = refl

  no_yield : forced_yield after ≡ None
  no_yield =
      ap yield_if (first_below-none (is_orphan after) (place after) (λ m lt. no_orphan m))

  -- the object that the arrival touches is its barrier
  touches : service_object after ≡ Some (object_or_zero h n BarrierClass)
  touches = ap (goal_of_operation h) has_request

  serves_there : forced_service after
      ≡ service_if after (candidate after (object_or_zero h n BarrierClass))
  serves_there =
      serves_touched after (f, s) ∙ ap (λ o. service_if after (candidate_if after o)) touches

  -- so if no call is served there, nothing must follow
  pub rests-there : candidate after (object_or_zero h n BarrierClass) ≡ None → forced after ≡ None
  rests-there none =
      ap (λ y. option_or y (option_or (forced_yield after) (forced_expire after)))
      (serves_there ∙ ap (service_if after) none)
      ∙ (ap (λ y. option_or y (forced_expire after)) no_yield ∙ no_expire)

  -- and if a call is served there, the entry that serves it must follow
  pub serves-there : (w : WaitingCall) → candidate after (object_or_zero h n BarrierClass) ≡ Some w
      → forced after ≡ Some (service after w)
  serves-there w is =
      ap (λ y. option_or y (option_or (forced_yield after) (forced_expire after)))
      (serves_there ∙ ap (service_if after) is)

module _ {A : Type 0} (old new : State A) (c : ℕ) (call : FunctionCall) (n : List ℕ)
    (has_request : operation call ≡ BarrierWaits n) (ready : HasRoomFor old (Call c call None))
    (a : Adds old (Call c call None) new) (b : ℕ) (at : b
    ≡ object_or_zero (history_of old) n BarrierClass)
  where
    same : history_of new ≡ history_of old ▷ Call c call None
    same = history_of-adds old new (Call c call None) a

    there : candidate (history_of new) b
        ≡ candidate (history_of old ▷ Call c call None) (object_or_zero
        (history_of old) n BarrierClass)
    there =
        ap (λ (h : History). candidate h b) same
        ∙ ap (candidate (history_of old ▷ Call c call None)) at

    -- nothing must follow the arrival if no call is served at its barrier
    pub rests-arrived : candidate (history_of new) b ≡ None → forced (history_of new) ≡ None
    rests-arrived none =
        ap forced same
        ∙ rests-there (history_of old) ready.read.follows c call n has_request ready.step (sym there
        ∙ none)

    -- if a call is served there, the entry that serves it must follow the arrival
    pub serves-arrived : (w : WaitingCall) → candidate (history_of new) b ≡ Some w
        → forced (history_of new) ≡ Some (service (history_of new) w)
    serves-arrived w is =
        ap forced same
        ∙ (serves-there (history_of old) ready.read.follows c call n has_request ready.step w (sym there
        ∙ is)
        ∙ ap (λ (h : History). Some (service h w)) (sym same))
