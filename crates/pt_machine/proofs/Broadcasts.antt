-- A broadcast moves the waits at its condition, and changes nothing else.
use Rattle.std.proofs.Common.{◌≡◌, ℕ, Bool, true, false, cond, ◌&&◌, ◌==◌, List, ◌++◌, Option, Some}
use Rattle.std.proofs.Common.{None, is_none, refl, sym, ap, ◌∙◌, subst, arith, append-nil, eq-eqb}
use Rattle.std.proofs.Common.{unwrap_or}
use Rattle.std.proofs.lemmas.Bool.Decides.{nat_tests}
use Rattle.std.proofs.lemmas.Bool.{and_parts}
use Rattle.pt_types.specs.declared.call.Call.{Call as FunctionCall}
use Rattle.pt_types.specs.declared.outcome.Outcome.{Outcome}
use Rattle.pt_types.specs.declared.outcome.Outcome.TheVariants.{Done}
use Rattle.pt_types.specs.Operations.{Operation, Broadcasts, operation, clock_of}
use Rattle.pt_types.specs.declared.operations.ObjectClass.TheVariants.{Mutex as MutexClass}
use Rattle.pt_types.specs.declared.operations.ObjectClass.TheVariants.{Rwlock as RwlockClass}
use Rattle.pt_types.specs.declared.operations.ObjectClass.TheVariants.{Cond as CondClass}
use Rattle.pt_types.specs.declared.operations.ObjectClass.TheVariants.{Barrier as BarrierClass}
use Rattle.pt_model.specs.declared.entry.Entry.TheVariants.{Call}
use Rattle.pt_model.specs.declared.entry.Cause.{Cause}
use Rattle.pt_model.specs.declared.entry.Cause.TheVariants.{Broadcasted}
use Rattle.pt_model.specs.Searches.{In}
use Rattle.pt_model.specs.Histories.{History, ◌▷◌, place}
use Rattle.pt_model.specs.Clients.{is_alive}
use Rattle.pt_model.specs.Objects.{is_class, find_object, kind_of}
use Rattle.pt_model.specs.declared.waiting_call.WaitingCall.{WaitingCall}
use Rattle.pt_model.specs.declared.waiting_call.Move.{Move}
use Rattle.pt_model.specs.declared.waiting_call.Role.{Role}
use Rattle.pt_model.specs.declared.waiting_call.Role.TheVariants.{ForMutex, ForRead, ForWrite}
use Rattle.pt_model.specs.declared.waiting_call.Role.TheVariants.{ForBarrier, ForCond}
use Rattle.pt_model.specs.WaitingCall.{is_cond_wait}
use Rattle.pt_model.specs.Answers.{open_calls}
use Rattle.pt_model.specs.Moves.{arrival_by, cond_waits, cause_if_among, move_or, wait_move}
use Rattle.pt_model.specs.Moves.{wait_object_by}
use Rattle.pt_model.specs.Moves.{wait_object, waiting_at}
use Rattle.pt_model.specs.Verdicts.{bound_mutex}
use Rattle.pt_model.specs.Steps.{Step, Follows}
use Rattle.pt_model.proofs.Lists.{false_by, filter-in}
use Rattle.pt_model.proofs.Effects.{Wakes, act, effect, Allowed}
use Rattle.pt_model.proofs.Allowances.{allowed}
use Rattle.pt_model.proofs.Changes.{left_by, kind_effect, cause_effect}
use Rattle.pt_model.proofs.Readings.{kind-call}
use Rattle.pt_model.proofs.Sound.{Fresh-follows}
use Rattle.pt_model.proofs.Opens.{open-call}
use Rattle.pt_model.proofs.Moves.{wait_move-call, woken-broadcast}
use Rattle.pt_model.proofs.Named.{known_exists}
use Rattle.pt_model.proofs.Seats.{exists_as, HousedBy, one_class, housed}
use Rattle.pt_next_grant.proofs.BoundMutex.{at_cond, bound-any}
use Rattle.pt_state.specs.declared.state.State.{State}
use Rattle.pt_state.specs.Adds.{history_of, HasRoomFor, Adds}
use Rattle.pt_state.proofs.StepLemmas.{called}
use Rattle.pt_history.proofs.Places.{past-pushed}
use Rattle.pt_history.specs.Stored.{stored_history}

-- whether a call is a wait that is still at the condition q
abbrev pub still_waits : Role → Option Move → ℕ → ℕ → Bool
still_waits role move o q = is_cond_wait role && (is_none move && (q == o))

-- the move by a broadcast at this place
abbrev pub roused : ℕ → Option Move
roused at = Some (record { at = at; cause = Broadcasted })

-- g is the history h after a broadcast at the condition q
pub record Broadcast (h g : History) (q : ℕ) : Type 0 where
  pub before : Follows h
  pub after : Follows g
  pub is_cond : exists_as h CondClass q ≡ true
  pub calls : open_calls g ≡ open_calls h
  pub moves : (w : WaitingCall) → In w (open_calls g) → wait_move g w.place
      ≡ cond (still_waits w.role (wait_move h w.place) w.object q) (roused (place h))
      (wait_move h w.place)
  pub kinds : (o : ℕ) → kind_of g o ≡ kind_of h o
  pub alive : (c : ℕ) → is_alive g c ≡ is_alive h c

-- a call of broadcast that is answered 0 is such a broadcast
pub broadcast-call : (h : History) (c : ℕ) (call : FunctionCall) → Follows h
    → Step h (Call c call (Some Done)) → (n : List ℕ) → operation call ≡ Broadcasts n → (q : ℕ)
    → find_object h n CondClass ≡ Some q → Broadcast h (h ▷ Call c call (Some Done)) q
broadcast-call h c call f s n d q e =
    record {
      before = f;
      after = (f, s);
      is_cond = known_exists h f CondClass q (n, e);
      calls = calls;
      moves = λ w i. wait_move-call h c call (Some Done) w.place
          ∙ (ap (λ E. move_or (place h) (cause_effect h (wait_move h) E w.place)
          (wait_move h w.place))
          wakes
          ∙ by w (waiting w (subst (λ (ws : List WaitingCall). In w ws) calls i)));
      kinds = λ o. kind-call h c call (Some Done) (kind_of h o) o
          ∙ ap (λ E. kind_effect (place h) E (kind_of h o) o) wakes;
      alive = λ b. refl;
    }
  where
    wakes : effect h c call (Some Done) ≡ Wakes n true
    wakes = ap (λ (x : Operation). act h c (clock_of call) x (Some Done)) d

    may : Allowed h c (effect h c call (Some Done))
    may = subst (λ (x : Option Outcome). Allowed h c (effect h c call x))
        (sym (called h c call (Some Done) s).replies) (allowed h c call)

    calls : open_calls (h ▷ Call c call (Some Done)) ≡ open_calls h
    calls =
        open-call h c call (Some Done) (Fresh-follows h f) (called h c call (Some Done) s).alive may
        ∙ (ap (λ E. open_calls h ++ left_by E) wakes ∙ append-nil (open_calls h))

    -- the open calls that are woken are the waits at the condition
    waiting : (w : WaitingCall) → In w (open_calls h)
        → cause_if_among (cond_waits h (wait_move h) n) Broadcasted w.place
        ≡ cond (still_waits w.role (wait_move h w.place) w.object q) (Some Broadcasted) None
    waiting w i = ap (λ (b : Bool). cond b (Some Broadcasted) None)
        (woken-broadcast h n f w i ∙ rw e refl)

    by : (w : WaitingCall) {x : Option Cause}
        → x ≡ cond (still_waits w.role (wait_move h w.place) w.object q) (Some Broadcasted) None
        → move_or (place h) x (wait_move h w.place)
        ≡ cond (still_waits w.role (wait_move h w.place) w.object q) (roused (place h))
        (wait_move h w.place)
    by w {x = x} k = ap (λ y. move_or (place h) y (wait_move h w.place)) k
        ∙ go (still_waits w.role (wait_move h w.place) w.object q)
      where
        go : (b : Bool) → move_or (place h) (cond b (Some Broadcasted) None) (wait_move h w.place)
            ≡ cond b (roused (place h)) (wait_move h w.place)
        go true = refl
        go false = refl

-- the same for the history of tables to which the call was added
pub broadcasting : {A : Type 0} (s new : State A) (c : ℕ) (call : FunctionCall) (n : List ℕ)
    (found : Option ℕ) (q : ℕ) → HasRoomFor s (Call c call (Some Done))
    → operation call ≡ Broadcasts n → found ≡ find_object (history_of s) n CondClass → found
    ≡ Some q
    → Adds s (Call c call (Some Done)) new → Broadcast (history_of s) (history_of new) q
broadcasting s new c call n found q r d e k a =
    subst (λ (g : History). Broadcast (history_of s) g q)
    (sym (ap stored_history a.stored
    ∙ past-pushed s.stored (Call c call (Some Done))))
    (broadcast-call (history_of s) c call r.read.follows r.step n d q (sym e ∙ k))

-- a call at a condition is a wait that is still there
waits-by : (h : History) (q : ℕ) → exists_as h CondClass q ≡ true → (role : Role)
    (move : Option Move) (o : ℕ) → HousedBy h role move o → wait_object_by role move o ≡ q
    → still_waits role move o q ≡ true
waits-by h q c (ForCond m) None o s e = eq-eqb q o (sym e)
waits-by h q c (ForCond m) (Some v) o s e =
    let other : CondClass ≡ MutexClass =
    one_class (kind_of h q) CondClass MutexClass c (ap (exists_as h MutexClass) (sym e) ∙ s.0) in
    absurd cc
waits-by h q c ForMutex move o s e =
    let other : CondClass ≡ MutexClass =
    one_class (kind_of h q) CondClass MutexClass c (ap (exists_as h MutexClass) (sym e) ∙ s.0) in
    absurd cc
waits-by h q c ForRead move o s e =
    let other : CondClass ≡ RwlockClass =
    one_class (kind_of h q) CondClass RwlockClass c (ap (exists_as h RwlockClass) (sym e) ∙ s.0) in
    absurd cc
waits-by h q c ForWrite move o s e =
    let other : CondClass ≡ RwlockClass =
    one_class (kind_of h q) CondClass RwlockClass c (ap (exists_as h RwlockClass) (sym e) ∙ s.0) in
    absurd cc
waits-by h q c ForBarrier move o s e =
    let other : CondClass ≡ BarrierClass =
    one_class (kind_of h q) CondClass BarrierClass c
    (ap (exists_as h BarrierClass) (sym e) ∙ s.0) in
    absurd cc

-- and a wait that is still there is at the condition
stands-by : (role : Role) (move : Option Move) (o q : ℕ) → still_waits role move o q ≡ true
    → wait_object_by role move o ≡ q
stands-by (ForCond m) None o q t = grind (arith, nat_tests)
stands-by (ForCond m) (Some v) o q t = absurd cc
stands-by ForMutex move o q t = absurd cc
stands-by ForRead move o q t = absurd cc
stands-by ForWrite move o q t = absurd cc
stands-by ForBarrier move o q t = absurd cc

-- a wait that was moved is not
left-by : (h : History) (q : ℕ) → exists_as h CondClass q ≡ true → (role : Role)
    (v : Move) (o : ℕ) → is_cond_wait role ≡ true → HousedBy h role (Some v) o
    → (wait_object_by role (Some v) o == q) ≡ false
left-by h q c (ForCond m) v o t s =
    false_by (m == q) (λ k.
    let same : m ≡ q = grind (arith, nat_tests) in
    let other : CondClass ≡ MutexClass =
    one_class (kind_of h q) CondClass MutexClass c (ap (exists_as h MutexClass) (sym same) ∙ s.0) in
    absurd cc)
left-by h q c ForMutex v o t s = absurd cc
left-by h q c ForRead v o t s = absurd cc
left-by h q c ForWrite v o t s = absurd cc
left-by h q c ForBarrier v o t s = absurd cc

module _ {h g : History} {q : ℕ} (b : Broadcast h g q) where
  -- the calls that are open were open before
  pub was : (w : WaitingCall) → In w (open_calls g) → In w (open_calls h)
  was w i = subst (λ (ws : List WaitingCall). In w ws) b.calls i

  waits : (w : WaitingCall) → In w (open_calls g) → wait_object h w ≡ q
      → still_waits w.role (wait_move h w.place) w.object q ≡ true
  waits w i e =
      waits-by h q b.is_cond w.role (wait_move h w.place) w.object (housed h b.before w (was w i)) e

  -- a call that was at the condition had not been moved
  pub came : (w : WaitingCall) → In w (open_calls g) → wait_object h w ≡ q
      → (arrival_by (wait_move h w.place) w.place).0 ≡ w.place
  came w i e = go (wait_move h w.place) (waits w i e)
    where
      go : (x : Option Move) → still_waits w.role x w.object q ≡ true
          → (arrival_by x w.place).0 ≡ w.place
      go None t = refl
      go (Some v) t = absurd (let no = (and_parts (is_cond_wait w.role) false t).1 in cc)

  -- the broadcast moves it
  pub rouses : (w : WaitingCall) → In w (open_calls g) → wait_object h w ≡ q
      → wait_move g w.place ≡ roused (place h)
  rouses w i e =
      b.moves w i ∙ ap (λ t. cond t (roused (place h)) (wait_move h w.place)) (waits w i e)

  -- and it is no longer at the condition
  pub away : (w : WaitingCall) → In w (open_calls g) → wait_object h w ≡ q
      → (wait_object g w == q) ≡ false
  away w i e =
      let there : exists_as g CondClass q ≡ true = ap (λ k. is_class k CondClass) (b.kinds q)
      ∙ b.is_cond in
      let role : is_cond_wait w.role ≡ true = (and_parts (is_cond_wait w.role) _ (waits w i e)).0 in
      let sits : HousedBy g w.role (roused (place h)) w.object =
      subst (λ (x : Option Move). HousedBy g w.role x w.object) (rouses w i e)
      (housed g b.after w i) in
      ap (λ x. wait_object_by w.role x w.object == q) (rouses w i e)
      ∙ left-by g q there w.role (record { at = place h; cause = Broadcasted }) w.object role sits

  -- no other call is moved
  pub spares : (w : WaitingCall) → In w (open_calls g) → (wait_object h w == q) ≡ false
      → wait_move g w.place ≡ wait_move h w.place
  spares w i n =
      b.moves w i ∙ ap (λ t. cond t (roused (place h)) (wait_move h w.place))
      (false_by (still_waits w.role (wait_move h w.place) w.object q) (λ t.
      let at : wait_object h w ≡ q = stands-by w.role (wait_move h w.place) w.object q t in
      absurd (let here = eq-eqb (wait_object h w) q at in let no = n in cc)))

  -- a call that was at the condition now waits at the mutex that was bound to it
  pub goes : (w : WaitingCall) → In w (open_calls g) → wait_object h w ≡ q
      → wait_object g w ≡ unwrap_or (bound_mutex (waiting_at h q)) 0
  goes w i e =
      let there : In w (waiting_at h q) =
      filter-in (λ (u : WaitingCall). wait_object h u == q) (open_calls h) w (was w i)
      (eq-eqb (wait_object h w) q e) in
      let has_call = at_cond h q w b.before b.is_cond there in
      ap (λ x. wait_object_by w.role x w.object) (rouses w i e)
      ∙ (ap (λ r. wait_object_by r (roused (place h)) w.object) has_call.1.1.0
      ∙ sym (ap (λ (o : Option ℕ). unwrap_or o 0)
      (bound-any h b.before q w has_call.1.0 has_call.0 has_call.1.1.1.1 has_call.1.1.0 has_call.1.1.1.0)))
