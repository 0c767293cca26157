-- What an Expire touches: a call that may be served after it, and waits elsewhere, could be served
-- before it.
use Rattle.std.proofs.Common.{◌≡◌, ℕ, Bool, true, false, not, ◌&&◌, ◌||◌, ◌==◌, Option, Some, None}
use Rattle.std.proofs.Common.{is_some, refl, sym, ap, ◌∙◌, arith}
use Rattle.std.proofs.lemmas.Bool.Decides.{nat_tests}
use Rattle.pt_types.specs.MutexTable.{is_some_number}
use Rattle.pt_model.specs.declared.entry.Entry.TheVariants.{Expire}
use Rattle.pt_model.specs.Searches.{In}
use Rattle.pt_model.specs.Histories.{History, ◌▷◌, place}
use Rattle.pt_model.specs.Clients.{clock, is_due}
use Rattle.pt_model.specs.declared.waiting_call.WaitingCall.{WaitingCall}
use Rattle.pt_model.specs.declared.waiting_call.Move.{Move}
use Rattle.pt_model.specs.declared.waiting_call.Role.{Role}
use Rattle.pt_model.specs.declared.waiting_call.Role.TheVariants.{ForMutex, ForRead, ForWrite}
use Rattle.pt_model.specs.declared.waiting_call.Role.TheVariants.{ForBarrier, ForCond}
use Rattle.pt_model.specs.WaitingCall.{is_cond_wait}
use Rattle.pt_model.specs.Answers.{open_calls}
use Rattle.pt_model.specs.Moves.{cause_by_expiry, move_or, wait_move, is_moved, wait_object_by}
use Rattle.pt_model.specs.Moves.{wait_object}
use Rattle.pt_model.specs.Forced.{can_be_served}
use Rattle.pt_model.specs.Steps.{Step, Follows}
use Rattle.pt_model.proofs.Found.{found_open, one_open}
use Rattle.pt_model.proofs.Opens.{open-expire}
use Rattle.pt_model.proofs.Moves.{wait_move-expire}
use Rattle.pt_next_grant.specs.TouchLaws.{WasServed}
use Rattle.pt_next_grant.proofs.WokenWaits.{cond_beside, unserved}
use Rattle.pt_next_grant.proofs.Unchanged.{Quiet, Stays, itself, was, quiet-entry, stays-filter}
use Rattle.pt_next_grant.proofs.Unchanged.{served-before}
use Rattle.pt_next_grant.specs.Touched.{goal, goal_if, service_object_by}

unmoved : (x b : Bool) → (not x && b) ≡ true → x ≡ false
unmoved true b e = absurd cc
unmoved false b e = refl

no_move : (o : Option Move) → is_some o ≡ false → o ≡ None
no_move None e = refl
no_move (Some v) e = absurd cc

module _ (h : History) (v : WaitingCall) (f : Follows h) (s : Step h (Expire v.place))
    (l : In v (open_calls h))
    (due : (not (is_moved h v) && is_due (clock h v.clock) v.deadline) ≡ true)
  where
    abbrev late : History
    late = h ▷ Expire v.place

    v_moved : wait_move h v.place ≡ None
    v_moved = no_move (wait_move h v.place) (unmoved (is_moved h v) _ due)

    touched : service_object_by h (Expire v.place) ≡ Some (goal v.role v.object)
    touched = ap goal_if (found_open h f v l)

    -- no other call is moved
    others : (j : ℕ) → (v.place == j) ≡ false → wait_move late j ≡ wait_move h j
    others j e =
        wait_move-expire h v f l j
        ∙ ap (λ b. move_or (place h) (cause_by_expiry b (is_cond_wait v.role)) (wait_move h j)) e

    -- a call that is not a wait is not moved either
    no_waits : is_cond_wait v.role ≡ false → (j : ℕ) → wait_move late j ≡ wait_move h j
    no_waits e j =
        wait_move-expire h v f l j
        ∙ (ap (λ b. move_or (place h) (cause_by_expiry (v.place == j) b) (wait_move h j)) e
        ∙ go (v.place == j))
      where
        go : (b : Bool) → move_or (place h) (cause_by_expiry b false) (wait_move h j)
            ≡ wait_move h j
        go true = refl
        go false = refl

    same_goal : (role : Role) → v.role ≡ role
        → goal role v.object ≡ wait_object_by role (wait_move h v.place) v.object
        → goal v.role v.object ≡ wait_object h v
    same_goal role r e =
        ap (λ x. goal x v.object) r
        ∙ (e ∙ sym (ap (λ x. wait_object_by x (wait_move h v.place) v.object) r))

    goal_at : (role : Role) → v.role ≡ role → is_cond_wait role ≡ false → goal v.role v.object
        ≡ wait_object h v
    goal_at ForMutex r e = same_goal ForMutex r refl
    goal_at ForRead r e = same_goal ForRead r refl
    goal_at ForWrite r e = same_goal ForWrite r refl
    goal_at ForBarrier r e = same_goal ForBarrier r refl
    goal_at (ForCond m) r e = absurd cc

    quiet_late : (w : WaitingCall) → Quiet h late (wait_object h w) w.client
    quiet_late w =
        quiet-entry h (Expire v.place) (wait_object h w) w.client f (λ d. refl) refl refl
        (λ d. refl)
        (λ d. refl)

    others_stay : (w : WaitingCall)
        → ((u : WaitingCall) → In u (open_calls h) → wait_object h u ≡ wait_object h w
        → ((is_cond_wait v.role || not (u.place == v.place)) ≡ true) × (wait_move late u.place
        ≡ wait_move h u.place)) → Stays h late (wait_object h w)
    others_stay w each =
        stays-filter h late (wait_object h w) (λ u. is_cond_wait v.role || not (u.place == v.place))
        (open-expire h v f l) each

    plain_aside : is_cond_wait v.role ≡ false → (w : WaitingCall) → In w (open_calls h)
        → can_be_served late w ≡ true
        → is_some_number (service_object_by h (Expire v.place)) (wait_object late w) ≡ false
        → WasServed h late w
    plain_aside e w old t k = (
      old,
      served-before h late w old (quiet_late w)
          (others_stay w
          (λ u j at. (rw e (other u j at (u.place == v.place) refl), no_waits e u.place))) t,
    )
      where
        other : (u : WaitingCall) → In u (open_calls h) → wait_object h u ≡ wait_object h w
            → (b : Bool)
            → (u.place == v.place) ≡ b → not b ≡ true
        other u j at false q = refl
        other u j at true q =
            let same : u.place ≡ v.place = grind (arith, nat_tests) in
            absurd (itself (service_object_by h (Expire v.place)) (wait_object late w)
            (goal v.role v.object) touched
            (goal_at v.role refl e ∙ (ap (wait_object h) (sym (one_open h f u v j l same))
            ∙ (at ∙ ap (λ x. wait_object_by w.role x w.object) (sym (no_waits e w.place))))) k)

    wait_aside : (m : ℕ) → v.role ≡ ForCond m → (w : WaitingCall) → In w (open_calls h)
        → can_be_served late w ≡ true
        → is_some_number (service_object_by h (Expire v.place)) (wait_object late w) ≡ false
        → WasServed h late w
    wait_aside m r w old t k = go (v.place == w.place) refl
      where
        waits : is_cond_wait v.role ≡ true
        waits = ap is_cond_wait r

        go : (b : Bool) → (v.place == w.place) ≡ b → WasServed h late w
        go true e =
            let same : v.place ≡ w.place = grind (arith, nat_tests) in
            let own : v ≡ w = one_open h f v w l old same in
            let role : w.role ≡ ForCond m = ap (λ (u : WaitingCall). u.role) (sym own) ∙ r in
            let now : wait_move late w.place ≡ Some _ =
            wait_move-expire h v f l w.place
            ∙ (ap (λ b. move_or (place h) (cause_by_expiry b (is_cond_wait v.role))
            (wait_move h w.place)) e
            ∙ ap (λ b. move_or (place h) (cause_by_expiry true b) (wait_move h w.place)) waits) in
            let at : wait_object late w ≡ m =
            ap (λ x. wait_object_by x (wait_move late w.place) w.object) role
            ∙ ap (λ x. wait_object_by (ForCond m) x w.object) now in
            absurd (itself (service_object_by h (Expire v.place)) (wait_object late w)
            (goal v.role v.object) touched (ap (λ x. goal x v.object) r ∙ sym at) k)
        go false e = (
          old,
          served-before h late w old (quiet_late w)
              (others_stay w (λ u j at. (rw waits refl, each u j at (v.place == u.place) refl))) t,
        )
          where
            each : (u : WaitingCall) → In u (open_calls h) → wait_object h u ≡ wait_object h w
                → (b : Bool) → (v.place == u.place) ≡ b → wait_move late u.place
                ≡ wait_move h u.place
            each u j at false q = others u.place q
            each u j at true q =
                let same : v.place ≡ u.place = grind (arith, nat_tests) in
                let own : wait_object h v ≡ wait_object h w =
                ap (wait_object h) (one_open h f v u l j same) ∙ at in
                absurd (unserved late w w.role (wait_move h w.place) refl (others w.place e)
                (cond_beside h f v w l old m r v_moved own) t)

    pub expire_aside : (w : WaitingCall) → In w (open_calls late) → can_be_served late w ≡ true
        → is_some_number (service_object_by h (Expire v.place)) (wait_object late w) ≡ false
        → WasServed h late w
    expire_aside w i t k = go v.role refl
      where
        old : In w (open_calls h)
        old = was h (Expire v.place) f s refl w i

        go : (role : Role) → v.role ≡ role → WasServed h late w
        go ForMutex r = plain_aside (ap is_cond_wait r) w old t k
        go ForRead r = plain_aside (ap is_cond_wait r) w old t k
        go ForWrite r = plain_aside (ap is_cond_wait r) w old t k
        go ForBarrier r = plain_aside (ap is_cond_wait r) w old t k
        go (ForCond m) r = wait_aside m r w old t k
