-- What a Grant touches: a call that may be served after it, and waits elsewhere, could be served
-- before it.
use Rattle.std.proofs.Common.{◌≡◌, ℕ, suc, Bool, true, false, cond, not, ◌&&◌, ◌||◌, ◌==◌, nat_lt}
use Rattle.std.proofs.Common.{Option, Some, None, is_some, refl, sym, ap, ◌∙◌, arith}
use Rattle.std.proofs.lemmas.Bool.Decides.{nat_tests}
use Rattle.std.proofs.lemmas.Bool.{and_parts}
use Rattle.pt_types.specs.MutexTable.{is_some_number, is_acquired, can_grant_mutex}
use Rattle.pt_types.specs.MutexTable.{can_grant_relock}
use Rattle.pt_model.specs.declared.entry.Entry.TheVariants.{Grant}
use Rattle.pt_model.specs.Searches.{In}
use Rattle.pt_model.specs.Histories.{History, ◌▷◌}
use Rattle.pt_model.specs.declared.waiting_call.WaitingCall.{WaitingCall}
use Rattle.pt_model.specs.declared.waiting_call.Move.{Move}
use Rattle.pt_model.specs.declared.waiting_call.Role.{Role}
use Rattle.pt_model.specs.declared.waiting_call.Role.TheVariants.{ForMutex, ForRead, ForWrite}
use Rattle.pt_model.specs.declared.waiting_call.Role.TheVariants.{ForBarrier, ForCond}
use Rattle.pt_model.specs.WaitingCall.{final_mutex}
use Rattle.pt_model.specs.Answers.{open_calls}
use Rattle.pt_model.specs.Moves.{wait_move, is_moved, wait_object_by, wait_object, is_least}
use Rattle.pt_model.specs.Mutexes.{mutex_view}
use Rattle.pt_model.specs.Rwlocks.{is_writer, read_count, is_reader_here, is_writer_here}
use Rattle.pt_model.specs.Grants.{is_grantable_as, grant_outcome}
use Rattle.pt_model.specs.Forced.{can_be_served}
use Rattle.pt_model.specs.Steps.{Step, Follows}
use Rattle.pt_model.proofs.NotOwned.{has, and_false}
use Rattle.pt_model.proofs.Found.{found_open, one_open}
use Rattle.pt_model.proofs.Opens.{open-grant}
use Rattle.pt_model.proofs.Counts.{mutex_count-grant}
use Rattle.pt_model.proofs.Rwlocks.{is_writer-grant, read_count-grant}
use Rattle.pt_next_grant.specs.TouchLaws.{WasServed}
use Rattle.pt_next_grant.specs.Touched.{object_if, service_object_by}
use Rattle.pt_next_grant.proofs.Unchanged.{Quiet, itself, was, quiet-entry, stays-filter}
use Rattle.pt_next_grant.proofs.Unchanged.{served-before}

-- a call that is granted waits at the object that it is for
away : (h : History) (v : WaitingCall) (role : Role) (o : ℕ) → v.role ≡ role
    → is_grantable_as h v role ≡ true → (wait_object h v == o) ≡ false
    → (is_some_number (final_mutex role v.object) o ≡ false)
    × (((x : Bool) → is_reader_here role ((v.object == o) && x) ≡ false)
    × ((x : Bool) → is_writer_here role ((v.object == o) && x) ≡ false))
away h v ForMutex o r t e = (
  sym (ap (λ x. wait_object_by x (wait_move h v.place) v.object == o) r)
      ∙ e,
  (λ x. refl, λ x. refl),
)
away h v ForRead o r t e =
    let there : (v.object == o) ≡ false =
    sym (ap (λ x. wait_object_by x (wait_move h v.place) v.object == o) r) ∙ e in
    (refl, (λ x. ap (λ b. b && x) there, λ x. refl))
away h v ForWrite o r t e =
    let there : (v.object == o) ≡ false =
    sym (ap (λ x. wait_object_by x (wait_move h v.place) v.object == o) r) ∙ e in
    (refl, (λ x. refl, λ x. ap (λ b. b && x) there))
away h v ForBarrier o r t e = absurd cc
away h v (ForCond m) o r t e =
    let p =
    and_parts (is_moved h v) (can_grant_mutex (mutex_view h m) (is_least h v) || can_grant_relock
    (mutex_view h m) v.client) t in
    (go (wait_move h v.place) refl p.0, (λ x. refl, λ x. refl))
  where
    go : (k : Option Move) → wait_move h v.place ≡ k → is_some k ≡ true → (m == o) ≡ false
    go None ek z = absurd cc
    go (Some k) ek z =
        let at : wait_object h v ≡ m =
        ap (λ x. wait_object_by x (wait_move h v.place) v.object) r
        ∙ ap (λ x. wait_object_by (ForCond m) x v.object) ek in
        sym (ap (λ x. x == o) at) ∙ e

module _ (h : History) (v : WaitingCall) (f : Follows h)
    (s : Step h (Grant v.place (grant_outcome h v))) (l : In v (open_calls h))
    (can : is_grantable_as h v v.role ≡ true) where
  abbrev given : History
  given = h ▷ Grant v.place (grant_outcome h v)

  pub grant_touched : service_object_by h (Grant v.place (grant_outcome h v))
      ≡ Some (wait_object h v)
  grant_touched = ap (object_if h) (found_open h f v l)

  module _ (o : ℕ)
      (k : is_some_number (service_object_by h (Grant v.place (grant_outcome h v))) o ≡ false) where
    out : (is_some_number (final_mutex v.role v.object) o ≡ false)
        × (((x : Bool) → is_reader_here v.role ((v.object == o) && x) ≡ false)
        × ((x : Bool) → is_writer_here v.role ((v.object == o) && x) ≡ false))
    out = away h v v.role o refl can (sym (ap (λ x. is_some_number x o) grant_touched) ∙ k)

    counts : (d : ℕ) → has given o d ≡ has h o d
    counts d =
        ap (nat_lt 0) (mutex_count-grant h v (grant_outcome h v) o d f l
        ∙ rw (out.0, and_false (is_acquired (grant_outcome h v)) false refl) refl)

    quiet_given : (d : ℕ) → Quiet h given o d
    quiet_given d =
        quiet-entry h (Grant v.place (grant_outcome h v)) o d f counts refl refl
        (λ d. is_writer-grant h v (grant_outcome h v) o d f l
        ∙ ap (λ b. cond b true (is_writer h o d)) (out.1.1 (v.client == d)))
        (λ d. read_count-grant h v (grant_outcome h v) o d f l
        ∙ ap (λ b. cond b (suc (read_count h o d)) (read_count h o d)) (out.1.0 (v.client == d)))

    ungranted : (u : WaitingCall) → In u (open_calls h) → wait_object h u ≡ o → (b : Bool)
        → (u.place == v.place) ≡ b → not b ≡ true
    ungranted u j at false e = refl
    ungranted u j at true e =
        let same : u.place ≡ v.place = grind (arith, nat_tests) in
        absurd (itself (service_object_by h (Grant v.place (grant_outcome h v))) o (wait_object h v)
        grant_touched (ap (wait_object h) (sym (one_open h f u v j l same)) ∙ at) k)

  pub grant_aside : (w : WaitingCall) → In w (open_calls given) → can_be_served given w ≡ true
      → is_some_number (service_object_by h (Grant v.place (grant_outcome h v))) (wait_object h w)
      ≡ false
      → WasServed h given w
  grant_aside w i t k =
      let old : In w (open_calls h) = was h (Grant v.place (grant_outcome h v)) f s refl w i in (
        old,
        served-before h given w old (quiet_given (wait_object h w) k w.client)
            (stays-filter h given (wait_object h w) (λ u. not (u.place == v.place))
            (open-grant h v.place (grant_outcome h v))
            (λ u j at. (ungranted (wait_object h w) k u j at (u.place == v.place) refl, refl))) t,
      )
