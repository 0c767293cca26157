-- Each waiting call arrived before the next entry, at an object that exists.
use Rattle.std.proofs.Common.{Bool, true, false, cond, ◌≡◌, ℕ, suc, ◌<◌, inl, inr, List, [], ◌∷◌}
use Rattle.std.proofs.Common.{Option, Some, None, is_some, refl, sym, subst, arith}
use Rattle.std.specs.List.{AllByRecursion as Each}
use Rattle.pt_types.specs.declared.call.ObjectKind.{ObjectKind}
use Rattle.pt_types.specs.declared.operations.ObjectClass.{ObjectClass}
use Rattle.pt_waitq.specs.declared.waiter.Waiter.{Waiter}
use Rattle.pt_waitq.specs.Queues.{In as Among}
use Rattle.pt_waitq.specs.Members.{Members}
use Rattle.pt_model.specs.declared.entry.Entry.{Entry}
use Rattle.pt_model.proofs.Induction.{by_steps}
use Rattle.pt_model.specs.declared.entry.Cause.{Cause}
use Rattle.pt_model.specs.Searches.{In}
use Rattle.pt_model.specs.Histories.{History, ◌▷◌, place}
use Rattle.pt_model.specs.Objects.{is_class, kind_of}
use Rattle.pt_model.specs.declared.waiting_call.WaitingCall.{WaitingCall}
use Rattle.pt_model.specs.declared.waiting_call.Move.{Move}
use Rattle.pt_model.specs.Answers.{open_calls}
use Rattle.pt_model.specs.Moves.{has_place, arrival_by, cause_by, move_or, wait_move, wait_object}
use Rattle.pt_model.specs.Steps.{Follows}
use Rattle.pt_model.proofs.Sound.{Fresh-follows, below_open}
use Rattle.pt_model.proofs.Seats.{seat, housed}
use Rattle.pt_machine.specs.CallQueues.{waiter}

-- a call was moved by an entry of the history, also after one more entry
moved_step : (h : History) (e : Entry) (j : ℕ) (v : Move)
    → (wait_move h j ≡ Some v → v.at < place h) → wait_move (h ▷ e) j ≡ Some v
    → v.at < place (h ▷ e)
moved_step h e j v before m = go (cause_by h (wait_move h) e j) (wait_move h j) before m
  where
    go : (x : Option Cause) (o : Option Move) → (o ≡ Some v → v.at < place h)
        → move_or (place h) x o ≡ Some v → v.at < suc (place h)
    go None o ih k = omega (arith, ih k)
    go (Some x) o ih k = let here : place h ≡ v.at = cc in omega (arith, here)

kept_move : (b : Bool) (o : Option Move) (v : Move) → cond b o None ≡ Some v → o ≡ Some v
kept_move true o v e = e
kept_move false o v e = absurd cc

pub wait_move-below : (h : History) → Follows h → (j : ℕ) (v : Move) → wait_move h j ≡ Some v
    → v.at < place h
wait_move-below h f =
    by_steps (λ h. (j : ℕ) (v : Move) → wait_move h j ≡ Some v → v.at < place h)
    (λ j v e. absurd cc) (λ h e f b s j v m. moved_step h e j v (b j v) m)
    (λ h f b j v m. b j v (kept_move (has_place (open_calls h) j) (wait_move h j) v m)) h f

-- an open call arrived with an entry of the history
pub arrival-below : (h : History) → Follows h → (w : WaitingCall) → In w (open_calls h)
    → (arrival_by (wait_move h w.place) w.place).0 < place h
arrival-below h f w i = go (wait_move h w.place) refl
  where
    go : (o : Option Move) → wait_move h w.place ≡ o → (arrival_by o w.place).0 < place h
    go None e = (below_open h w (Fresh-follows h f) i).0
    go (Some v) e = wait_move-below h f w.place v e

-- so did each waiter in a queue
pub waiters-below :
    (h : History) (queue : ℕ → List Waiter) → Follows h
    → Members (wait_object h) (waiter h) (open_calls h) queue
    → (q : ℕ) → Each (λ v. v.moved < place h) (queue q)
waiters-below h queue f k q = each (queue q) (λ v i. one v (k.has_call q v i))
  where
    one : (v : Waiter)
        → (w : WaitingCall) × Among w (open_calls h) × (wait_object h w ≡ q) × (v ≡ waiter h w)
        → v.moved < place h
    one v r = subst (λ (x : Waiter). x.moved < place h) (sym r.3) (arrival-below h f r.0 r.1)

    each : (vs : List Waiter) → ((v : Waiter) → Among v vs → v.moved < place h)
        → Each (λ v. v.moved < place h) vs
    each [] g = tt
    each (v ∷ vs) g = (g v (inl refl), each vs (λ u i. g u (inr i)))

-- a call that has just come arrives at its own place
pub arrival-new : (h : History) → Follows h → (w : WaitingCall) → w.place ≡ place h
    → (arrival_by (wait_move h w.place) w.place).0 ≡ place h
arrival-new h f w e =
    let still : wait_move h w.place ≡ None =
    (Fresh-follows h f).moves w.place (omega (arith, e)) in
    rw still e

-- the object of an open call exists
pub object-there : (h : History) → Follows h → (w : WaitingCall) → In w (open_calls h)
    → is_some (kind_of h (wait_object h w)) ≡ true
object-there h f w i =
    there (kind_of h (wait_object h w)) (seat w.role (wait_move h w.place)) (housed h f w i).0
  where
    there : (o : Option ObjectKind) (s : ObjectClass) → is_class o s ≡ true → is_some o ≡ true
    there None s e = absurd cc
    there (Some k) s e = refl
