-- Which waits a call wakes, and that a wait is served only after it was moved.
use Rattle.std.proofs.Common.{◌≡◌, ℕ, ◌<◌, Bool, true, false, cond, ◌||◌, ◌==◌, List, Option, Some}
use Rattle.std.proofs.Common.{None, is_some, is_none, refl, sym, ap, ◌∙◌, arith}
use Rattle.std.proofs.lemmas.Bool.Decides.{nat_tests}
use Rattle.std.proofs.lemmas.Bool.{and_parts, false≢true}
use Rattle.pt_types.specs.declared.call.ObjectKind.{ObjectKind}
use Rattle.pt_types.specs.declared.operations.ObjectClass.{ObjectClass}
use Rattle.pt_types.specs.declared.operations.ObjectClass.TheVariants.{Cond as CondClass}
use Rattle.pt_types.specs.MutexTable.{is_some_number}
use Rattle.pt_model.specs.declared.entry.Cause.{Cause}
use Rattle.pt_model.specs.declared.entry.Cause.TheVariants.{Signalled, Broadcasted}
use Rattle.pt_model.specs.Searches.{In, least, option_list}
use Rattle.pt_model.specs.Histories.{History, place}
use Rattle.pt_model.specs.Objects.{is_class, find_object, kind_of}
use Rattle.pt_model.specs.declared.waiting_call.WaitingCall.{WaitingCall}
use Rattle.pt_model.specs.declared.waiting_call.Move.{Move}
use Rattle.pt_model.specs.declared.waiting_call.Role.{Role}
use Rattle.pt_model.specs.declared.waiting_call.Role.TheVariants.{ForMutex, ForRead, ForWrite}
use Rattle.pt_model.specs.declared.waiting_call.Role.TheVariants.{ForBarrier, ForCond}
use Rattle.pt_model.specs.WaitingCall.{is_cond_wait}
use Rattle.pt_model.specs.Answers.{open_calls}
use Rattle.pt_model.specs.Moves.{precedes_by, is_at_cond, cond_waits, cause_if_among, has_place}
use Rattle.pt_model.specs.Moves.{wait_move}
use Rattle.pt_model.specs.Moves.{wait_object}
use Rattle.pt_model.specs.Forced.{can_be_served}
use Rattle.pt_model.specs.Steps.{Follows}
use Rattle.pt_model.proofs.Lists.{In-filter}
use Rattle.pt_model.proofs.Leasts.{least-in}
use Rattle.pt_model.proofs.Effects.{Wakes}
use Rattle.pt_model.proofs.Changes.{cause_effect}
use Rattle.pt_model.proofs.Sound.{Fresh-follows, kind_below}
use Rattle.pt_model.proofs.Found.{one_open}
use Rattle.pt_model.proofs.Moves.{has_place-part}
use Rattle.pt_model.proofs.Seats.{seat, housed, one_class}

-- an unmoved wait is never served
pub unserved : (g : History) (w : WaitingCall) (role : Role) (o : Option Move) → w.role ≡ role
    → wait_move g w.place ≡ o → seat role o ≡ CondClass → can_be_served g w ≡ true → ⊥
unserved g w (ForCond m) None r e s t =
    let no : can_be_served g w ≡ false = rw (r, e) refl in false≢true (sym no ∙ t)
unserved g w (ForCond m) (Some v) r e s t = cc
unserved g w ForMutex o r e s t = cc
unserved g w ForRead o r e s t = cc
unserved g w ForWrite o r e s t = cc
unserved g w ForBarrier o r e s t = cc

-- a call that waits beside an unmoved wait is one too
pub cond_beside : (h : History) → Follows h → (v w : WaitingCall) → In v (open_calls h)
    → In w (open_calls h) → (m : ℕ) → v.role ≡ ForCond m → wait_move h v.place ≡ None
    → wait_object h v
    ≡ wait_object h w → seat w.role (wait_move h w.place) ≡ CondClass
cond_beside h f v w i j m r n at =
    let class : seat v.role (wait_move h v.place) ≡ CondClass = rw (r, n) refl in
    one_class (kind_of h (wait_object h w)) (seat w.role (wait_move h w.place)) CondClass
    (housed h f w j).0
    (ap (λ q. is_class (kind_of h q) CondClass) (sym at)
    ∙ (ap (λ s. is_class (kind_of h (wait_object h v)) s) (sym class) ∙ (housed h f v i).0))

-- the object at which a call waits was made before
pub stands_below : (h : History) → Follows h → (w : WaitingCall) → In w (open_calls h)
    → wait_object h w < place h
stands_below h f w i =
    kind_below h (wait_object h w) (Fresh-follows h f)
    (made (kind_of h (wait_object h w)) (seat w.role (wait_move h w.place)) (housed h f w i).0)
  where
    made : (o : Option ObjectKind) (s : ObjectClass) → is_class o s ≡ true → is_some o ≡ true
    made None s e = absurd cc
    made (Some k) s e = refl

wait_role : (role : Role) → is_cond_wait role ≡ true → (m : ℕ) × (role ≡ ForCond m)
wait_role (ForCond m) e = (m, refl)
wait_role ForMutex e = absurd cc
wait_role ForRead e = absurd cc
wait_role ForWrite e = absurd cc
wait_role ForBarrier e = absurd cc

nothing : {X : Type 0} (o : Option X) → is_none o ≡ true → o ≡ None
nothing None e = refl
nothing (Some x) e = absurd cc

there_so : {X : Type 0} (b : Bool) (x y : X) → cond b (Some x) None ≡ Some y → b ≡ true
there_so true x y e = refl
there_so false x y e = absurd cc

-- a call that an effect moves is a wait at its condition
pub wakes : (h : History) (n : List ℕ) (all : Bool) → Follows h → (w : WaitingCall)
    → In w (open_calls h) → (x : Cause)
    → cause_effect h (wait_move h) (Wakes n all) w.place ≡ Some x → is_at_cond h (wait_move h) n w
    ≡ true
wakes h n true f w i x e =
    sym (has_place-part h (is_at_cond h (wait_move h) n) f w i)
    ∙ there_so (has_place (cond_waits h (wait_move h) n) w.place) Broadcasted x e
wakes h n false f w i x e =
    go (least (precedes_by (wait_move h)) (cond_waits h (wait_move h) n)) refl e
  where
    go : (o : Option WaitingCall) → least (precedes_by (wait_move h)) (cond_waits h (wait_move h) n)
        ≡ o
        → cause_if_among (option_list o) Signalled w.place ≡ Some x → is_at_cond h (wait_move h) n w
        ≡ true
    go None eo k = absurd cc
    go (Some u) eo k =
        let p =
        In-filter (is_at_cond h (wait_move h) n) (open_calls h) u
        (least-in (precedes_by (wait_move h)) (cond_waits h (wait_move h) n) u eo) in
        let t : ((u.place == w.place) || false) ≡ true =
        there_so ((u.place == w.place) || false) Signalled x k in
        let at : u.place ≡ w.place = only (u.place == w.place) refl t in
        ap (is_at_cond h (wait_move h) n) (sym (one_open h f u w p.0 i at)) ∙ p.1
      where
        only : (b : Bool) → (u.place == w.place) ≡ b → (b || false) ≡ true → u.place ≡ w.place
        only true eb z = grind (arith, nat_tests)
        only false eb z = absurd cc

-- what is known of such a wait
pub waits_known : (h : History) (n : List ℕ) (q : ℕ) (w : WaitingCall) → find_object h n CondClass
    ≡ Some q
    → is_at_cond h (wait_move h) n w ≡ true → (m : ℕ) × ((w.role ≡ ForCond m)
    × ((wait_move h w.place ≡ None) × (w.object ≡ q)))
waits_known h n q w e t =
    let p = and_parts (is_cond_wait w.role) _ t in
    let s = and_parts (is_none (wait_move h w.place)) _ p.1 in
    let r = wait_role w.role p.0 in
    let k : (q == w.object) ≡ true = ap (λ o. is_some_number o w.object) (sym e) ∙ s.1 in
    let at : w.object ≡ q = grind (arith, nat_tests) in
    (r.0, (r.1, (nothing (wait_move h w.place) s.0, at)))
