-- If nothing is forced, no open call has a deadline that is not a time.
use Rattle.std.proofs.lemmas.Bool.{false≢true}
use Rattle.std.proofs.Common.{nat_le, ◌%◌, ◌≡◌, ℕ, ◌<◌, ◌⊎◌, inl, inr, true, false, cond, not, ◌==◌}
use Rattle.std.proofs.Common.{List, Option, Some, None, refl, sym, ap, ◌∙◌, subst, arith}
use Rattle.std.proofs.lemmas.Bool.Decides.{nat_tests}
use Rattle.std.specs.Prelude.{option_map}
use Rattle.pt_types.specs.declared.call.Call.{Call as FunctionCall}
use Rattle.pt_types.specs.declared.outcome.Outcome.{Outcome}
use Rattle.pt_types.specs.Times.{deadline_nanos, has_invalid_deadline}
use Rattle.pt_types.specs.declared.time.Clock.{Clock}
use Rattle.pt_types.specs.Operations.{Operation, Inits, Ends, Acquires, Unlocks, Restores}
use Rattle.pt_types.specs.Operations.{Rwunlocks, CondWaits, Signals, Broadcasts, BarrierWaits, operation}
use Rattle.pt_types.specs.Operations.{clock_of}
use Rattle.pt_types.specs.Tables.{reply}
use Rattle.pt_model.specs.Queries.{deadline_if}
use Rattle.pt_model.specs.Seals.{seal}
use Rattle.pt_model.proofs.Induction.{by_steps}
use Rattle.pt_model.specs.declared.entry.Entry.{Entry}
use Rattle.pt_model.specs.declared.entry.Entry.TheVariants.{Join, Call, Death, Moment, Grant, Trip}
use Rattle.pt_model.specs.declared.entry.Entry.TheVariants.{Yield, Expire}
use Rattle.pt_model.specs.Searches.{In}
use Rattle.pt_model.specs.Histories.{History, Begin, ◌▷◌, place}
use Rattle.pt_model.specs.declared.waiting_call.WaitingCall.{WaitingCall}
use Rattle.pt_model.specs.WaitingCall.{call_at_place, waiting_calls, waiting_calls_by_operation}
use Rattle.pt_model.specs.WaitingCall.{waiting_calls_by}
use Rattle.pt_model.specs.Answers.{open_calls}
use Rattle.pt_model.specs.Grants.{grant_outcome}
use Rattle.pt_model.specs.Forced.{forced}
use Rattle.pt_model.specs.Verdicts.{verdict}
use Rattle.pt_model.specs.Steps.{Step, joins, calls, dies, ticks, grants, trips, yields, expires}
use Rattle.pt_model.specs.Steps.{Follows}
use Rattle.pt_model.proofs.Lists.{In-filter, false_by}
use Rattle.pt_model.proofs.Effects.{effect}
use Rattle.pt_model.proofs.Changes.{left_by}
use Rattle.pt_model.proofs.Readings.{stood-call}
use Rattle.pt_model.proofs.Sound.{Fresh-follows, below_open}
use Rattle.pt_model.proofs.Opens.{left, was_open, open-grant}
use Rattle.pt_machine.specs.CallDeadlines.{timespec_of, operation_deadline, call_deadline}
use Rattle.pt_machine.proofs.BadDeadlines.{bad-granted}

-- an entry at another place does not change the deadline that was given at a place
timed_still : (h : History) (e : Entry) (j : ℕ) → (place h == j) ≡ false → call_deadline (h ▷ e) j
    ≡ call_deadline h j
timed_still h (Call c call r) j ne = rw ne refl
timed_still h (Join p k) j ne = refl
timed_still h (Death c) j ne = refl
timed_still h (Moment k t) j ne = refl
timed_still h (Grant k x) j ne = refl
timed_still h (Trip b) j ne = refl
timed_still h (Yield m) j ne = refl
timed_still h (Expire k) j ne = refl

-- an open call came before the new entry, which does not change the deadline that it gave
pub timed_old : (h : History) (e : Entry) (w : WaitingCall) → Follows h → In w (open_calls h)
    → call_deadline (h ▷ e) w.place ≡ call_deadline h w.place
timed_old h e w f i =
    let lt : w.place < place h = (below_open h w (Fresh-follows h f) i).0 in
    let ne : (place h == w.place) ≡ false = grind (arith, nat_tests) in
    timed_still h e w.place ne

-- a call that an operation leaves waiting came at this place, and has the deadline that was given,
-- by this clock
operation_timed : (h : History) (c : ℕ) (z : Clock) (d : Operation) (w : WaitingCall)
    → In w (waiting_calls_by_operation h c z d)
    → (w.place ≡ place h) × (w.deadline ≡ option_map deadline_nanos (operation_deadline d))
    × (w.clock ≡ z)
operation_timed h c z (Acquires n lock_kind how) w (inl i) = (
  ap (λ (u : WaitingCall). u.place) i,
  ap (λ (u : WaitingCall). u.deadline) i,
  ap (λ (u : WaitingCall). u.clock) i,
)
operation_timed h c z (Acquires n lock_kind how) w (inr i) = absurd i
operation_timed h c z (CondWaits n m d) w (inl i) = (
  ap (λ (u : WaitingCall). u.place) i,
  ap (λ (u : WaitingCall). u.deadline) i,
  ap (λ (u : WaitingCall). u.clock) i,
)
operation_timed h c z (CondWaits n m d) w (inr i) = absurd i
operation_timed h c z (BarrierWaits n) w (inl i) = (
  ap (λ (u : WaitingCall). u.place) i,
  ap (λ (u : WaitingCall). u.deadline) i,
  ap (λ (u : WaitingCall). u.clock) i,
)
operation_timed h c z (BarrierWaits n) w (inr i) = absurd i
operation_timed h c z (Inits n kind) w i = absurd i
operation_timed h c z (Ends n class) w i = absurd i
operation_timed h c z (Unlocks n) w i = absurd i
operation_timed h c z (Restores n) w i = absurd i
operation_timed h c z (Rwunlocks n) w i = absurd i
operation_timed h c z (Signals n) w i = absurd i
operation_timed h c z (Broadcasts n) w i = absurd i

-- the same for a call
pub stood_timed : (h : History) (c : ℕ) (call : FunctionCall) (r : Option Outcome) (w : WaitingCall)
    → In w (waiting_calls_by h (Call c call r))
    → (w.place ≡ place h) × (w.deadline
    ≡ option_map deadline_nanos (operation_deadline (operation call)))
    × (w.clock ≡ clock_of call)
stood_timed h c call None w i = operation_timed h c (clock_of call) (operation call) w i
stood_timed h c call (Some x) w i = absurd i

-- the call that an entry leaves waiting has the deadline that was given
pub left_timed : (h : History) (c : ℕ) (call : FunctionCall) (r : Option Outcome) (w : WaitingCall)
    → In w (left_by (effect h c call r))
    → (call_deadline (h ▷ Call c call r) w.place ≡ operation_deadline (operation call))
    × (w.deadline ≡ option_map deadline_nanos (operation_deadline (operation call))) × (w.clock
    ≡ clock_of call)
left_timed h c call r w i =
    let p =
    stood_timed h c call r w (subst (λ (us : List WaitingCall). In w us)
    (sym (stood-call h c call r)) i) in
    let at : w.place ≡ place h = p.0 in
    let here : (place h == w.place) ≡ true = grind (arith, nat_tests) in (
      ap (λ b. cond b (operation_deadline (operation call))
          (call_deadline h w.place)) here,
      p.1,
      p.2,
    )

pub written_good : (o : Option ℕ) → has_invalid_deadline (option_map timespec_of o) ≡ true → ⊥
written_good None e = cc
written_good (Some n) e =
    let lt : n % 1000000000 < 1000000000 = omega arith in
    let no : nat_le 1000000000 (n % 1000000000) ≡ false = grind (arith, nat_tests) in
    false≢true (sym no ∙ e)

-- an open call whose deadline is not a time is granted by the next entry
abbrev pub GrantsBad : History → Type 0
GrantsBad h =
    (w : WaitingCall) → In w (open_calls h) → has_invalid_deadline (call_deadline h w.place) ≡ true
    → forced h ≡ Some (Grant w.place (grant_outcome h w))

-- an option is not both none and an entry, nor two different entries
not_forced : (x : Option Entry) (e : Entry) → x ≡ None → x ≡ Some e → ⊥
not_forced None e n s = absurd cc
not_forced (Some y) e n s = cc

granted_place : (x : Option Entry) (j k : ℕ) (y z : Outcome) → x ≡ Some (Grant j y)
    → x ≡ Some (Grant k z) → j ≡ k
granted_place x j k y z a b =
    let both : ◌≡◌ {A = Option Entry} (Some (Grant j y)) (Some (Grant k z)) = sym a ∙ b in cc

not_tripped : (x : Option Entry) (b k : ℕ) (z : Outcome) → x ≡ Some (Trip b)
    → x ≡ Some (Grant k z) → ⊥
not_tripped x b k z a e =
    let both : ◌≡◌ {A = Option Entry} (Some (Trip b)) (Some (Grant k z)) = sym a ∙ e in cc

not_yielded : (x : Option Entry) (b k : ℕ) (z : Outcome) → x ≡ Some (Yield b)
    → x ≡ Some (Grant k z) → ⊥
not_yielded x b k z a e =
    let both : ◌≡◌ {A = Option Entry} (Some (Yield b)) (Some (Grant k z)) = sym a ∙ e in cc

not_expired : (x : Option Entry) (b k : ℕ) (z : Outcome) → x ≡ Some (Expire b)
    → x ≡ Some (Grant k z) → ⊥
not_expired x b k z a e =
    let both : ◌≡◌ {A = Option Entry} (Some (Expire b)) (Some (Grant k z)) = sym a ∙ e in cc

-- the entry after such a call is its Grant, so no entry leaves the call open
no_other : (h : History) (e : Entry) → Step h e → (w : WaitingCall) → In w (open_calls (h ▷ e))
    → forced h ≡ Some (Grant w.place (grant_outcome h w)) → ⊥
no_other h _ (joins p n lt) w i t = not_forced (forced h) _ n t
no_other h _ (calls c call n a o) w i t = not_forced (forced h) _ n t
no_other h _ (dies c n a) w i t = not_forced (forced h) _ n t
no_other h _ (ticks z k n) w i t = not_forced (forced h) _ n t
no_other h _ (trips v s j k) w i t = not_tripped (forced h) v.object w.place _ s t
no_other h _ (yields m s k) w i t = not_yielded (forced h) m w.place _ s t
no_other h _ (expires v s j k) w i t = not_expired (forced h) v.place w.place _ s t
no_other h _ (grants v s j g) w i t =
    let at : v.place ≡ w.place =
    granted_place (forced h) v.place w.place (grant_outcome h v) (grant_outcome h w) s t in
    let apart : not (w.place == v.place) ≡ true =
    (In-filter (λ (u : WaitingCall). not (u.place == v.place)) (open_calls h) w
    (subst (λ (us : List WaitingCall). In w us) (open-grant h v.place (grant_outcome h v)) i)).1 in
    absurd (grind (arith, nat_tests))

-- so each entry preserves this
bad_step : (h : History) (e : Entry) → Follows h → GrantsBad h → Step h e → (w : WaitingCall)
    → In w (open_calls (h ▷ e)) → has_invalid_deadline (call_deadline (h ▷ e) w.place) ≡ true
    → In w (open_calls h) ⊎ In w (left h e)
    → forced (h ▷ e) ≡ Some (Grant w.place (grant_outcome (h ▷ e) w))
bad_step h e f b s w i bad (inl k) =
    absurd (no_other h e s w i (b w k (ap has_invalid_deadline (sym (timed_old h e w f k)) ∙ bad)))
bad_step h _ f b (calls c call n a o) w i bad (inr k) =
    bad-granted h f c call n a o
    (ap has_invalid_deadline (sym (left_timed h c call (reply (verdict h c call)) w k).0) ∙ bad) w k
bad_step h _ f b (joins p n lt) w i bad (inr k) = absurd k
bad_step h _ f b (dies c n a) w i bad (inr k) = absurd k
bad_step h _ f b (ticks z t n) w i bad (inr k) = absurd k
bad_step h _ f b (grants u s j g) w i bad (inr k) = absurd k
bad_step h _ f b (trips u s j t) w i bad (inr k) = absurd k
bad_step h _ f b (yields m s t) w i bad (inr k) = absurd k
bad_step h _ f b (expires u s j t) w i bad (inr k) = absurd k

-- and it holds for every history
pub grants-bad : (h : History) → Follows h → GrantsBad h
grants-bad h f =
    by_steps GrantsBad (λ w i bad. absurd i)
    (λ h e f b s w i bad. bad_step h e f b s w i bad (was_open h e f s w i))
    (λ h f b w i bad. absurd (written_good
    (deadline_if (call_at_place w.place (waiting_calls (Begin (seal h))))) bad)) h f

-- so there is no such call if nothing is forced
pub none-bad : (h : History) → Follows h → forced h ≡ None → (w : WaitingCall) → In w (open_calls h)
    → has_invalid_deadline (call_deadline h w.place) ≡ false
none-bad h f n w i =
    false_by (has_invalid_deadline (call_deadline h w.place)) (λ bad. not_forced (forced h)
    (Grant w.place (grant_outcome h w)) n (grants-bad h f w i bad))
