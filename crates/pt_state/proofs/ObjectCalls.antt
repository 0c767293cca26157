-- ObjectCalls: what is stored of all objects, after a call that changes none of them, or only adds
-- a reader's row.
use Rattle.std.proofs.Common.{◌≡◌, ℕ, Bool, true, false, cond, ◌⊎◌, inl, inr, ◌==◌, ◌∷◌, [], Option}
use Rattle.std.proofs.Common.{Some, is_some, refl, sym, ap, ◌∙◌, subst, arith}
use Rattle.std.proofs.lemmas.Bool.Decides.{nat_tests}
use Rattle.std.specs.Prelude.{unwrap_or}
use Rattle.pt_types.specs.declared.call.Call.{Call as FunctionCall}
use Rattle.pt_types.specs.Tables.{reply}
use Rattle.pt_rwlock.specs.RwlockState.{RwlockState, reads_in_row, reads_of, with_row, ChangesRow}
use Rattle.pt_model.specs.declared.entry.Entry.TheVariants.{Call}
use Rattle.pt_model.specs.Histories.{History, ◌▷◌, place}
use Rattle.pt_model.specs.Objects.{kind_of}
use Rattle.pt_model.specs.declared.waiting_call.WaitingCall.{WaitingCall}
use Rattle.pt_model.specs.declared.waiting_call.Role.{Role}
use Rattle.pt_model.specs.declared.waiting_call.Role.TheVariants.{ForMutex, ForRead, ForWrite}
use Rattle.pt_model.specs.declared.waiting_call.Role.TheVariants.{ForBarrier, ForCond}
use Rattle.pt_model.specs.Searches.{In}
use Rattle.pt_model.specs.Answers.{open_calls}
use Rattle.pt_model.specs.Mutexes.{consistency}
use Rattle.pt_model.specs.Rwlocks.{is_writer, read_count}
use Rattle.pt_model.specs.Verdicts.{verdict}
use Rattle.pt_model.specs.Steps.{Step, Follows}
use Rattle.pt_model.proofs.Effects.{Effect, Idle, Creates, Removes, Relocks, Frees, Mends, Returns}
use Rattle.pt_model.proofs.Effects.{Wakes, Waits, effect, Allowed}
use Rattle.pt_model.proofs.Allowances.{allowed}
use Rattle.pt_model.proofs.Changes.{left_by, kind_effect, takes_more, awaited, gives_up, mends}
use Rattle.pt_model.proofs.Changes.{returns_it, resolved}
use Rattle.pt_model.proofs.Readings.{kind-call, consistency-call, is_writer-call, reads-call}
use Rattle.pt_model.proofs.Opens.{was_open}
use Rattle.pt_model.proofs.Counts.{Balanced-follows, mutex_count-call}
use Rattle.pt_records.specs.declared.objects.Object.{Object}
use Rattle.pt_records.specs.declared.objects.Object.TheVariants.{Rwlock}
use Rattle.pt_records.specs.Objects.{ObjectsLook}
use Rattle.pt_state.proofs.OneObject.{HasRows, OldReaders, Quiet, object_rows-still}
use Rattle.pt_state.proofs.OneObject.{object_rows-quiet, object_rows-one, rwlock-changed}
use Rattle.pt_state.proofs.ObjectEntries.{quiet-parts, old-readers}

-- the effect of a client's call with its own answer
abbrev pub does : History → ℕ → FunctionCall → Effect
does h c call = effect h c call (reply (verdict h c call))

-- the history after it
abbrev pub behind : History → ℕ → FunctionCall → History
behind h c call = h ▷ Call c call (reply (verdict h c call))

-- an effect leaves this object alone
pub record Spares (h : History) (E : Effect) (o : ℕ) : Type 0 where
  pub kinds : kind_effect (place h) E (kind_of h o) o ≡ kind_of h o
  pub takes : takes_more E o ≡ false
  pub gives : gives_up E o ≡ false
  pub mends : mends E o ≡ false
  pub returns : returns_it E o ≡ false

-- so nothing that is read off this object changes
pub quiet-call : (h : History) (c : ℕ) (call : FunctionCall) → Follows h → (o : ℕ)
    → Spares h (does h c call) o → Quiet h (behind h c call) o
quiet-call h c call f o s =
    quiet-parts h (Call c call (reply (verdict h c call))) o f
    (kind-call h c call (reply (verdict h c call)) (kind_of h o) o ∙ s.kinds)
    (consistency-call h c call (reply (verdict h c call)) (resolved h c call) o (consistency h o)
    ∙ rw (s.mends, s.gives) refl)
    (λ d. mutex_count-call h c call (reply (verdict h c call)) o d (resolved h c call)
    (Balanced-follows h f) ∙ rw (s.takes, s.gives) refl)
    (λ d. is_writer-call h c call (reply (verdict h c call)) o d (is_writer h o d)
    ∙ rw s.returns refl)
    (λ d. reads-call h c call (reply (verdict h c call)) o d (read_count h o d) ∙ rw s.returns refl)

-- whoever waits for a read lock after a call did so before, unless the call does
pub call-readers : (h : History) (c : ℕ) (call : FunctionCall) → Follows h
    → Step h (Call c call (reply (verdict h c call))) → (E : Effect) → does h c call ≡ E
    → ((w : WaitingCall) → In w (left_by E) → w.role ≡ ForRead → ⊥)
    → OldReaders h (behind h c call)
call-readers h c call f s E e none =
    old-readers h (Call c call (reply (verdict h c call))) f s
    (λ w i r. none w (subst (λ (X : Effect). In w (left_by X)) e i) r)

-- whether a call of this role changes nothing when it waits
abbrev pub is_plain : Role → Bool
is_plain ForMutex = true
is_plain ForWrite = true
is_plain ForBarrier = true
is_plain ForRead = false
is_plain (ForCond m) = false

-- whether an effect changes no object
abbrev pub is_idle : Effect → Bool
is_idle Idle = true
is_idle (Wakes n all) = true
is_idle (Waits w) = is_plain w.role
is_idle _ = false

plain-keeps : (role : Role) (o : ℕ) → is_plain role ≡ true → awaited role o ≡ false
plain-keeps ForMutex o t = refl
plain-keeps ForWrite o t = refl
plain-keeps ForBarrier o t = refl
plain-keeps ForRead o t = refl
plain-keeps (ForCond m) o t = absurd cc

idle-spares : (h : History) (E : Effect) (o : ℕ) → is_idle E ≡ true → Spares h E o
idle-spares h Idle o t =
    record { kinds = refl; takes = refl; gives = refl; mends = refl; returns = refl }
idle-spares h (Wakes n all) o t =
    record { kinds = refl; takes = refl; gives = refl; mends = refl; returns = refl }
idle-spares h (Waits w) o t =
    record {
      kinds = refl;
      takes = refl;
      gives = plain-keeps w.role o t;
      mends = refl;
      returns = refl;
    }
idle-spares h (Creates n kind) o t = absurd cc
idle-spares h (Removes n s q) o t = absurd cc
idle-spares h (Relocks m) o t = absurd cc
idle-spares h (Frees m) o t = absurd cc
idle-spares h (Mends m) o t = absurd cc
idle-spares h (Returns r) o t = absurd cc

idle-unread : (E : Effect) → is_idle E ≡ true → (w : WaitingCall) → In w (left_by E)
    → w.role ≡ ForRead → ⊥
idle-unread (Waits v) t w (inl e) r =
    let no : is_plain w.role ≡ true = ap (λ (u : WaitingCall). is_plain u.role) e ∙ t in
    let bad : false ≡ true = sym (ap is_plain r) ∙ no in
    absurd cc
idle-unread (Waits v) t w (inr i) r = i
idle-unread Idle t w i r = i
idle-unread (Wakes n all) t w i r = i
idle-unread (Creates n kind) t w i r = i
idle-unread (Removes n s q) t w i r = i
idle-unread (Relocks m) t w i r = i
idle-unread (Frees m) t w i r = i
idle-unread (Mends m) t w i r = i
idle-unread (Returns m) t w i r = i

-- a change of one row leaves the read locks in the others unchanged
pub read_count-changed : (r r' : RwlockState) (c n : ℕ) → ChangesRow r r' c (Some n) → (d : ℕ)
    → reads_of r' d ≡ cond (c == d) n (reads_of r d)
read_count-changed r r' c n change d = ap (λ o. unwrap_or o 0) (change d) ∙ go (c == d)
  where
    go : (b : Bool) → unwrap_or (cond b (Some n) (reads_in_row r d)) 0 ≡ cond b n (reads_of r d)
    go true = refl
    go false = refl

-- and takes no row away
pub rows-changed : (r r' : RwlockState) (c n : ℕ) → ChangesRow r r' c (Some n) → (d : ℕ)
    → is_some (reads_in_row r d) ≡ true → is_some (reads_in_row r' d) ≡ true
rows-changed r r' c n change d t = ap is_some (change d) ∙ go (c == d)
  where
    go : (b : Bool) → is_some (cond b (Some n) (reads_in_row r d)) ≡ true
    go true = refl
    go false = t

-- a new row leaves the writer unchanged
row-writer : (r : RwlockState) (c : ℕ) → (with_row r c).writer ≡ r.writer
row-writer r c = go (is_some (reads_in_row r c)) refl
  where
    go : (b : Bool) → is_some (reads_in_row r c) ≡ b → (with_row r c).writer ≡ r.writer
    go true e = rw e refl
    go false e = rw e refl

-- and every read lock
row-read_count : (r r' : RwlockState) (c : ℕ) → ChangesRow r r' c (Some (reads_of r c)) → (d : ℕ)
    → reads_of r' d ≡ reads_of r d
row-read_count r r' c change d = read_count-changed r r' c (reads_of r c) change d
    ∙ go (c == d) refl
  where
    go : (b : Bool) → (c == d) ≡ b → cond b (reads_of r c) (reads_of r d) ≡ reads_of r d
    go true e = let same : c ≡ d = grind (arith, nat_tests) in ap (reads_of r) same
    go false e = refl

module _ {A : Type 0} where
  -- the same look-up is right after a call that changes no object
  pub object_rows-idle : (h : History) (look : ℕ → Option (Object A)) (c : ℕ) (call : FunctionCall)
      → Follows h
      → Step h (Call c call (reply (verdict h c call))) → ObjectsLook h look
      → is_idle (does h c call) ≡ true → ObjectsLook (behind h c call) look
  object_rows-idle h look c call f s t e =
      object_rows-quiet h (behind h c call) look t
      (λ o. quiet-call h c call f o (idle-spares h (does h c call) o e))
      (call-readers h c call f s (does h c call) refl (idle-unread (does h c call) e))

  -- and after one that waits for a read lock, if its client has a row
  pub object_rows-read : (h : History) (look : ℕ → Option (Object A)) (c : ℕ) (call : FunctionCall)
      (w : WaitingCall) → Follows h → Step h (Call c call (reply (verdict h c call)))
      → ObjectsLook h look → does h c call ≡ Waits w → w.role ≡ ForRead
      → ((r : RwlockState) → look w.object ≡ Some (Rwlock r) → is_some (reads_in_row r c) ≡ true)
      → ObjectsLook (behind h c call) look
  object_rows-read h look c call w f s t e role row =
      object_rows-still h (behind h c call) look t
      (λ o. quiet-call h c call f o (subst (λ (E : Effect). Spares h E o) (sym e) (spared o)))
      (λ o r k rows v i a at. go o r k rows v a at
      (was_open h (Call c call (reply (verdict h c call))) f s v i))
    where
      spared : (o : ℕ) → Spares h (Waits w) o
      spared o =
          record {
            kinds = refl;
            takes = refl;
            gives = ap (λ x. awaited x o) role;
            mends = refl;
            returns = refl;
          }

      by : w.client ≡ c
      by =
          let a : Allowed h c (Waits w) =
          subst (λ (E : Effect). Allowed h c E) e (allowed h c call) in
          ap (λ (u : WaitingCall). u.client) a.0

      new : (o : ℕ) (r : RwlockState) → look o ≡ Some (Rwlock r) → (v : WaitingCall) → v.object ≡ o
          → In v (w ∷ []) → is_some (reads_in_row r v.client) ≡ true
      new o r k v at (inl same) =
          let here : w.object ≡ o = ap (λ (u : WaitingCall). u.object) (sym same) ∙ at in
          let client : v.client ≡ c = ap (λ (u : WaitingCall). u.client) same ∙ by in
          rw client (row r (ap look here ∙ k))
      new o r k v at (inr i) = absurd i

      go : (o : ℕ) (r : RwlockState) → look o ≡ Some (Rwlock r) → HasRows h o r → (v : WaitingCall)
          → v.role ≡ ForRead → v.object ≡ o
          → In v (open_calls h) ⊎ In v (left_by (does h c call))
          → is_some (reads_in_row r v.client) ≡ true
      go o r k rows v a at (inl i) = rows v i a at
      go o r k rows v a at (inr i) = new o r k v at (subst (λ (E : Effect). In v (left_by E)) e i)

  -- a new row changes nothing that is read off the lock
  pub object_rows-row : (h : History) (look look' : ℕ → Option (Object A)) (o c : ℕ)
      (r r' : RwlockState) → ObjectsLook h look → look o ≡ Some (Rwlock r) → r' ≡ with_row r c
      → ChangesRow r r' c (Some (reads_of r c))
      → ((q : ℕ) → look' q ≡ cond (o == q) (Some (Rwlock r')) (look q)) → ObjectsLook h look'
  object_rows-row h look look' o c r r' t e made row change =
      let old = t.rwlocks o r e in
      object_rows-one h h look look' o (Some (Rwlock r')) t change
      (λ q ne. record { kind = refl; view = refl; writer = refl; reads = λ d. refl })
      (λ w i role. i)
      (rwlock-changed h h look t o r r' e refl
      record {
        writer = ap (λ (x : RwlockState). x.writer) made ∙ (row-writer r c ∙ old.writer);
        reads = λ d. row-read_count r r' c row d ∙ old.reads d;
        rows = λ w i role at. rows-changed r r' c (reads_of r c) row w.client
            (old.rows w i role at);
      })
