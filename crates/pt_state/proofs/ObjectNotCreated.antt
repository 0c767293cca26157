-- ObjectNotCreated: what is read off the history for objects that aren't made yet.
use Rattle.std.proofs.Common.{◌≡◌, ℕ, ◌<◌, ◌≤◌, Bool, true, false, cond, ◌&&◌, ◌==◌, Option, Some}
use Rattle.std.proofs.Common.{None, refl, sym, ap, ◌∙◌, arith}
use Rattle.std.proofs.lemmas.Bool.Decides.{nat_tests}
use Rattle.std.proofs.lemmas.Bool.{and_parts, false≢true}
use Rattle.pt_types.specs.declared.outcome.Consistency.TheVariants.{Consistent}
use Rattle.pt_types.specs.declared.operations.ObjectClass.TheVariants.{Rwlock as RwlockClass}
use Rattle.pt_types.specs.Tables.{reply}
use Rattle.pt_model.specs.declared.entry.Entry.{Entry}
use Rattle.pt_model.specs.Histories.{History, ◌▷◌, place}
use Rattle.pt_model.specs.Objects.{kind_of, is_robust}
use Rattle.pt_model.specs.declared.waiting_call.Move.{Move}
use Rattle.pt_model.specs.declared.waiting_call.Role.{Role}
use Rattle.pt_model.specs.declared.waiting_call.Role.TheVariants.{ForMutex, ForRead, ForWrite}
use Rattle.pt_model.specs.declared.waiting_call.Role.TheVariants.{ForBarrier, ForCond}
use Rattle.pt_model.specs.Moves.{wait_move}
use Rattle.pt_model.specs.Mutexes.{owner, consistency}
use Rattle.pt_model.specs.Rwlocks.{is_reader_here, is_writer_here, reads_after_unlock, is_writer}
use Rattle.pt_model.specs.Rwlocks.{read_count}
use Rattle.pt_model.specs.Rwlocks.{write_holder}
use Rattle.pt_model.specs.Forced.{is_dead_if}
use Rattle.pt_model.specs.Grants.{grant_outcome}
use Rattle.pt_model.specs.Verdicts.{verdict}
use Rattle.pt_model.specs.Steps.{Step, joins, calls, dies, ticks, grants, trips, yields, expires}
use Rattle.pt_model.specs.Steps.{Follows}
use Rattle.pt_types.specs.declared.outcome.Consistency.{Consistency}
use Rattle.pt_model.specs.Seals.{is_mutex, is_rwlock}
use Rattle.pt_model.proofs.Induction.{by_steps, kept_false, kept_zero}
use Rattle.pt_model.proofs.Lists.{false_by}
use Rattle.pt_model.proofs.Leasts.{first_below-nowhere}
use Rattle.pt_model.proofs.Effects.{Effect, Idle, Creates, Removes, Relocks, Frees, Mends, Returns}
use Rattle.pt_model.proofs.Effects.{Wakes, Waits, effect, owning, Allowed}
use Rattle.pt_model.proofs.Allowances.{allowed}
use Rattle.pt_model.proofs.Changes.{gives_up, mends, returns_it, resolved}
use Rattle.pt_model.proofs.Readings.{consistency-call, is_writer-call, reads-call}
use Rattle.pt_model.proofs.Sound.{Fresh-follows, kind_below}
use Rattle.pt_model.proofs.Seats.{exists_as, HousedBy, housed}
use Rattle.pt_model.proofs.Partition.{class_exists}
use Rattle.pt_model.proofs.Disjoint.{owner-unmade}
use Rattle.pt_model.proofs.Counts.{owning-owner, gives_up-owns}
use Rattle.pt_model.proofs.Rwlocks.{is_writer-grant, read_count-grant}

-- an object that isn't made yet is consistent, and nobody holds it
pub record Unmade (h : History) : Type 0 where
  pub consistencies : (m : ℕ) → place h ≤ m → consistency h m ≡ Consistent
  pub writers : (r c : ℕ) → place h ≤ r → is_writer h r c ≡ false
  pub readers : (r c : ℕ) → place h ≤ r → read_count h r c ≡ 0

-- a call that makes a mutex consistent is its owner's
pub mends-owns : (h : History) (c : ℕ) (E : Effect) (m : ℕ) → Allowed h c E → mends E m ≡ true
    → owning h m c ≡ true
mends-owns h c (Mends k) m a t =
    let same : k ≡ m = grind (arith, nat_tests) in rw (← same) a.1.0
mends-owns h c Idle m a t = absurd (false≢true t)
mends-owns h c (Creates n kind) m a t = absurd (false≢true t)
mends-owns h c (Removes n s q) m a t = absurd (false≢true t)
mends-owns h c (Relocks k) m a t = absurd (false≢true t)
mends-owns h c (Frees k) m a t = absurd (false≢true t)
mends-owns h c (Returns r) m a t = absurd (false≢true t)
mends-owns h c (Wakes n all) m a t = absurd (false≢true t)
mends-owns h c (Waits w) m a t = absurd (false≢true t)

-- a mutex that isn't made yet has no owner
unowned : (h : History) (m c : ℕ) → Follows h → place h ≤ m → owning h m c ≡ true → ⊥
unowned h m c f le t =
    let no : ◌≡◌ {A = Option ℕ} None (Some c) =
    sym (owner-unmade h f m le) ∙ owning-owner h m c t in
    absurd cc

-- a number at which a read-write lock exists is below the place
pub lock-below : (h : History) → Follows h → (q : ℕ) → exists_as h RwlockClass q ≡ true
    → q < place h
lock-below h f q t = kind_below h q (Fresh-follows h f) (class_exists (kind_of h q) RwlockClass t)

-- so no call for a read or write lock is for an object that isn't made yet
elsewhere : (h : History) → Follows h → (role : Role) (o : Option Move) (q r : ℕ) (b : Bool)
    → HousedBy h role o q → place h ≤ r
    → (is_reader_here role ((q == r) && b) ≡ false) × (is_writer_here role ((q == r) && b) ≡ false)
elsewhere h f ForRead o q r b a le =
    let lt = lock-below h f q a.0 in
    let ne : (q == r) ≡ false = grind (arith, nat_tests) in (rw ne refl, refl)
elsewhere h f ForWrite o q r b a le =
    let lt = lock-below h f q a.0 in
    let ne : (q == r) ≡ false = grind (arith, nat_tests) in (refl, rw ne refl)
elsewhere h f ForMutex o q r b a le = (refl, refl)
elsewhere h f ForBarrier o q r b a le = (refl, refl)
elsewhere h f (ForCond m) o q r b a le = (refl, refl)

same_false : (b x : Bool) → x ≡ false → cond b false x ≡ false
same_false true x e = refl
same_false false x e = e

still_none : (b w : Bool) (n : ℕ) → n ≡ 0 → cond b (reads_after_unlock w n) n ≡ 0
still_none true true n e = e
still_none true false n e = rw e refl
still_none false w n e = e

unmade-step : (h : History) (e : Entry) → Follows h → Unmade h → Step h e → Unmade (h ▷ e)
unmade-step h _ f u (calls c call n l o) =
    record {
      consistencies = λ m le. consistency-call h c call (reply (verdict h c call))
          (resolved h c call) m
          (consistency h m)
          ∙ rw (unmended m (omega arith), ungiven m (omega arith))
          (u.consistencies m (omega arith));
      writers = λ r d le. is_writer-call h c call (reply (verdict h c call)) r d (is_writer h r d)
          ∙ same_false (returns_it E r && (c == d)) (is_writer h r d) (u.writers r d (omega arith));
      readers = λ r d le. reads-call h c call (reply (verdict h c call)) r d (read_count h r d)
          ∙ still_none (returns_it E r && (c == d)) (is_writer h r d) (read_count h r d)
          (u.readers r d (omega arith));
    }
  where
    E : Effect
    E = effect h c call (reply (verdict h c call))

    unmended : (m : ℕ) → place h ≤ m → mends E m ≡ false
    unmended m le =
        false_by (mends E m) (λ t. unowned h m c f le (mends-owns h c E m (allowed h c call) t))

    ungiven : (m : ℕ) → place h ≤ m → gives_up E m ≡ false
    ungiven m le =
        false_by (gives_up E m)
        (λ t. unowned h m c f le (gives_up-owns h c E m (allowed h c call) t))
unmade-step h _ f u (grants w s i g) =
    record {
      consistencies = λ m le. u.consistencies m (omega arith);
      writers = λ r d le. is_writer-grant h w (grant_outcome h w) r d f i
          ∙ rw (elsewhere h f w.role (wait_move h w.place) w.object r (w.client == d)
          (housed h f w i) (omega arith)).1 (u.writers r d (omega arith));
      readers = λ r d le. read_count-grant h w (grant_outcome h w) r d f i
          ∙ rw (elsewhere h f w.role (wait_move h w.place) w.object r (w.client == d)
          (housed h f w i) (omega arith)).0 (u.readers r d (omega arith));
    }
unmade-step h _ f u (yields k s t) =
    record {
      consistencies = λ m le. rw (other m (omega arith)) (u.consistencies m (omega arith));
      writers = λ r c le. u.writers r c (omega arith);
      readers = λ r c le. u.readers r c (omega arith);
    }
  where
    other : (m : ℕ) → place h ≤ m → (k == m) ≡ false
    other m le =
        false_by (k == m)
        (λ e. let same : k ≡ m = grind (arith, nat_tests) in
        let none : owner h k ≡ None = ap (owner h) same ∙ owner-unmade h f m le in
        false≢true (sym (ap (is_dead_if h) none)
        ∙ (and_parts (is_robust (kind_of h k)) (is_dead_if h (owner h k)) t).1))
unmade-step h _ f u (joins p n lt) =
    record {
      consistencies = λ m le. u.consistencies m (omega arith);
      writers = λ r c le. u.writers r c (omega arith);
      readers = λ r c le. u.readers r c (omega arith);
    }
unmade-step h _ f u (dies d n l) =
    record {
      consistencies = λ m le. u.consistencies m (omega arith);
      writers = λ r c le. u.writers r c (omega arith);
      readers = λ r c le. u.readers r c (omega arith);
    }
unmade-step h _ f u (ticks k t n) =
    record {
      consistencies = λ m le. u.consistencies m (omega arith);
      writers = λ r c le. u.writers r c (omega arith);
      readers = λ r c le. u.readers r c (omega arith);
    }
unmade-step h _ f u (trips w s i t) =
    record {
      consistencies = λ m le. u.consistencies m (omega arith);
      writers = λ r c le. u.writers r c (omega arith);
      readers = λ r c le. u.readers r c (omega arith);
    }
unmade-step h _ f u (expires w s i t) =
    record {
      consistencies = λ m le. u.consistencies m (omega arith);
      writers = λ r c le. u.writers r c (omega arith);
      readers = λ r c le. u.readers r c (omega arith);
    }

kept_same : (b : Bool) {k : Consistency} → k ≡ Consistent → cond b k Consistent ≡ Consistent
kept_same true e = e
kept_same false e = refl

pub unmade-all : (h : History) → Follows h → Unmade h
unmade-all h f =
    by_steps Unmade
    (record { consistencies = λ m le. refl; writers = λ r c le. refl; readers = λ r c le. refl })
    unmade-step
    (λ h f u. record {
      consistencies = λ m le. kept_same (is_mutex h m) (u.consistencies m le);
      writers = λ r c le. kept_false (is_rwlock h r) (is_writer h r c) (u.writers r c le);
      readers = λ r c le. kept_zero (is_rwlock h r) (read_count h r c) (u.readers r c le);
    }) h f

-- so a lock that isn't made yet has no writer
pub write_holder-unmade : (h : History) → Follows h → (r : ℕ) → place h ≤ r → write_holder h r
    ≡ None
write_holder-unmade h f r le =
    first_below-nowhere (place h) (λ c. is_writer h r c)
    (λ c lt. (unmade-all h f).writers r c le)
