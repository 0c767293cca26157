-- A client that hasn't joined holds nothing.
use Rattle.std.proofs.Common.{◌≡◌, ℕ, suc, ◌<◌, ◌≤◌, Bool, true, false, cond, ◌&&◌, ◌==◌, nat_lt}
use Rattle.std.proofs.Common.{Option, Some, None, is_some, is_none, refl, ap, ◌∙◌, arith}
use Rattle.std.proofs.lemmas.Bool.Decides.{nat_tests}
use Rattle.pt_types.specs.Tables.{reply}
use Rattle.pt_types.specs.MutexTable.{is_some_number, is_acquired}
use Rattle.pt_model.specs.declared.entry.Entry.{Entry}
use Rattle.pt_model.specs.Histories.{History, Begin, ◌▷◌, place}
use Rattle.pt_model.specs.declared.waiting_call.Role.{Role}
use Rattle.pt_model.specs.declared.waiting_call.Role.TheVariants.{ForMutex, ForRead, ForWrite}
use Rattle.pt_model.specs.declared.waiting_call.Role.TheVariants.{ForBarrier, ForCond}
use Rattle.pt_model.specs.WaitingCall.{final_mutex}
use Rattle.pt_model.specs.Mutexes.{lock_count, mutex_count, owner}
use Rattle.pt_model.specs.Rwlocks.{is_reader_here, is_writer_here, reads_after_unlock, is_writer}
use Rattle.pt_model.specs.Rwlocks.{read_count}
use Rattle.pt_model.specs.Rwlocks.{write_holder, first_reader}
use Rattle.pt_model.specs.Grants.{grant_outcome}
use Rattle.pt_model.specs.Verdicts.{verdict}
use Rattle.pt_model.specs.Steps.{Step, joins, calls, dies, ticks, grants, trips, yields, expires}
use Rattle.pt_model.specs.Steps.{Follows}
use Rattle.pt_model.specs.Seals.{seal, is_mutex, is_rwlock}
use Rattle.pt_model.proofs.Induction.{by_steps, kept_zero, kept_false}
use Rattle.pt_model.proofs.Leasts.{first_below-passes, first_below-some, none-passes}
use Rattle.pt_model.proofs.Effects.{effect}
use Rattle.pt_model.proofs.Changes.{takes_more, returns_it}
use Rattle.pt_model.proofs.Readings.{lock_count-call, is_writer-call, reads-call}
use Rattle.pt_model.proofs.Sound.{Fresh-follows, alive_below, below_open, below_by}
use Rattle.pt_model.proofs.Found.{found_open}

-- whether a client has locks on the mutex
abbrev pub has : History → ℕ → ℕ → Bool
has h m c = nat_lt 0 (mutex_count h m c)

-- whether it has read locks
abbrev pub has_read : History → ℕ → ℕ → Bool
has_read h r c = nat_lt 0 (read_count h r c)

pub and_false : (a b : Bool) → b ≡ false → (a && b) ≡ false
and_false true b e = e
and_false false b e = refl

pub record Unheld (h : History) : Type 0 where
  pub gains : (m c : ℕ) → place h ≤ c → lock_count h m c ≡ 0
  pub writers : (r c : ℕ) → place h ≤ c → is_writer h r c ≡ false
  pub readers : (r c : ℕ) → place h ≤ c → read_count h r c ≡ 0

there_false : (role : Role) (a b : Bool) → b ≡ false → (is_reader_here role (a && b) ≡ false)
    × (is_writer_here role (a && b) ≡ false)
there_false ForRead a b e = (and_false a b e, refl)
there_false ForWrite a b e = (refl, and_false a b e)
there_false ForMutex a b e = (refl, refl)
there_false ForBarrier a b e = (refl, refl)
there_false (ForCond m) a b e = (refl, refl)

same_false : (b : Bool) → cond b false false ≡ false
same_false true = refl
same_false false = refl

still_zero : (b w : Bool) → cond b (reads_after_unlock w 0) 0 ≡ 0
still_zero true true = refl
still_zero true false = refl
still_zero false w = refl

unheld_quiet : (h : History) (e : Entry) → Unheld h
    → ((m c : ℕ) → lock_count (h ▷ e) m c ≡ lock_count h m c)
    → ((r c : ℕ) → is_writer (h ▷ e) r c ≡ is_writer h r c)
    → ((r c : ℕ) → read_count (h ▷ e) r c ≡ read_count h r c) → Unheld (h ▷ e)
unheld_quiet h e u g w r =
    record {
      gains = λ m c le. g m c ∙ u.gains m c (omega arith);
      writers = λ o c le. w o c ∙ u.writers o c (omega arith);
      readers = λ o c le. r o c ∙ u.readers o c (omega arith);
    }

pub Unheld-step : (h : History) (e : Entry) → Follows h → Unheld h → Step h e → Unheld (h ▷ e)
Unheld-step h _ f u (joins p n lt) = unheld_quiet h _ u (λ m c. refl) (λ r c. refl) (λ r c. refl)
Unheld-step h _ f u (dies d n a) = unheld_quiet h _ u (λ m c. refl) (λ r c. refl) (λ r c. refl)
Unheld-step h _ f u (ticks z t n) = unheld_quiet h _ u (λ m c. refl) (λ r c. refl) (λ r c. refl)
Unheld-step h _ f u (trips w s i t) = unheld_quiet h _ u (λ m c. refl) (λ r c. refl) (λ r c. refl)
Unheld-step h _ f u (expires w s i t) = unheld_quiet h _ u (λ m c. refl) (λ r c. refl) (λ r c. refl)
Unheld-step h _ f u (yields k s t) =
    record {
      gains = λ m c le. zeroed (k == m) (lock_count h m c) (u.gains m c (omega arith));
      writers = λ r c le. u.writers r c (omega arith);
      readers = λ r c le. u.readers r c (omega arith);
    }
  where
    zeroed : (b : Bool) (n : ℕ) → n ≡ 0 → cond b 0 n ≡ 0
    zeroed true n e = refl
    zeroed false n e = e
Unheld-step h _ f u (calls c call n a o) =
    let lt = alive_below h c (Fresh-follows h f) a in
    record {
      gains = λ m d le. let ne : (c == d)
          ≡ false = grind (arith, nat_tests) in lock_count-call h c call
          (reply (verdict h c call)) m d (lock_count h m d)
          ∙ rw (and_false (takes_more (effect h c call (reply (verdict h c call))) m) (c == d) ne)
          (u.gains m d (omega arith));
      writers = λ r d le. is_writer-call h c call (reply (verdict h c call)) r d (is_writer h r d)
          ∙ rw (u.writers r d (omega arith)) (same_false
          (returns_it (effect h c call (reply (verdict h c call))) r && (c == d)));
      readers = λ r d le. reads-call h c call (reply (verdict h c call)) r d (read_count h r d)
          ∙ rw (u.readers r d (omega arith)) (still_zero
          (returns_it (effect h c call (reply (verdict h c call))) r
          && (c == d)) (is_writer h r d));
    }
Unheld-step h _ f u (grants w s i g) =
    let below = below_open h w (Fresh-follows h f) i in
    record {
      gains = λ m d le. rw (
        found_open h f w i,
        and_false (is_acquired (grant_outcome h w))
            (is_some_number (final_mutex w.role w.object) m && (w.client == d))
            (and_false (is_some_number (final_mutex w.role w.object) m) (w.client == d)
            (apart d le)),
      )
          (u.gains m d (omega arith));
      writers = λ r d le. rw (
        found_open h f w i,
        (there_false w.role (w.object == r) (w.client == d) (apart d le)).1,
      )
          (u.writers r d (omega arith));
      readers = λ r d le. rw (
        found_open h f w i,
        (there_false w.role (w.object == r) (w.client == d) (apart d le)).0,
      )
          (u.readers r d (omega arith));
    }
  where
    apart : (d : ℕ) → suc (place h) ≤ d → (w.client == d) ≡ false
    apart d le =
        let lt : w.client < place h = (below_open h w (Fresh-follows h f) i).1 in grind
        (arith, nat_tests)

Unheld-seal : (h : History) → Follows h → Unheld h → Unheld (Begin (seal h))
Unheld-seal h f u =
    record {
      gains = λ m c le. let none : lock_count h m c ≡ 0 = u.gains m c le in
          kept_zero (is_mutex h m) (mutex_count h m c) (omega (arith, none));
      writers = λ r c le. kept_false (is_rwlock h r) (is_writer h r c) (u.writers r c le);
      readers = λ r c le. kept_zero (is_rwlock h r) (read_count h r c) (u.readers r c le);
    }

pub Unheld-follows : (h : History) → Follows h → Unheld h
Unheld-follows h f =
    by_steps Unheld
    (record { gains = λ m c le. refl; writers = λ r c le. refl; readers = λ r c le. refl })
    Unheld-step Unheld-seal h f

pub mutex_count-none : (h : History) → Follows h → (m c : ℕ) → place h ≤ c → mutex_count h m c ≡ 0
mutex_count-none h f m c le = let none = (Unheld-follows h f).gains m c le in omega (arith, none)

has_none : (h : History) → Follows h → (m c : ℕ) → place h ≤ c → has h m c ≡ false
has_none h f m c le = ap (nat_lt 0) (mutex_count-none h f m c le)

-- a client that has a lock joined before
pub has_below : (h : History) → Follows h → (m c : ℕ) → has h m c ≡ true → c < place h
has_below h f m c t = below_by (place h) c (has h m c) (has_none h f m c) t

-- nobody has locks on a mutex without an owner
pub none_has : (h : History) → Follows h → (m : ℕ) → is_none (owner h m) ≡ true → (c : ℕ)
    → has h m c ≡ false
none_has h f m e c = none-passes (place h) (λ d. has h m d) (has_none h f m) e c

pub none_writes : (h : History) → Follows h → (r : ℕ) → is_none (write_holder h r) ≡ true → (c : ℕ)
    → is_writer h r c ≡ false
none_writes h f r e c = none-passes (place h) (λ d. is_writer h r d)
    ((Unheld-follows h f).writers r) e
    c

pub none_reads : (h : History) → Follows h → (r : ℕ) → is_none (first_reader h r) ≡ true → (c : ℕ)
    → has_read h r c ≡ false
none_reads h f r e c =
    none-passes (place h) (λ d. has_read h r d)
    (λ k le. ap (nat_lt 0) ((Unheld-follows h f).readers r k le)) e c

-- the owner has a lock
pub owner-has : (h : History) (m c : ℕ) → owner h m ≡ Some c → has h m c ≡ true
owner-has h m c e = first_below-passes (place h) (λ d. has h m d) c e

-- if a client has a lock, the mutex has an owner
pub has-owned : (h : History) → Follows h → (m c : ℕ) → has h m c ≡ true → is_some (owner h m)
    ≡ true
has-owned h f m c t = first_below-some (place h) (λ d. has h m d) c (has_below h f m c t) t

-- if all that have locks in g had some in h, an owner in g means one in h
pub owned_before : (g h : History) → Follows h → (m : ℕ)
    → ((c : ℕ) → has g m c ≡ true → has h m c ≡ true) → is_some (owner g m) ≡ true
    → is_some (owner h m) ≡ true
owned_before g h f m each t = go (owner g m) refl t
  where
    go : (o : Option ℕ) → owner g m ≡ o → is_some o ≡ true → is_some (owner h m) ≡ true
    go None e k = absurd cc
    go (Some c) e k = has-owned h f m c (each c (owner-has g m c e))

-- a client that writes or reads joined before
pub writes_below : (h : History) → Follows h → (r c : ℕ) → is_writer h r c ≡ true → c < place h
writes_below h f r c t = below_by (place h) c (is_writer h r c) ((Unheld-follows h f).writers r c) t

pub reads_below : (h : History) → Follows h → (r c : ℕ) → has_read h r c ≡ true → c < place h
reads_below h f r c t =
    below_by (place h) c (has_read h r c) (λ le. ap (nat_lt 0)
    ((Unheld-follows h f).readers r c le)) t

-- if a client reads, there is a reader
pub read_count-read : (h : History) → Follows h → (r c : ℕ) → has_read h r c ≡ true
    → is_some (first_reader h r) ≡ true
read_count-read h f r c t = first_below-some (place h) (λ d. has_read h r d) c
    (reads_below h f r c t) t
