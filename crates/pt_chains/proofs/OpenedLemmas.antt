-- The queues that exist, as one is made, opened or discarded.
use Rattle.std.proofs.Common.{◌≡◌, ℕ, suc, ◌==◌, ◌+◌, ◌-◌, ◌<◌, ◌≤◌, ◌^◌, Bool, true, false, cond}
use Rattle.std.proofs.Common.{◌||◌, ◌&&◌, not, List, [], ◌∷◌, ◌++◌, length, filter, Option, Some}
use Rattle.std.proofs.Common.{None, is_some, nat_eq, refl, sym, ap, ◌∙◌, subst, arith}
use Rattle.std.specs.Prelude.{IfSome, IsSome, unwrap_or}
use Rattle.std.specs.List.{AllByRecursion as Each, IsDistinct}
use Rattle.std.specs.Map.{lookup}
use Rattle.std.proofs.lemmas.Bool.Decides.{nat_tests}
use Rattle.std.proofs.lemmas.Bool.{false≢true}
use Rattle.pt_chains.specs.declared.sides.Queue.{Queue}
use Rattle.pt_waitq.specs.Waits.{is_listed}
use Rattle.pt_waitq.specs.ListLemmas.{any-append, any-filter, any-without, filter-rest}
use Rattle.pt_chains.specs.Chains.{numbers, Unique}
use Rattle.pt_chains.specs.Boxes.{no_queue}
use Rattle.pt_chains.specs.OpenQueues.{with_existing, existing_from, existing_by, queue_at, queues_by, is_open}
use Rattle.pt_chains.specs.OpenQueues.{AreQueues}
use Rattle.pt_chains.proofs.NodeIndexLemmas.{length-more}
use Rattle.pt_chains.proofs.InsertLemmas.{no-more, length-numbers}
use Rattle.pt_chains.proofs.ChainLemmas.{listed-lookup, not-listed, some_same}
use Rattle.pt_chains.proofs.LinkLemmas.{eq_turned}

made_from-more : (os : List ℕ) (log : List (Bool × ℕ)) (a : Bool × ℕ)
    → existing_from os (log ++ a ∷ []) ≡ with_existing (existing_from os log) a.0 a.1
made_from-more os [] a = refl
made_from-more os (b ∷ log) a = made_from-more (with_existing os b.0 b.1) log a

pub made-more : (log : List (Bool × ℕ)) (a : Bool × ℕ)
    → existing_by (log ++ a ∷ []) ≡ with_existing (existing_by log) a.0 a.1
made-more log a = made_from-more [] log a

pub numbers-by : (os : List ℕ) (rows : List (ℕ × Queue)) → numbers (queues_by os rows) ≡ os
numbers-by [] rows = refl
numbers-by (o ∷ os) rows = ap (λ ns. o ∷ ns) (numbers-by os rows)

pub length-by : (os : List ℕ) (rows : List (ℕ × Queue)) → length (queues_by os rows) ≡ length os
length-by os rows =
    sym (length-numbers (queues_by os rows)) ∙ ap length (numbers-by os rows)

-- the chains of a queue that exists
pub lookup-by : (os : List ℕ) (rows : List (ℕ × Queue)) (o : ℕ)
    → lookup (nat_eq o) (queues_by os rows)
    ≡ cond (is_listed o os) (Some (queue_at rows o)) None
lookup-by [] rows o = refl
lookup-by (x ∷ os) rows o = go (x == o) (nat_eq o x) refl refl (lookup-by os rows o)
  where
    go : (a b : Bool) → (x == o) ≡ a → nat_eq o x ≡ b
        → lookup (nat_eq o) (queues_by os rows)
        ≡ cond (is_listed o os) (Some (queue_at rows o)) None
        → cond b (Some (queue_at rows x)) (lookup (nat_eq o) (queues_by os rows))
        ≡ cond (a || is_listed o os) (Some (queue_at rows o)) None
    go true true p q ih =
        let same : x ≡ o = grind (arith, nat_tests) in
        ap (λ n. Some (queue_at rows n)) same
    go true false p q ih = absurd (grind (arith, nat_tests))
    go false true p q ih = absurd (grind (arith, nat_tests))
    go false false p q ih = ih

pub listed-by : (os : List ℕ) (rows : List (ℕ × Queue)) (o : ℕ)
    → IsSome (lookup (nat_eq o) (queues_by os rows)) → is_listed o os ≡ true
listed-by os rows o h =
    sym (ap (is_listed o) (numbers-by os rows)) ∙ (listed-lookup o (queues_by os rows) ∙ h)

pub said-by : (os : List ℕ) (rows : List (ℕ × Queue)) (o : ℕ) (q : Queue)
    → lookup (nat_eq o) (queues_by os rows) ≡ Some q → queue_at rows o ≡ q
said-by os rows o q h = go (is_listed o os) (sym (lookup-by os rows o) ∙ h)
  where
    go : (b : Bool) → cond b (Some (queue_at rows o)) None ≡ Some q → queue_at rows o ≡ q
    go true e = some_same (queue_at rows o) q e
    go false e = cc

-- a queue that does not exist has no row
pub unmade-by : (os : List ℕ) (rows : List (ℕ × Queue)) (spare : ℕ) (open_flags : List Bool) (len o : ℕ)
    → AreQueues os rows spare open_flags len → lookup (nat_eq o) (queues_by os rows) ≡ None
    → lookup (nat_eq o) rows ≡ None
unmade-by os rows spare open_flags len o a h =
    not-listed rows o (go (is_listed o (numbers rows)) refl)
  where
    none : is_listed o os ≡ false
    none =
        sym (ap (is_listed o) (numbers-by os rows))
        ∙ (listed-lookup o (queues_by os rows) ∙ ap is_some h)

    go : (b : Bool) → is_listed o (numbers rows) ≡ b → b ≡ false
    go true e = absurd (false≢true (sym none ∙ a.is_queue o e))
    go false e = refl

-- a number that is not noted has no row
pub unnoted-none : (os : List ℕ) (rows : List (ℕ × Queue)) (spare : ℕ) (open_flags : List Bool)
    (len o : ℕ) → AreQueues os rows spare open_flags len → is_open open_flags o ≡ false
    → lookup (nat_eq o) rows ≡ None
unnoted-none os rows spare open_flags len o a h =
    not-listed rows o (go (is_listed o (numbers rows)) refl)
  where
    go : (b : Bool) → is_listed o (numbers rows) ≡ b → b ≡ false
    go true e = absurd (false≢true (sym h ∙ a.noted o e))
    go false e = refl

-- what holds for the chains of a row, or for empty ones without a row, holds for the queue
pub told : (P : Queue → Type 0) (os : List ℕ) (rows : List (ℕ × Queue)) (o : ℕ) (q : Queue)
    → lookup (nat_eq o) (queues_by os rows) ≡ Some q
    → (lookup (nat_eq o) rows ≡ None → P no_queue)
    → ((r : Queue) → lookup (nat_eq o) rows ≡ Some r → P r) → P q
told P os rows o q h none some =
    subst P (said-by os rows o q h) (go (lookup (nat_eq o) rows) refl)
  where
    go : (f : Option Queue) → lookup (nat_eq o) rows ≡ f
        → P (unwrap_or (lookup (nat_eq o) rows) no_queue)
    go None e = subst (λ f. P (unwrap_or f no_queue)) (sym e) (none e)
    go (Some r) e = subst (λ f. P (unwrap_or f no_queue)) (sym e) (some r e)

-- what holds for the queue holds for the chains of its row
pub told-row : (P : Queue → Type 0) (os : List ℕ) (rows : List (ℕ × Queue)) (o : ℕ)
    → is_listed o os ≡ true → IfSome (lookup (nat_eq o) (queues_by os rows)) P
    → P (queue_at rows o)
told-row P os rows o is_queue h =
    subst (λ f. IfSome f P)
    (lookup-by os rows o ∙ ap (λ b. cond b (Some (queue_at rows o)) None) is_queue) h

-- numbers that differ from each other occur once
pub unique-numbers : {X : Type 0} (es : List (ℕ × X))
    → IsDistinct (λ a b. a == b) (numbers es) → Unique (numbers es)
unfolding IsDistinct
unique-numbers es d = go (numbers es) d
  where
    none : (x : ℕ) (ns : List ℕ) → Each (λ y. (x == y) ≡ false) ns → is_listed x ns ≡ false
    none x [] a = refl
    none x (n ∷ ns) a =
        let far : (n == x) ≡ false = eq_turned x n a.0 in
        rw far (none x ns a.1)

    go : (ns : List ℕ) → IsDistinct (λ a b. a == b) ns → Unique ns
    go [] d = tt
    go (n ∷ ns) d = (none n ns d.0, go ns d.1)

-- there is room for a row of a queue that has none
pub room-by : (os : List ℕ) (rows : List (ℕ × Queue)) (spare : ℕ) (open_flags : List Bool) (len o : ℕ)
    → AreQueues os rows spare open_flags len → is_listed o os ≡ true
    → lookup (nat_eq o) rows ≡ None → Unique (numbers rows) → 0 < spare
room-by os rows spare open_flags len o a is_queue none once =
    let most = no-more (o ∷ numbers rows) os (listed-lookup o rows ∙ ap is_some none, once)
    (λ n i. go n (o == n) refl i) in
    omega (arith, most, length-numbers rows, a.count, a.room)
  where
    go : (n : ℕ) (b : Bool) → (o == n) ≡ b → (b || is_listed n (numbers rows)) ≡ true
        → is_listed n os ≡ true
    go n true t i =
        let same : o ≡ n = grind (arith, nat_tests) in
        ap (λ k. is_listed k os) (sym same) ∙ is_queue
    go n false t i = a.is_queue n i

-- rows of the same queues and of one more that exists
pub queues-opened : (os : List ℕ) (rows rows' : List (ℕ × Queue)) (spare spare' : ℕ)
    (open_flags open_flags' : List Bool) (len o : ℕ) → AreQueues os rows spare open_flags len
    → is_listed o os ≡ true
    → ((x : ℕ) → is_listed x (numbers rows') ≡ (is_listed x (numbers rows) || (o == x)))
    → length rows + spare ≤ length rows' + spare' → is_open open_flags' o ≡ true
    → ((x : ℕ) → is_open open_flags x ≡ true → is_open open_flags' x ≡ true)
    → AreQueues os rows' spare' open_flags' len
queues-opened os rows rows' spare spare' open_flags open_flags' len o a is_queue listed more own kept =
    record {
      once = a.once;
      is_queue = λ x i. was x (sym (listed x) ∙ i) (λ n. is_listed n os ≡ true) (a.is_queue x) is_queue;
      noted = λ x i. was x (sym (listed x) ∙ i) (λ n. is_open open_flags' n ≡ true)
          (λ j. kept x (a.noted x j)) own;
      count = a.count;
      bounded = a.bounded;
      room = let room = a.room in omega (arith, room, more);
    }
  where
    was : (x : ℕ) → (is_listed x (numbers rows) || (o == x)) ≡ true → (P : ℕ → Type 0)
        → (is_listed x (numbers rows) ≡ true → P x) → P o → P x
    was x i P old own = go (is_listed x (numbers rows)) (o == x) refl refl i
      where
        go : (b t : Bool) → is_listed x (numbers rows) ≡ b → (o == x) ≡ t → (b || t) ≡ true → P x
        go true t p q r = old p
        go false true p q r =
            let same : o ≡ x = grind (arith, nat_tests) in
            subst P same own
        go false false p q r = absurd (false≢true r)

-- rows of the same numbers
pub queues-set : (os : List ℕ) (rows rows' : List (ℕ × Queue)) (spare spare' : ℕ)
    (open_flags : List Bool) (len : ℕ) → AreQueues os rows spare open_flags len
    → numbers rows' ≡ numbers rows → spare ≤ spare' → AreQueues os rows' spare' open_flags len
queues-set os rows rows' spare spare' open_flags len a same still =
    record {
      once = a.once;
      is_queue = λ x i. a.is_queue x (sym (ap (is_listed x) same) ∙ i);
      noted = λ x i. a.noted x (sym (ap (is_listed x) same) ∙ i);
      count = a.count;
      bounded = a.bounded;
      room =
          let room = a.room in
          omega (arith, room, still, ap length same, length-numbers rows, length-numbers rows');
    }

-- rows of the same numbers, and more room
pub queues-kept : (os : List ℕ) (rows rows' : List (ℕ × Queue)) (spare spare' : ℕ)
    (open_flags : List Bool) (len : ℕ) → AreQueues os rows spare open_flags len
    → ((x : ℕ) → lookup (nat_eq x) rows' ≡ lookup (nat_eq x) rows) → length rows' ≡ length rows
    → spare ≤ spare' → AreQueues os rows' spare' open_flags len
queues-kept os rows rows' spare spare' open_flags len a same count still =
    record {
      once = a.once;
      is_queue = λ x i. a.is_queue x (was x ∙ i);
      noted = λ x i. a.noted x (was x ∙ i);
      count = a.count;
      bounded = a.bounded;
      room = let room = a.room in omega (arith, room, still, count);
    }
  where
    was : (x : ℕ) → is_listed x (numbers rows) ≡ is_listed x (numbers rows')
    was x = listed-lookup x rows ∙ (ap is_some (sym (same x)) ∙ sym (listed-lookup x rows'))

-- the same chains
pub queues-same : (os : List ℕ) (rows rows' : List (ℕ × Queue))
    → ((x : ℕ) → lookup (nat_eq x) rows' ≡ lookup (nat_eq x) rows)
    → queues_by os rows' ≡ queues_by os rows
queues-same [] rows rows' same = refl
queues-same (o ∷ os) rows rows' same =
    ap (λ f. (o, unwrap_or f no_queue) ∷ queues_by os rows') (same o)
    ∙ ap (λ qs. (o, queue_at rows o) ∷ qs) (queues-same os rows rows' same)

-- other queues are unchanged
pub others-by : (os : List ℕ) (rows rows' : List (ℕ × Queue)) (o : ℕ)
    → ((x : ℕ) → (o == x) ≡ false → queue_at rows' x ≡ queue_at rows x)
    → (x : ℕ) → (o == x) ≡ false
    → lookup (nat_eq x) (queues_by os rows') ≡ lookup (nat_eq x) (queues_by os rows)
others-by os rows rows' o same x other =
    lookup-by os rows' x
    ∙ (ap (λ q. cond (is_listed x os) (Some q) None) (same x other) ∙ sym (lookup-by os rows x))

-- no queue exists
pub queues-none : (log : List (Bool × ℕ)) (rows : List (ℕ × Queue)) (spare : ℕ)
    (open_flags : List Bool) → log ≡ [] → rows ≡ [] → AreQueues (existing_by log) rows spare open_flags 0
queues-none log rows spare open_flags none empty =
    subst (λ l. AreQueues (existing_by l) rows spare open_flags 0) (sym none)
    (subst (λ rs. AreQueues [] rs spare open_flags 0) (sym empty) (record {
      once = tt;
      is_queue = λ o e. absurd (false≢true e);
      noted = λ o e. absurd (false≢true e);
      count = refl;
      bounded = omega arith;
      room = omega arith;
    }))

pub listed-last : (o x : ℕ) (os : List ℕ)
    → is_listed x (os ++ o ∷ []) ≡ (is_listed x os || (o == x))
listed-last o x os =
    any-append (λ m. m == x) os (o ∷ []) ∙ ap (λ b. is_listed x os || b) (go (o == x))
  where
    go : (b : Bool) → (b || false) ≡ b
    go true = refl
    go false = refl

unique-last : (o : ℕ) (os : List ℕ) → Unique os → is_listed o os ≡ false → Unique (os ++ o ∷ [])
unique-last o [] u n = (refl, tt)
unique-last o (x ∷ os) u n = go (x == o) refl n (λ h. unique-last o os u.1 h)
  where
    go : (b : Bool) → (x == o) ≡ b → (b || is_listed o os) ≡ false
        → (is_listed o os ≡ false → Unique (os ++ o ∷ [])) → Unique (x ∷ (os ++ o ∷ []))
    go true t h ih = absurd (false≢true (sym h))
    go false t h ih =
        let far : (o == x) ≡ false = eq_turned x o t in
        (listed-last o x os ∙ rw (u.0, far) refl, ih h)

-- one more queue is made, which has no row
module _ (os : List ℕ) (rows : List (ℕ × Queue)) (spare spare' : ℕ) (open_flags : List Bool) (len o : ℕ)
    (a : AreQueues os rows spare open_flags len)
    (new : lookup (nat_eq o) (queues_by os rows) ≡ None) where
  none : is_listed o os ≡ false
  none =
      sym (ap (is_listed o) (numbers-by os rows))
      ∙ (listed-lookup o (queues_by os rows) ∙ ap is_some new)

  pub queues-made : len + 1 < 2 ^ 32 → len + 1 ≤ length rows + spare'
      → AreQueues (os ++ o ∷ []) rows spare' open_flags (len + 1)
  queues-made bounded room =
      record {
        once = unique-last o os a.once none;
        is_queue = λ x i. listed-last o x os ∙ ap (λ b. b || (o == x)) (a.is_queue x i);
        noted = a.noted;
        count = omega (arith, a.count, length-more os o);
        bounded = bounded;
        room = room;
      }

  pub others-made : (x : ℕ) → (o == x) ≡ false
      → lookup (nat_eq x) (queues_by (os ++ o ∷ []) rows) ≡ lookup (nat_eq x) (queues_by os rows)
  others-made x other =
      lookup-by (os ++ o ∷ []) rows x
      ∙ (ap (λ b. cond b (Some (queue_at rows x)) None) (listed-last o x os
      ∙ rw other (go (is_listed x os))) ∙ sym (lookup-by os rows x))
    where
      go : (b : Bool) → (b || false) ≡ b
      go true = refl
      go false = refl

  pub queue-made : (q : Queue) → lookup (nat_eq o) (queues_by (os ++ o ∷ []) rows) ≡ Some q
      → no_queue ≡ q
  queue-made q h =
      ap (λ f. unwrap_or f no_queue) (sym (unmade-by os rows spare open_flags len o a new))
      ∙ said-by (os ++ o ∷ []) rows o q h

once-less : (o : ℕ) (os : List ℕ) → Unique os → is_listed o os ≡ true
    → length os ≡ length (filter (λ n. not (n == o)) os) + 1
once-less o [] u h = absurd (false≢true h)
once-less o (x ∷ os) u h = go (x == o) refl h (once-less o os u.1)
  where
    rest : List ℕ
    rest = filter (λ n. not (n == o)) os

    go : (b : Bool) → (x == o) ≡ b → (b || is_listed o os) ≡ true
        → (is_listed o os ≡ true → length os ≡ length rest + 1)
        → suc (length os) ≡ length (cond (not b) (x ∷ rest) rest) + 1
    go true t i ih =
        let same : x ≡ o = grind (arith, nat_tests) in
        let gone = ap (λ n. is_listed n os) (sym same) ∙ u.0 in
        omega (arith, ap length (filter-rest (λ (n : ℕ). n == o) os gone))
    go false t i ih = omega (arith, ih i)

unique-less : (o : ℕ) (os : List ℕ) → Unique os → Unique (filter (λ n. not (n == o)) os)
unique-less o [] u = tt
unique-less o (x ∷ os) u = go (not (x == o)) (unique-less o os u.1)
  where
    rest : List ℕ
    rest = filter (λ n. not (n == o)) os

    out : (b : Bool) → is_listed x rest ≡ b → b ≡ false
    out false e = refl
    out true e =
        absurd (false≢true (sym u.0
        ∙ any-filter (λ (n : ℕ). not (n == o)) (λ (n : ℕ). n == x) os e))

    go : (b : Bool) → Unique rest → Unique (cond b (x ∷ rest) rest)
    go true ih = (out (is_listed x rest) refl, ih)
    go false ih = ih

-- a queue is discarded, and its row if it has one
module _ (os : List ℕ) (rows rows' : List (ℕ × Queue)) (spare spare' : ℕ) (open_flags : List Bool)
    (len o : ℕ) (a : AreQueues os rows spare open_flags len)
    (there : IsSome (lookup (nat_eq o) (queues_by os rows)))
    (now : (x : ℕ) → lookup (nat_eq x) rows' ≡ cond (o == x) None (lookup (nat_eq x) rows)) where
  -- the others
  abbrev pub left : List ℕ
  left = filter (λ n. not (n == o)) os

  fewer : length os ≡ length left + 1
  fewer = once-less o os a.once (listed-by os rows o there)

  listed-left : (x : ℕ) → is_listed x left ≡ (not (o == x) && is_listed x os)
  listed-left x = any-without (λ (n : ℕ). n) o x os

  was : (x : ℕ) → is_listed x (numbers rows') ≡ true
      → ((o == x) ≡ false) × (is_listed x (numbers rows) ≡ true)
  was x i = go (o == x) refl (sym (ap is_some (now x)) ∙ (sym (listed-lookup x rows') ∙ i))
    where
      go : (b : Bool) → (o == x) ≡ b → is_some (cond b None (lookup (nat_eq x) rows)) ≡ true
          → ((o == x) ≡ false) × (is_listed x (numbers rows) ≡ true)
      go true t h = absurd (false≢true h)
      go false t h = (t, listed-lookup x rows ∙ h)

  pub queues-left : length rows + spare ≤ length rows' + spare' + 1
      → AreQueues left rows' spare' open_flags (len - 1)
  queues-left more =
      record {
        once = unique-less o os a.once;
        is_queue = λ x i.
            let w = was x i in
            listed-left x ∙ rw (w.0, a.is_queue x w.1) refl;
        noted = λ x i. a.noted x (was x i).1;
        count = omega (arith, a.count, fewer);
        bounded = let bounded = a.bounded in omega (arith, bounded);
        room = let room = a.room in omega (arith, room, more, a.count, fewer);
      }

  pub some-left : 1 ≤ len
  some-left = omega (arith, a.count, fewer)

  pub lookup-left : (x : ℕ) → lookup (nat_eq x) (queues_by left rows')
      ≡ cond (o == x) None (lookup (nat_eq x) (queues_by os rows))
  lookup-left x =
      lookup-by left rows' x
      ∙ (ap (λ b. cond b (Some (queue_at rows' x)) None) (listed-left x) ∙ go (o == x) refl)
    where
      go : (b : Bool) → (o == x) ≡ b
          → cond (not b && is_listed x os) (Some (queue_at rows' x)) None
          ≡ cond b None (lookup (nat_eq x) (queues_by os rows))
      go true t = refl
      go false t =
          ap (λ f. cond (is_listed x os) (Some (unwrap_or f no_queue)) None)
          (now x ∙ ap (λ b. cond b None (lookup (nat_eq x) rows)) t)
          ∙ sym (lookup-by os rows x)

  pub length-left : length (queues_by left rows') ≤ length (queues_by os rows)
  length-left = omega (arith, length-by left rows', length-by os rows, fewer)
