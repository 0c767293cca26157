-- What is read of a queue that exists, from its row or from none.
use Rattle.std.proofs.Common.{◌≡◌, ℕ, ◌==◌, ◌≤◌, Bool, true, false, cond, ◌||◌}
use Rattle.std.proofs.Common.{List, Option, Some, None, is_some, nat_eq}
use Rattle.std.proofs.Common.{refl, sym, ap, ◌∙◌, subst, arith, inr}
use Rattle.std.specs.Prelude.{◌↔◌, IfSome, IsSome, IsTrue, unwrap_or}
use Rattle.std.specs.Option.{option_map}
use Rattle.std.specs.Map.{lookup}
use Rattle.std.proofs.lemmas.Bool.Decides.{nat_tests}
use Rattle.std.proofs.lemmas.Bool.{false≢true}
use Rattle.pt_chains.specs.declared.sides.Queue.{Queue}
use Rattle.pt_waitq.specs.Waits.{is_listed}
use Rattle.pt_chains.specs.Chains.{numbers, IsFirst, IsFirstWriter, HasWriterFrom}
use Rattle.pt_chains.specs.Boxes.{no_queue}
use Rattle.pt_chains.specs.OpenQueues.{queue_at, queues_by, is_open, AreQueues}
use Rattle.pt_chains.proofs.ChainLemmas.{listed-lookup, is-listed}
use Rattle.pt_chains.proofs.StepLemmas.{some-if}
use Rattle.pt_chains.proofs.BoxLemmas.{none-without}
use Rattle.pt_chains.proofs.OpenedLemmas.{lookup-by, said-by, unnoted-none, told, told-row}

none_some : {X : Type 0} (f : Option X) (x : X) → f ≡ None → f ≡ Some x → ⊥
none_some f x n e = cc

-- what is read of a queue is read from its row, or from none
module _ (os : List ℕ) (rows : List (ℕ × Queue)) (spare : ℕ) (open_flags : List Bool) (len o : ℕ)
    (a : AreQueues os rows spare open_flags len) where
  pub first-by : (head : Option ℕ) → (lookup (nat_eq o) rows ≡ None → head ≡ None)
      → ((r : Queue) → lookup (nat_eq o) rows ≡ Some r → IsFirst r head)
      → (q : Queue) → lookup (nat_eq o) (queues_by os rows) ≡ Some q → IsFirst q head
  first-by head none some q h =
      told (λ r. IsFirst r head) os rows o q h
      (λ n. subst (IsFirst no_queue) (sym (none n))
      (inr (λ k p lt. none-without.counts k p lt, refl))) some

  pub first_writer-by : (head : Option ℕ) → (lookup (nat_eq o) rows ≡ None → head ≡ None)
      → ((r : Queue) → lookup (nat_eq o) rows ≡ Some r → IsFirstWriter r head)
      → (q : Queue) → lookup (nat_eq o) (queues_by os rows) ≡ Some q → IsFirstWriter q head
  first_writer-by head none some q h =
      told (λ r. IsFirstWriter r head) os rows o q h
      (λ n. subst (IsFirstWriter no_queue) (sym (none n))
      (inr (λ p lt. none-without.counts true p lt, refl))) some

  pub writer-by : (p : ℕ) (b : Bool) → (lookup (nat_eq o) rows ≡ None → b ≡ false)
      → ((r : Queue) → lookup (nat_eq o) rows ≡ Some r → IsTrue b ↔ HasWriterFrom r p)
      → (q : Queue) → lookup (nat_eq o) (queues_by os rows) ≡ Some q → IsTrue b ↔ HasWriterFrom q p
  writer-by p b none some q h =
      told (λ r. IsTrue b ↔ HasWriterFrom r p) os rows o q h
      (λ n. subst (λ t. IsTrue t ↔ HasWriterFrom no_queue p) (sym (none n))
      (λ t. absurd (false≢true t), λ w. absurd (w.3 (none-without.counts true w.0 w.2)))) some

  -- a number that is not noted has no row to read
  pub unnoted : {R : Type 0} → is_open open_flags o ≡ false → (r : Queue)
      → lookup (nat_eq o) rows ≡ Some r → R
  unnoted n r e =
      absurd (none_some (lookup (nat_eq o) rows) r
      (unnoted-none os rows spare open_flags len o a n) e)

  pub len-by : unwrap_or (option_map (λ q. q.len) (lookup (nat_eq o) rows)) 0
      ≡ unwrap_or (option_map (λ q. q.len) (lookup (nat_eq o) (queues_by os rows))) 0
  len-by =
      go (lookup (nat_eq o) rows) (is_listed o os) refl refl
      ∙ sym (ap (λ f. unwrap_or (option_map (λ q. q.len) f) 0) (lookup-by os rows o))
    where
      go : (f : Option Queue) (b : Bool) → lookup (nat_eq o) rows ≡ f → is_listed o os ≡ b
          → unwrap_or (option_map (λ q. q.len) (lookup (nat_eq o) rows)) 0
          ≡ unwrap_or (option_map (λ q. q.len)
          (cond (is_listed o os) (Some (queue_at rows o)) None)) 0
      go None true e t = rw (e, t) refl
      go None false e t = rw (e, t) refl
      go (Some r) true e t = rw (e, t) refl
      go (Some r) false e t =
          let there = listed-lookup o rows ∙ ap is_some e in
          absurd (false≢true (sym t ∙ a.is_queue o there))

-- what holds for a queue holds for its row
pub row-if : (P : Queue → Type 0) (os : List ℕ) (rows rows' qs : List (ℕ × Queue)) (o : ℕ)
    → is_listed o os ≡ true → queues_by os rows ≡ qs → IfSome (lookup (nat_eq o) qs) P
    → queue_at rows' o ≡ queue_at rows o → IfSome (lookup (nat_eq o) rows') P
row-if P os rows rows' qs o is_queue view h same =
    some-if P (lookup (nat_eq o) rows') (λ r e.
    let at : queue_at rows' o ≡ r = ap (λ f. unwrap_or f no_queue) e in
    subst P (sym same ∙ at)
    (told-row P os rows o is_queue (subst (λ xs. IfSome (lookup (nat_eq o) xs) P) (sym view) h)))

-- the chains of a queue are those of its row
pub row-of : (os : List ℕ) (rows rows' : List (ℕ × Queue)) (o : ℕ) (q : Queue)
    → IsSome (lookup (nat_eq o) rows') → queue_at rows' o ≡ queue_at rows o
    → lookup (nat_eq o) (queues_by os rows) ≡ Some q → lookup (nat_eq o) rows' ≡ Some q
row-of os rows rows' o q there same h =
    let r = is-listed rows' o (listed-lookup o rows' ∙ there) in
    let at : queue_at rows' o ≡ r.0 = ap (λ f. unwrap_or f no_queue) r.1 in
    r.1 ∙ ap Some (sym at ∙ (same ∙ said-by os rows o q h))

-- a queue with a waiter has a row
pub row-waits : (os : List ℕ) (rows qs : List (ℕ × Queue)) (o : ℕ) → is_listed o os ≡ true
    → queues_by os rows ≡ qs → IfSome (lookup (nat_eq o) qs) (λ q. 1 ≤ q.len)
    → IsSome (lookup (nat_eq o) rows)
row-waits os rows qs o is_queue view h = go (lookup (nat_eq o) rows) refl
  where
    some : 1 ≤ (queue_at rows o).len
    some =
        told-row (λ q. 1 ≤ q.len) os rows o is_queue
        (subst (λ xs. IfSome (lookup (nat_eq o) xs) (λ q. 1 ≤ q.len)) (sym view) h)

    go : (f : Option Queue) → lookup (nat_eq o) rows ≡ f → IsSome (lookup (nat_eq o) rows)
    go (Some r) e = ap is_some e
    go None e =
        let no : 1 ≤ 0 = subst (λ f. 1 ≤ (unwrap_or f no_queue).len) e some in
        absurd (omega (arith, no))

-- adding a number that is listed already changes nothing
pub open-more : (rows : List (ℕ × Queue)) (o x : ℕ) → is_listed o (numbers rows) ≡ true
    → is_listed x (numbers rows) ≡ (is_listed x (numbers rows) || (o == x))
open-more rows o x there = go (is_listed x (numbers rows)) (o == x) refl refl
  where
    go : (b t : Bool) → is_listed x (numbers rows) ≡ b → (o == x) ≡ t → b ≡ (b || t)
    go true t p q = refl
    go false false p q = refl
    go false true p q =
        let same : o ≡ x = grind (arith, nat_tests) in
        absurd (false≢true (sym p ∙ (ap (λ n. is_listed n (numbers rows)) (sym same) ∙ there)))

pub equal-most : (m n : ℕ) → n ≡ m → m ≤ n
equal-most m n e = omega (arith, e)

-- a number that had a row still has one
pub set-there : (rows rows' : List (ℕ × Queue)) (o : ℕ) → numbers rows' ≡ numbers rows
    → IsSome (lookup (nat_eq o) rows) → IsSome (lookup (nat_eq o) rows')
set-there rows rows' o same there =
    sym (listed-lookup o rows')
    ∙ (ap (is_listed o) same ∙ (listed-lookup o rows ∙ there))

-- taking away a row that does not exist changes nothing
pub closed-none : (rows : List (ℕ × Queue)) (o x : ℕ) → lookup (nat_eq o) rows ≡ None
    → lookup (nat_eq x) rows ≡ cond (o == x) None (lookup (nat_eq x) rows)
closed-none rows o x none = go (o == x) refl
  where
    go : (b : Bool) → (o == x) ≡ b
        → lookup (nat_eq x) rows ≡ cond b None (lookup (nat_eq x) rows)
    go true t =
        let same : x ≡ o = grind (arith, nat_tests) in
        ap (λ n. lookup (nat_eq n) rows) same ∙ none
    go false t = refl
