-- There are enough boxes for all waiters, as waiters and clients come and go.
use Rattle.std.proofs.Common.{◌≡◌, ℕ, ◌==◌, ◌+◌, ◌≤◌, ◌<◌, min, Bool, true, false, cond}
use Rattle.std.proofs.Common.{not, List, [], ◌∷◌, ◌++◌, length}
use Rattle.std.proofs.Common.{filter, Option, Some, None, is_some, nat_eq}
use Rattle.std.proofs.Common.{slice_index_or, refl, sym, ap, ◌∙◌, subst, arith}
use Rattle.std.specs.Prelude.{slice_index, IfSome}
use Rattle.std.specs.List.{AllByRecursion as Each}
use Rattle.std.specs.Option.{option_map, option_to_list}
use Rattle.std.specs.Map.{lookup}
use Rattle.std.proofs.lemmas.List.{get_or-replicate}
use Rattle.pt_types.specs.Limits.{max_priority}
use Rattle.pt_waitq.specs.declared.waiter.Waiter.{Waiter}
use Rattle.pt_chains.specs.declared.nodes.Node.{Node}
use Rattle.pt_chains.specs.declared.sides.Queue.{Queue}
use Rattle.pt_waitq.specs.Queues.{In}
use Rattle.pt_waitq.specs.Waits.{is_listed, has_waiter}
use Rattle.pt_chains.specs.Chains.{numbers, side_of, node_index_of, AreChains, HasNone}
use Rattle.pt_chains.specs.Boxes.{no_queue, busy_queue_count, AreBoxes}
use Rattle.pt_chains.proofs.NodeIndexLemmas.{length-more}
use Rattle.pt_chains.proofs.InsertLemmas.{waiters-few}
use Rattle.pt_chains.proofs.StepLemmas.{some-if}
use Rattle.pt_chains.proofs.BusyLemmas.{busy_queue_count-few, busy_queue_count-more, busy_queue_count-fewer, busy_queue_count-made, empty-listed}
use Rattle.pt_chains.proofs.BusyLemmas.{zero-listed}

-- a queue with no box has no waiter
pub none-without : HasNone no_queue
none-without =
    record {
      len = refl;
      counts = λ k p lt. counts k p lt;
      heads = λ k p lt. heads k p lt;
      tails = λ k p lt. tails k p lt;
    }
  where
    counts : (k : Bool) (p : ℕ) → p < max_priority
        → slice_index (side_of k no_queue).counts p ≡ 0
    counts true p lt = get_or-replicate max_priority p 0 0 lt
    counts false p lt = get_or-replicate max_priority p 0 0 lt

    heads : (k : Bool) (p : ℕ) → p < max_priority
        → slice_index_or (side_of k no_queue).heads p None ≡ None
    heads true p lt = get_or-replicate max_priority p None None lt
    heads false p lt = get_or-replicate max_priority p None None lt

    tails : (k : Bool) (p : ℕ) → p < max_priority
        → slice_index_or (side_of k no_queue).tails p None ≡ None
    tails true p lt = get_or-replicate max_priority p None None lt
    tails false p lt = get_or-replicate max_priority p None None lt

pub if-boxed : {X : Type 0} (P : Queue → Type 0) (f : X → Queue) (o : Option X)
    → IfSome (option_map f o) P → IfSome o (λ x. P (f x))
if-boxed P f None h = tt
if-boxed P f (Some x) h = h

pub some-mapped : {X Y : Type 0} (f : X → Y) (o : Option X)
    → is_some (option_map f o) ≡ is_some o
some-mapped f None = refl
some-mapped f (Some x) = refl

-- what is true of each element of a list is true of its last
pub each-last : {X : Type 0} (P : X → Type 0) (xs ys : List X) (o : Option X) (x : X)
    → ys ≡ xs ++ option_to_list o → o ≡ Some x → Each P ys → P x
each-last {X} P xs ys o x is some a =
    go xs (subst (Each P) (is ∙ ap (λ y. xs ++ option_to_list y) some) a)
  where
    go : (zs : List X) → Each P (zs ++ x ∷ []) → P x
    go [] b = b.0
    go (z ∷ zs) b = go zs b.1

module _ (homes : List (ℕ × ℕ)) (nodes : List (Option Node)) (queues : List (ℕ × Queue))
    (es : List (ℕ × Waiter)) (spares room boxes : ℕ) (a : AreChains homes nodes queues es)
    (b : AreBoxes (length homes) (length (numbers queues)) es spares room boxes) where
  -- for a client that waits nowhere, there is a spare box if its queue is empty
  pub spare-there : (c n o : ℕ) → node_index_of homes c ≡ Some n → has_waiter c es ≡ false
      → is_listed o (numbers queues) ≡ true
      → IfSome (lookup (nat_eq o) queues) (λ q. q.len ≡ 0 → 0 < spares)
  spare-there c n o at none is_queue =
      some-if (λ (q : Queue). q.len ≡ 0 → 0 < spares) (lookup (nat_eq o) queues) (λ q h z.
      let bounded = waiters-few homes nodes queues es c n a at none in
      let free = zero-listed o es (sym (a.len o q h) ∙ z) in
      let is_queue = busy_queue_count-made o (numbers queues) es is_queue a.queued.is_queue free in
      let count = b.count in
      let enough = b.enough in
      omega (arith, bounded, is_queue, count, enough, busy_queue_count-few es))

  -- a waiter is put in
  pub boxes-put : (o : ℕ) (w : Waiter) (q : Queue) (objects spares' room' : ℕ)
      → objects ≡ length (numbers queues) → lookup (nat_eq o) queues ≡ Some q
      → spares' + cond (q.len == 0) 1 0 ≡ spares
      → room' ≡ room
      → AreBoxes (length homes) objects (es ++ (o, w) ∷ []) spares' room' boxes
  boxes-put o w q objects spares' room' still at fewer same =
      record {
        count = go (is_listed o (numbers es)) (busy_queue_count-more es (o, w))
            (ap (λ t. spares' + cond t 1 0) (sym empty) ∙ fewer);
        enough = let enough = b.enough in omega (arith, enough, still);
        fit = let fit = b.fit in omega (arith, fit, same);
      }
    where
      empty : (q.len == 0) ≡ not (is_listed o (numbers es))
      empty = ap (λ n. n == 0) (a.len o q at) ∙ empty-listed o es

      more : List (ℕ × Waiter)
      more = es ++ (o, w) ∷ []

      go : (t : Bool) → busy_queue_count more
          ≡ cond t (busy_queue_count es) (busy_queue_count es + 1)
          → spares' + cond (not t) 1 0 ≡ spares → boxes ≡ busy_queue_count more + spares'
      go true e f = let count = b.count in omega (arith, e, f, count)
      go false e f = let count = b.count in omega (arith, e, f, count)

  -- a waiter is taken out
  module _ (o : ℕ) (w : Waiter) (emptied : Bool) (in_es : In (o, w) es)
      (last : emptied
      ≡ not (is_listed o (numbers (filter (λ e. not (e.1.client == w.client)) es)))) where
    abbrev left : List (ℕ × Waiter)
    left = filter (λ e. not (e.1.client == w.client)) es

    was : busy_queue_count es ≡ cond (is_listed o (numbers left)) (busy_queue_count left)
        (busy_queue_count left + 1)
    was = busy_queue_count-fewer w.client (o, w) es a.queued.once in_es refl

    pub room-back : emptied ≡ true → spares < room
    room-back e = go (is_listed o (numbers left)) was (sym e ∙ last)
      where
        go : (t : Bool) → busy_queue_count es
            ≡ cond t (busy_queue_count left) (busy_queue_count left + 1) → true ≡ not t
            → spares < room
        go true f g = absurd (cc g)
        go false f g =
            let count = b.count in
            let fit = b.fit in
            omega (arith, f, count, fit)

    pub boxes-taken : (objects spares' room' : ℕ) → objects ≡ length (numbers queues)
        → spares' ≡ spares + cond emptied 1 0 → room' ≡ room
        → AreBoxes (length homes) objects left spares' room' boxes
    boxes-taken objects spares' room' still more same =
        record {
          count = go (is_listed o (numbers left)) was
              (more ∙ ap (λ t. spares + cond t 1 0) last);
          enough = let enough = b.enough in omega (arith, enough, still);
          fit = let fit = b.fit in omega (arith, fit, same);
        }
      where
        go : (t : Bool) → busy_queue_count es
            ≡ cond t (busy_queue_count left) (busy_queue_count left + 1)
            → spares' ≡ spares + cond (not t) 1 0 → boxes ≡ busy_queue_count left + spares'
        go true f g = let count = b.count in omega (arith, f, g, count)
        go false f g = let count = b.count in omega (arith, f, g, count)

pub length-made : (b : Bool) (old new : List ℕ) (o : ℕ) → new ≡ cond b (old ++ o ∷ []) old
    → length new ≤ length old + 1
length-made true old new o e = omega (arith, ap length e, length-more old o)
length-made false old new o e = omega (arith, ap length e)

-- clients and queues come and go
module _ (clients clients' objects objects' : ℕ) (es : List (ℕ × Waiter))
    (spares spares' room room' boxes : ℕ) (b : AreBoxes clients objects es spares room boxes) where
  pub boxes-grown : (boxes' : ℕ) → min clients' objects' ≤ boxes'
      → boxes' + spares ≡ boxes + spares' → boxes' ≤ room'
      → AreBoxes clients' objects' es spares' room' boxes'
  boxes-grown boxes' enough more fit =
      record {
        count = let count = b.count in omega (arith, count, more);
        enough = enough;
        fit = fit;
      }

  pub boxes-kept : clients' ≤ clients → objects' ≤ objects → spares' ≡ spares → room ≤ room'
      → AreBoxes clients' objects' es spares' room' boxes
  boxes-kept fewer less same wider =
      record {
        count = let count = b.count in omega (arith, count, same);
        enough = let enough = b.enough in omega (arith, fewer, less, enough);
        fit = let fit = b.fit in omega (arith, fit, wider);
      }
