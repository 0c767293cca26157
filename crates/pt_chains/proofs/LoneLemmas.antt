-- A queue with one chain, which is not put into the queue's box until a waiter of another chain
-- comes.
use Rattle.std.proofs.Common.{◌≡◌, ◌≢◌, ℕ, ◌==◌, ◌+◌, ◌-◌, ◌≤◌, ◌<◌, Bool, true, false, cond, ◌&&◌}
use Rattle.std.proofs.Common.{not, Option, Some, None, is_some, slice_index_or, inl, inr}
use Rattle.std.proofs.Common.{refl, sym, ap, ◌∙◌, subst, arith, replicate, set}
use Rattle.std.specs.Prelude.{◌⊎◌, slice_index}
use Rattle.std.proofs.lemmas.Bool.Decides.{nat_tests}
use Rattle.std.proofs.lemmas.Grind.{get_or-set_at}
use Rattle.std.proofs.lemmas.List.{get_or-replicate, get_or-set_other, length-replicate}
use Rattle.pt_types.specs.KeyOrder.{kind_rank}
use Rattle.pt_types.specs.Limits.{max_priority}
use Rattle.pt_chains.specs.declared.sides.Side.{Side}
use Rattle.pt_chains.specs.declared.sides.Queue.{Queue}
use Rattle.pt_chains.specs.Chains.{side_of, HasNone, IsSameChain, IsAppended, IsUnlinked}
use Rattle.pt_chains.specs.Chains.{IsFirst, IsFirstChain}
use Rattle.pt_chains.specs.Boxes.{no_queue, lone_queue, IsNoChain, IsLone, IsSame}
use Rattle.pt_chains.proofs.BoxLemmas.{none-without}

either : (k l : Bool) → (k ≡ l) ⊎ (k ≡ not l)
either true true = inl refl
either true false = inr refl
either false true = inr refl
either false false = inl refl

self : (p : ℕ) → (p == p) ≡ true
self p = grind (arith, nat_tests)

and-true : (t : Bool) → (t && true) ≡ t
and-true true = refl
and-true false = refl

off-set : {X : Type 0} (p i : ℕ) (x d : X) → p < max_priority → i < max_priority
    → slice_index_or (set (replicate max_priority d) p x) i d ≡ cond (p == i) x d
off-set p i x d within lt = go (p == i) refl
  where
    go : (t : Bool) → (p == i) ≡ t
        → slice_index_or (set (replicate max_priority d) p x) i d ≡ cond t x d
    go true e =
        get_or-set_at (replicate max_priority d) p i x d (grind (arith, nat_tests))
        (subst (λ m. p < m) (sym (length-replicate max_priority d)) within)
    go false e =
        get_or-set_other (replicate max_priority d) p i x d
        (λ s. absurd (grind (arith, nat_tests)))
        ∙ get_or-replicate max_priority i d d lt

none-at : (k : Bool) (i : ℕ) → i < max_priority → IsNoChain (side_of k no_queue) i
none-at k i lt =
    record {
      count = none-without.counts k i lt;
      tail = none-without.tails k i lt;
      head = none-without.heads k i lt;
    }

and-false : (t : Bool) → (t && false) ≡ false
and-false true = refl
and-false false = refl

pub lone-queue : (k : Bool) (p n : ℕ) (head tail : Option ℕ) → p < max_priority
    → IsLone k p head tail n (lone_queue head tail n k p)
lone-queue true p n head tail within =
    record {
      len = refl;
      count = λ i lt. off-set p i n 0 within lt;
      tail = λ i lt. off-set p i tail None within lt;
      head = λ i lt. off-set p i head None within lt;
      other = λ i lt. none-at false i lt;
    }
lone-queue false p n head tail within =
    record {
      len = refl;
      count = λ i lt. off-set p i n 0 within lt;
      tail = λ i lt. off-set p i tail None within lt;
      head = λ i lt. off-set p i head None within lt;
      other = λ i lt. none-at true i lt;
    }

-- a chain that an empty queue was given
pub set-lone : (k : Bool) (p n : ℕ) (head tail : Option ℕ) (old new : Queue) → HasNone old
    → new.len ≡ n
    → side_of (not k) new ≡ side_of (not k) old
    → ((i : ℕ) → i < max_priority → slice_index (side_of k new).counts i
    ≡ cond (p == i) n (slice_index (side_of k old).counts i))
    → ((i : ℕ) → i < max_priority → slice_index_or (side_of k new).tails i None
    ≡ cond (p == i) tail (slice_index_or (side_of k old).tails i None))
    → ((i : ℕ) → i < max_priority → slice_index_or (side_of k new).heads i None
    ≡ cond (p == i) head (slice_index_or (side_of k old).heads i None))
    → IsLone k p head tail n new
set-lone k p n head tail old new none len other counts tails heads =
    record {
      len = len;
      count = λ i lt. counts i lt ∙ ap (λ x. cond (p == i) n x) (none.counts k i lt);
      tail = λ i lt. tails i lt ∙ ap (λ x. cond (p == i) tail x) (none.tails k i lt);
      head = λ i lt. heads i lt ∙ ap (λ x. cond (p == i) head x) (none.heads k i lt);
      other = λ i lt.
          record {
            count = ap (λ (s : Side). slice_index s.counts i) other ∙ none.counts (not k) i lt;
            tail = ap (λ (s : Side). slice_index_or s.tails i None) other
                ∙ none.tails (not k) i lt;
            head = ap (λ (s : Side). slice_index_or s.heads i None) other
                ∙ none.heads (not k) i lt;
          };
    }

pub both-lone : (k : Bool) (p n : ℕ) (head tail : Option ℕ) (a b : Queue)
    → IsLone k p head tail n a → IsLone k p head tail n b → IsSame a b
both-lone k p n head tail a b x y =
    record { len = y.len ∙ sym x.len; chains = λ l i lt. go l i lt (either l k) }
  where
    go : (l : Bool) (i : ℕ) → i < max_priority → (l ≡ k) ⊎ (l ≡ not k)
        → IsSameChain (side_of l a) (side_of l b) i
    go l i lt (inl e) =
        subst (λ m. IsSameChain (side_of m a) (side_of m b) i) (sym e)
        (record {
          count = y.count i lt ∙ sym (x.count i lt);
          tail = y.tail i lt ∙ sym (x.tail i lt);
          head = y.head i lt ∙ sym (x.head i lt);
        })
    go l i lt (inr e) =
        subst (λ m. IsSameChain (side_of m a) (side_of m b) i) (sym e)
        (record {
          count = (y.other i lt).count ∙ sym (x.other i lt).count;
          tail = (y.other i lt).tail ∙ sym (x.other i lt).tail;
          head = (y.other i lt).head ∙ sym (x.other i lt).head;
        })

-- a node that is put into a queue with no box waits there alone
pub put-first : (k : Bool) (p n : ℕ) → p < max_priority
    → IsAppended k p n None no_queue (lone_queue (Some n) (Some n) 1 k p)
put-first k p n within =
    let is = lone-queue k p 1 (Some n) (Some n) within in
    record {
      len = refl;
      other = λ i lt. let s = is.other i lt in
          record {
            count = s.count ∙ sym (none-without.counts (not k) i lt);
            tail = s.tail ∙ sym (none-without.tails (not k) i lt);
            head = s.head ∙ sym (none-without.heads (not k) i lt);
          };
      last = sym (none-without.tails k p within);
      counts = λ i lt.
          is.count i lt
          ∙ sym (ap (λ x. cond (p == i) (x + 1) (slice_index (side_of k no_queue).counts i))
          (none-without.counts k p within)
          ∙ ap (λ x. cond (p == i) 1 x) (none-without.counts k i lt));
      tails = λ i lt.
          is.tail i lt
          ∙ sym (ap (λ x. cond (p == i) (Some n) x) (none-without.tails k i lt));
      heads = λ i lt.
          is.head i lt
          ∙ sym (ap (λ x. cond ((p == i) && not (is_some x)) (Some n)
          (slice_index_or (side_of k no_queue).heads i None)) (none-without.tails k p within)
          ∙ (ap (λ t. cond t (Some n) (slice_index_or (side_of k no_queue).heads i None))
          (and-true (p == i))
          ∙ ap (λ x. cond (p == i) (Some n) x) (none-without.heads k i lt)));
    }

module _ (k : Bool) (p n : ℕ) (old box new : Queue) (within : p < max_priority)
    (same : IsSame old box) where
  at : (l : Bool) (i : ℕ) → i < max_priority → IsSameChain (side_of l old) (side_of l box) i
  at = same.chains

  -- what is put into a queue's box is put into the queue
  pub put-same : (tail : Option ℕ) → IsAppended k p n tail box new → IsAppended k p n tail old new
  put-same tail put =
      record {
        len = put.len ∙ ap (λ m. m + 1) same.len;
        other = λ i lt. let s = put.other i lt in
            record {
              count = s.count ∙ (at (not k) i lt).count;
              tail = s.tail ∙ (at (not k) i lt).tail;
              head = s.head ∙ (at (not k) i lt).head;
            };
        last = put.last ∙ (at k p within).tail;
        counts = λ i lt.
            put.counts i lt
            ∙ (ap (λ x. cond (p == i) (x + 1) (slice_index (side_of k box).counts i))
            (at k p within).count
            ∙ ap (λ x. cond (p == i) (slice_index (side_of k old).counts p + 1) x)
            (at k i lt).count);
        tails = λ i lt.
            put.tails i lt ∙ ap (λ x. cond (p == i) (Some n) x) (at k i lt).tail;
        heads = λ i lt.
            put.heads i lt
            ∙ (ap (λ x. cond ((p == i) && not (is_some x)) (Some n)
            (slice_index_or (side_of k box).heads i None)) (at k p within).tail
            ∙ ap (λ x. cond ((p == i)
            && not (is_some (slice_index_or (side_of k old).tails p None))) (Some n) x)
            (at k i lt).head);
      }

  -- what is taken out of a queue's box is taken out of the queue
  pub taken-same : (before next : Option ℕ) → IsUnlinked k p before next box new
      → IsUnlinked k p before next old new
  taken-same before next taken =
      record {
        len = taken.len ∙ same.len;
        other = λ i lt. let s = taken.other i lt in
            record {
              count = s.count ∙ (at (not k) i lt).count;
              tail = s.tail ∙ (at (not k) i lt).tail;
              head = s.head ∙ (at (not k) i lt).head;
            };
        counts = λ i lt.
            taken.counts i lt
            ∙ (ap (λ x. cond (p == i) (x - 1) (slice_index (side_of k box).counts i))
            (at k p within).count
            ∙ ap (λ x. cond (p == i) (slice_index (side_of k old).counts p - 1) x)
            (at k i lt).count);
        tails = λ i lt.
            taken.tails i lt
            ∙ ap (λ x. cond ((p == i) && not (is_some next)) before x) (at k i lt).tail;
        heads = λ i lt.
            taken.heads i lt
            ∙ ap (λ x. cond ((p == i) && not (is_some before)) next x) (at k i lt).head;
      }

module _ (k : Bool) (p n : ℕ) (head tail : Option ℕ) (q : Queue) (within : p < max_priority)
    (is : IsLone k p head tail n q) where
  pub own-count : slice_index (side_of k q).counts p ≡ n
  own-count = is.count p within ∙ ap (λ t. cond t n 0) (self p)

  pub own-head : slice_index_or (side_of k q).heads p None ≡ head
  own-head = is.head p within ∙ ap (λ t. cond t head None) (self p)

  own-tail : slice_index_or (side_of k q).tails p None ≡ tail
  own-tail = is.tail p within ∙ ap (λ t. cond t tail None) (self p)

  pub disjoint : (i : ℕ) → i < max_priority → p ≢ i → slice_index (side_of k q).counts i ≡ 0
  disjoint i lt off = go (p == i) refl (is.count i lt)
    where
      go : (t : Bool) → (p == i) ≡ t → slice_index (side_of k q).counts i ≡ cond t n 0
          → slice_index (side_of k q).counts i ≡ 0
      go true e h = absurd (off (grind (arith, nat_tests)))
      go false e h = h

  -- the chain of each waiter is the lone one
  pub stands-lone : (w : Bool) (i : ℕ) → i < max_priority
      → 1 ≤ slice_index (side_of w q).counts i → (w ≡ k) × (i ≡ p)
  stands-lone w i lt some = go (either w k)
    where
      here : (t : Bool) → (p == i) ≡ t → w ≡ k
          → slice_index (side_of k q).counts i ≡ cond t n 0 → (w ≡ k) × (i ≡ p)
      here true e s c = (s, grind (arith, nat_tests))
      here false e s c =
          let some' = subst (λ m. 1 ≤ slice_index (side_of m q).counts i) s some in
          absurd (omega (arith, some', c))

      go : (w ≡ k) ⊎ (w ≡ not k) → (w ≡ k) × (i ≡ p)
      go (inl e) = here (p == i) refl e (is.count i lt)
      go (inr e) =
          let some' = subst (λ m. 1 ≤ slice_index (side_of m q).counts i) e some in
          let none = (is.other i lt).count in
          absurd (omega (arith, some', none))

  -- the only waiter is taken out of a queue whose box is empty
  pub taken-lone : n ≡ 1 → (box : Queue) → HasNone box → IsUnlinked k p None None q box
  taken-lone one box none =
      record {
        len = ap (λ m. m + 1) none.len ∙ sym (is.len ∙ one);
        other = λ i lt. let s = is.other i lt in
            record {
              count = none.counts (not k) i lt ∙ sym s.count;
              tail = none.tails (not k) i lt ∙ sym s.tail;
              head = none.heads (not k) i lt ∙ sym s.head;
            };
        counts = λ i lt. none.counts k i lt ∙ sym (counts i lt (p == i) refl);
        tails = λ i lt. none.tails k i lt ∙ sym (ends tail i (p == i) refl _ (is.tail i lt));
        heads = λ i lt. none.heads k i lt ∙ sym (ends head i (p == i) refl _ (is.head i lt));
      }
    where
      counts : (i : ℕ) → i < max_priority → (t : Bool) → (p == i) ≡ t
          → cond t (slice_index (side_of k q).counts p - 1) (slice_index (side_of k q).counts i)
          ≡ 0
      counts i lt true e = ap (λ m. m - 1) (own-count ∙ one)
      counts i lt false e = is.count i lt ∙ ap (λ t. cond t n 0) e

      ends : (end : Option ℕ) (i : ℕ) (t : Bool) → (p == i) ≡ t → (o : Option ℕ)
          → o ≡ cond (p == i) end None → cond (t && true) None o ≡ None
      ends end i true e o h = refl
      ends end i false e o h = h ∙ ap (λ t. cond t end None) e

  -- one of several waiters is taken out of the chain
  pub taken-more : (before next : Option ℕ) → n ≢ 0
      → IsUnlinked k p before next q (lone_queue (cond (is_some before) head next)
      (cond (is_some next) tail before) (n - 1) k p)
  taken-more before next some =
      record {
        len = omega (arith, some, is.len);
        other = λ i lt. let s = is.other i lt in let t = left.other i lt in
            record {
              count = t.count ∙ sym s.count;
              tail = t.tail ∙ sym s.tail;
              head = t.head ∙ sym s.head;
            };
        counts = λ i lt. left.count i lt ∙ counts i lt (p == i) refl;
        tails = λ i lt. left.tail i lt ∙ ends tail before next (p == i) _ (is.tail i lt);
        heads = λ i lt. left.head i lt ∙ ends head next before (p == i) _ (is.head i lt);
      }
    where
      left : IsLone k p (cond (is_some before) head next) (cond (is_some next) tail before)
          (n - 1)
          (lone_queue (cond (is_some before) head next) (cond (is_some next) tail before)
          (n - 1) k p)
      left = lone-queue k p (n - 1) _ _ within

      counts : (i : ℕ) → i < max_priority → (t : Bool) → (p == i) ≡ t
          → cond t (n - 1) 0
          ≡ cond t (slice_index (side_of k q).counts p - 1) (slice_index (side_of k q).counts i)
      counts i lt true e = ap (λ m. m - 1) (sym own-count)
      counts i lt false e = sym (is.count i lt ∙ ap (λ t. cond t n 0) e)

      ends : (end far near : Option ℕ) (t : Bool) (o : Option ℕ) → o ≡ cond t end None
          → cond t (cond (is_some near) end far) None ≡ cond (t && not (is_some near)) far o
      ends end far None true o h = refl
      ends end far (Some m) true o h = sym h
      ends end far None false o h = sym h
      ends end far (Some m) false o h = sym h

  -- a node is put at the end of the chain
  pub put-more : (m t : ℕ) → tail ≡ Some t
      → IsAppended k p m tail q (lone_queue head (Some m) (n + 1) k p)
  put-more m t there =
      record {
        len = ap (λ x. x + 1) (sym is.len);
        other = λ i lt. let s = is.other i lt in let u = more.other i lt in
            record {
              count = u.count ∙ sym s.count;
              tail = u.tail ∙ sym s.tail;
              head = u.head ∙ sym s.head;
            };
        last = sym own-tail;
        counts = λ i lt. more.count i lt ∙ counts i lt (p == i) refl;
        tails = λ i lt. more.tail i lt ∙ tails (p == i) _ (is.tail i lt);
        heads = λ i lt.
            more.head i lt
            ∙ sym (ap (λ x. cond ((p == i) && not (is_some x)) (Some m)
            (slice_index_or (side_of k q).heads i None)) (own-tail ∙ there)
            ∙ (ap (λ b. cond b (Some m) (slice_index_or (side_of k q).heads i None))
            (and-false (p == i))
            ∙ is.head i lt));
      }
    where
      more : IsLone k p head (Some m) (n + 1) (lone_queue head (Some m) (n + 1) k p)
      more = lone-queue k p (n + 1) head (Some m) within

      counts : (i : ℕ) → i < max_priority → (b : Bool) → (p == i) ≡ b
          → cond b (n + 1) 0
          ≡ cond b (slice_index (side_of k q).counts p + 1) (slice_index (side_of k q).counts i)
      counts i lt true e = ap (λ x. x + 1) (sym own-count)
      counts i lt false e = sym (is.count i lt ∙ ap (λ b. cond b n 0) e)

      tails : (b : Bool) (o : Option ℕ) → o ≡ cond b tail None
          → cond b (Some m) None ≡ cond b (Some m) o
      tails true o h = refl
      tails false o h = sym h

  pub first-lone : n ≢ 0 → IsFirst q head
  first-lone waits = inl (k, p, chain, sym own-head)
    where
      chain : IsFirstChain q k p
      chain =
          record {
            within = within;
            some = λ z. waits (sym own-count ∙ z);
            above = λ l i lt up. above l i lt up (either l k);
            beside = λ l lower. beside l lower (either l k);
          }
        where
          above : (l : Bool) (i : ℕ) → i < max_priority → p < i → (l ≡ k) ⊎ (l ≡ not k)
              → slice_index (side_of l q).counts i ≡ 0
          above l i lt up (inl e) =
              subst (λ m. slice_index (side_of m q).counts i ≡ 0) (sym e)
              (disjoint i lt (λ s. omega (arith, up, s)))
          above l i lt up (inr e) =
              subst (λ m. slice_index (side_of m q).counts i ≡ 0) (sym e) (is.other i lt).count

          beside : (l : Bool) → kind_rank l < kind_rank k → (l ≡ k) ⊎ (l ≡ not k)
              → slice_index (side_of l q).counts p ≡ 0
          beside l lower (inl e) =
              let same = ap kind_rank e in absurd (omega (arith, lower, same))
          beside l lower (inr e) =
              subst (λ m. slice_index (side_of m q).counts p ≡ 0) (sym e) (is.other p within).count
