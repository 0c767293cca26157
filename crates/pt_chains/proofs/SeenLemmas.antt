-- What is seen of a queue from its box, and from its lone chain if that is not in the box.
use Rattle.std.proofs.Common.{◌≡◌, ℕ, ◌≤◌, ◌<◌, Bool, true, false, Option, Some, None, is_some}
use Rattle.std.proofs.Common.{◌≢◌, ◌+◌, ◌-◌, ◌||◌, cond, inr, refl, sym, ap, ◌∙◌, subst, arith}
use Rattle.std.specs.Prelude.{◌↔◌, slice_index, unwrap_or, IfSome, IsSome, IsTrue}
use Rattle.std.specs.Prelude.{MatchOption}
use Rattle.std.specs.Option.{option_map}
use Rattle.std.proofs.lemmas.Bool.{false≢true}
use Rattle.pt_types.specs.Limits.{max_priority}
use Rattle.pt_chains.specs.declared.sides.Queue.{Queue}
use Rattle.pt_chains.specs.Chains.{side_of, HasNone, IsAppended, IsUnlinked, IsFirst, IsFirstWriter}
use Rattle.pt_chains.specs.Chains.{HasWriterFrom}
use Rattle.pt_chains.specs.Boxes.{no_queue, lone_queue, queue_by, IsBoxRule, IsLone, IsEmptied}
use Rattle.pt_chains.proofs.BoxLemmas.{none-without}
use Rattle.pt_chains.proofs.LoneLemmas.{lone-queue, own-count, stands-lone, taken-lone}
use Rattle.pt_chains.proofs.LoneLemmas.{taken-more, put-more}

some-less : (n : ℕ) → n ≢ 0 → n ≢ 1 → n - 1 ≢ 0
some-less n waits more z = omega (arith, z, waits, more)

pub one-least : (n : ℕ) → n ≢ 0 → 1 ≤ n
one-least n waits = omega (arith, waits)

module _ {X : Type 0} (f : X → Queue) (o : Option X) (head tail : Option ℕ) (n : ℕ) (k : Bool)
    (p : ℕ) (queue : Queue) (view : queue_by (option_map f o) head tail n k p ≡ queue)
    (kept : IsBoxRule (option_map f o) head tail n p) where
  kept-as : (h : Option ℕ) → head ≡ h → IsBoxRule (option_map f o) h tail n p
  kept-as h e = subst (λ m. IsBoxRule (option_map f o) m tail n p) e kept

  seen-as : (h : Option ℕ) → head ≡ h → queue_by (option_map f o) h tail n k p ≡ queue
  seen-as h e = ap (λ m. queue_by (option_map f o) m tail n k p) (sym e) ∙ view

  pub some-lone : is_some head ≡ true → (h : ℕ) × (head ≡ Some h)
  some-lone some = go head refl
    where
      go : (l : Option ℕ) → head ≡ l → (h : ℕ) × (head ≡ Some h)
      go None e = absurd (false≢true (sym (ap is_some e) ∙ some))
      go (Some h) e = (h, e)

  pub lone-within : is_some head ≡ true → p < max_priority
  lone-within some = let h = some-lone some in (kept-as (Some h.0) h.1).0

  pub lone-waits : is_some head ≡ true → n ≢ 0
  lone-waits some = let h = some-lone some in (kept-as (Some h.0) h.1).1

  pub seen-lone : is_some head ≡ true → IsLone k p head tail n queue
  seen-lone some =
      let h = some-lone some in
      subst (λ m. IsLone k p m tail n queue) (sym h.1)
      (subst (IsLone k p (Some h.0) tail n) (seen-as (Some h.0) h.1)
      (lone-queue k p n (Some h.0) tail (lone-within some)))

  -- a queue without a box is empty
  pub unboxed : is_some o ≡ false → no_queue ≡ queue
  unboxed none = go o refl head refl
    where
      go : (b : Option X) → o ≡ b → (l : Option ℕ) → head ≡ l → no_queue ≡ queue
      go (Some b) e l d = absurd (false≢true (sym none ∙ ap is_some e))
      go None e None d =
          ap (λ x. unwrap_or (option_map f x) no_queue) (sym e) ∙ seen-as None d
      go None e (Some h) d =
          absurd (subst (λ x. MatchOption (option_map f x) ⊥ HasNone) e (kept-as (Some h) d).3)

  -- without a lone chain, what is seen is in the box
  pub seen-boxed : is_some head ≡ false → (b : X) → o ≡ Some b → f b ≡ queue
  seen-boxed none b is = go head refl
    where
      go : (l : Option ℕ) → head ≡ l → f b ≡ queue
      go (Some h) d = absurd (false≢true (sym none ∙ ap is_some d))
      go None d =
          ap (λ x. unwrap_or (option_map f x) no_queue) (sym is) ∙ seen-as None d

  pub boxed-waits : is_some head ≡ false → (b : X) → o ≡ Some b → (f b).len ≢ 0
  boxed-waits none b is = go head refl
    where
      go : (l : Option ℕ) → head ≡ l → (f b).len ≢ 0
      go (Some h) d = absurd (false≢true (sym none ∙ ap is_some d))
      go None d = subst (λ x. IfSome (option_map f x) (λ q. q.len ≢ 0)) is (kept-as None d)

  -- a lone chain with another end is still one
  pub kept-lone : (t : Option ℕ) (m : ℕ) → is_some head ≡ true → IsSome t → m ≢ 0
      → IsBoxRule (option_map f o) head t m p
  kept-lone t m some there waits =
      let h = some-lone some in
      let kept = kept-as (Some h.0) h.1 in
      subst (λ l. IsBoxRule (option_map f o) l t m p) (sym h.1) (kept.0, waits, there, kept.3)

  pub none-first : is_some o ≡ false → IsFirst queue None
  none-first none =
      subst (λ q. IsFirst q None) (unboxed none) (inr (λ l i lt. none-without.counts l i lt, refl))

  pub none-first-writer : is_some o ≡ false → IsFirstWriter queue None
  none-first-writer none =
      subst (λ q. IsFirstWriter q None) (unboxed none)
      (inr (λ i lt. none-without.counts true i lt, refl))

  pub no-writer-from : is_some o ≡ false → (r : ℕ) → IsTrue false ↔ HasWriterFrom queue r
  no-writer-from none r =
      subst (λ q. IsTrue false ↔ HasWriterFrom q r) (unboxed none)
      (λ t. absurd (false≢true t), λ w. absurd (w.3 (none-without.counts true w.0 w.2)))

  -- a node is put at the end of the lone chain
  pub lone-put : (w : Bool) (i m : ℕ) → is_some head ≡ true → w ≡ k → i ≡ p
      → IsAppended w i m tail queue (queue_by (option_map f o) head (Some m) (n + 1) k p)
  lone-put w i m some kind level =
      let h = some-lone some in
      subst (λ l. IsAppended l i m tail queue (queue_by (option_map f o) head (Some m) (n + 1) k p))
      (sym kind)
      (subst (λ j. IsAppended k j m tail queue (queue_by (option_map f o) head (Some m)
      (n + 1) k p))
      (sym level)
      (subst (λ x. IsAppended k p m tail queue (queue_by (option_map f o) x (Some m) (n + 1) k p))
      (sym h.1)
      (subst (λ x. IsAppended k p m tail queue (lone_queue x (Some m) (n + 1) k p)) h.1
      (go tail refl (kept-as (Some h.0) h.1).2))))
    where
      go : (t : Option ℕ) → tail ≡ t → IsSome t
          → IsAppended k p m tail queue (lone_queue head (Some m) (n + 1) k p)
      go None e there = absurd (false≢true there)
      go (Some t) e there =
          put-more k p n head tail queue (lone-within some) (seen-lone some) m t e

  pub lone-count : (w : Bool) (i : ℕ) → is_some head ≡ true → w ≡ k → i ≡ p
      → slice_index (side_of w queue).counts i ≡ n
  lone-count w i some kind level =
      let is = seen-lone some in
      let within = lone-within some in
      ap (λ l. slice_index (side_of l queue).counts i) kind
      ∙ (ap (slice_index (side_of k queue).counts) level
      ∙ own-count k p n head tail queue within is)

  -- the last waiter is taken out of the lone chain
  pub lone-emptied : (w : Bool) (i : ℕ) (before next : Option ℕ) → i < max_priority
      → is_some head ≡ true → n ≡ 1 → is_some before ≡ false → is_some next ≡ false
      → 1 ≤ slice_index (side_of w queue).counts i
      → IsEmptied w i before next queue no_queue (option_map f o)
  lone-emptied w i before next lt some one first last stands =
      go (option_map f o) (kept-as (Some alone.0) alone.1).3
    where
      alone : (h : ℕ) × (head ≡ Some h)
      alone = some-lone some

      chain : (w ≡ k) × (i ≡ p)
      chain = stands-lone k p n head tail queue (lone-within some) (seen-lone some) w i lt stands

      none : (x : Option ℕ) → is_some x ≡ false → None ≡ x
      none None e = refl
      none (Some n) e = absurd (false≢true (sym e))

      taken : (q : Queue) → HasNone q → IsUnlinked w i before next queue q
      taken q empty =
          subst (λ l. IsUnlinked l i before next queue q) (sym chain.0)
          (subst (λ j. IsUnlinked k j before next queue q) (sym chain.1)
          (subst (λ x. IsUnlinked k p x next queue q) (none before first)
          (subst (λ x. IsUnlinked k p None x queue q) (none next last)
          (taken-lone k p n head tail queue (lone-within some) (seen-lone some) one q empty))))

      go : (b : Option Queue) → MatchOption b ⊥ HasNone
          → IsEmptied w i before next queue no_queue b
      go None empty = absurd empty
      go (Some q) empty =
          record { taken = taken q empty; emptied = (empty.len, refl); left = tt }

  -- one of several waiters is taken out of the lone chain
  module _ (w : Bool) (i : ℕ) (before next : Option ℕ) (lt : i < max_priority)
      (some : is_some head ≡ true) (more : n ≢ 1)
      (beside : (is_some before || is_some next) ≡ true)
      (stands : 1 ≤ slice_index (side_of w queue).counts i) where
    abbrev new_head : Option ℕ
    new_head = cond (is_some before) head next

    abbrev new_tail : Option ℕ
    new_tail = cond (is_some next) tail before

    alone : (h : ℕ) × (head ≡ Some h)
    alone = some-lone some

    head-there : (h : ℕ) × (new_head ≡ Some h)
    head-there = go before next beside
      where
        go : (b x : Option ℕ) → (is_some b || is_some x) ≡ true
            → (h : ℕ) × (cond (is_some b) head x ≡ Some h)
        go None None e = absurd (false≢true e)
        go None (Some m) e = (m, refl)
        go (Some m) x e = alone

    tail-there : IsSome new_tail
    tail-there = go before next beside (kept-as (Some alone.0) alone.1).2
      where
        go : (b x : Option ℕ) → (is_some b || is_some x) ≡ true → IsSome tail
            → IsSome (cond (is_some x) tail b)
        go None None e t = absurd (false≢true e)
        go (Some m) None e t = refl
        go b (Some m) e t = t

    pub kept-less : IsBoxRule (option_map f o) new_head new_tail (n - 1) p
    kept-less =
        let kept = kept-as (Some alone.0) alone.1 in
        let waits = lone-waits some in
        subst (λ l. IsBoxRule (option_map f o) l new_tail (n - 1) p) (sym head-there.1)
        (kept.0, some-less n waits more, tail-there, kept.3)

    pub lone-less : IsEmptied w i before next queue
        (queue_by (option_map f o) new_head new_tail (n - 1) k p) None
    lone-less =
        subst (λ x. IsEmptied w i before next queue
        (queue_by (option_map f o) x new_tail (n - 1) k p) None) (sym head-there.1)
        (record {
          taken = subst (λ l. IsUnlinked l i before next queue left) (sym chain.0)
              (subst (λ j. IsUnlinked k j before next queue left) (sym chain.1)
              (subst (λ x. IsUnlinked k p before next queue (lone_queue x new_tail (n - 1) k p))
              head-there.1
              (taken-more k p n head tail queue (lone-within some) (seen-lone some) before next
              (lone-waits some))));
          emptied = tt;
          left = λ z. let waits = lone-waits some in omega (arith, z, waits, more);
        })
      where
        left : Queue
        left = lone_queue (Some head-there.0) new_tail (n - 1) k p

        chain : (w ≡ k) × (i ≡ p)
        chain =
            stands-lone k p n head tail queue (lone-within some) (seen-lone some) w i lt stands
