-- The keys of a heap, when one is put in or taken away, and its first key.
use Rattle.std.proofs.Common.{◌≡◌, ℕ, ◌<◌, ◌&&◌, ◌||◌, not, Bool, true, false, List, [], ◌∷◌}
use Rattle.std.proofs.Common.{Option, Some, None, length, refl, sym, ap, ◌∙◌, arith, get_or}
use Rattle.std.proofs.lemmas.Bool.{false≢true}
use Rattle.std.proofs.lemmas.Bool.Decides.{nat_tests}
use Rattle.std.proofs.lemmas.List.Sorted.{list_any-IsPermutation}
use Rattle.std.proofs.lemmas.Map.Views.{any-filter_same}
use Rattle.std.specs.BTreeMap.{is_at}
use Rattle.std.specs.BinaryHeap.{IsHeap, IsUpperBound, PopsGreatest}
use Rattle.std.specs.List.{filter}
use Rattle.std.specs.Prelude.{IfNone, IfSome}
use Rattle.std.specs.List.Sorted.{IsPermutation}
use Rattle.pt_types.specs.Times.{pair_before}
use Rattle.pt_timers.specs.declared.key.TimerKey.{TimerKey}
use Rattle.pt_timers.specs.Deadlines.{pair_of, same_key, key_cmp, is_in, is_found, live_keys}
use Rattle.pt_timers.specs.Deadlines.{is_live}
use Rattle.pt_timers.specs.Deadlines.{IsFirstKey}

-- two keys tie in the order if they are of the same deadline and place
pub at-same : (q k : TimerKey) → is_at (key_cmp q) k ≡ same_key k q
at-same q k = grind (arith, nat_tests)

pub same-parts-of : (a b : TimerKey) → same_key a b ≡ true
    → (a.nanos ≡ b.nanos) × (a.place ≡ b.place)
same-parts-of a b e = (grind (arith, nat_tests), grind (arith, nat_tests))

pub same-back : (a b : TimerKey) → same_key a b ≡ same_key b a
same-back a b = grind (arith, nat_tests)

pub same-self : (a : TimerKey) → same_key a a ≡ true
same-self a = grind (arith, nat_tests)

-- equal keys are in the same lists
pub in-same : (ks : List TimerKey) (a b : TimerKey) → same_key a b ≡ true → is_in ks a ≡ is_in ks b
in-same ks a b e =
    let parts = same-parts-of a b e in
    ap (λ n. is_in ks (record { nanos = n; place = a.place; client = 0 })) parts.0
    ∙ ap (λ p. is_in ks (record { nanos = b.nanos; place = p; client = 0 })) parts.1

-- a push of a key
pub put-in : (x : TimerKey) (old new : List TimerKey) → IsPermutation (x ∷ old) new
    → (q : TimerKey) → is_in new q ≡ (same_key x q || is_in old q)
put-in x old new p q =
    sym (list_any-IsPermutation (is_at (key_cmp q)) (x ∷ old) new p)
    ∙ ap (λ b. b || is_in old q) (at-same q x)

-- a pop of a key
pub taken-out : (x : TimerKey) (old new : List TimerKey) → IsPermutation old (x ∷ new)
    → (q : TimerKey) → is_in old q ≡ (same_key x q || is_in new q)
taken-out x old new p q =
    list_any-IsPermutation (is_at (key_cmp q)) old (x ∷ new) p
    ∙ ap (λ b. b || is_in new q) (at-same q x)

-- all keys but one stay
pub others-stay : (key : TimerKey) (old kept new : List TimerKey)
    → kept ≡ filter (λ k. not (same_key k key)) old → IsPermutation kept new
    → (q : TimerKey) → is_in new q ≡ (not (same_key key q) && is_in old q)
others-stay key old kept new is p q =
    sym (list_any-IsPermutation (is_at (key_cmp q)) kept new p)
    ∙ (ap (λ ks. is_in ks q) is
    ∙ any-filter_same (is_at (key_cmp q)) (λ k. not (same_key k key)) (not (same_key key q)) alike
    old)
  where
    alike : (k : TimerKey) → is_at (key_cmp q) k ≡ true
        → not (same_key k key) ≡ not (same_key key q)
    alike k e = ap not (grind (arith, nat_tests))

-- a key is live if it is among the keys and isn't canceled
pub in-live_keys : (keys canceled : List TimerKey) (q : TimerKey)
    → is_in (live_keys keys canceled) q ≡ is_live keys canceled q
in-live_keys keys canceled q =
    any-filter_same (is_at (key_cmp q)) (λ k. not (is_in canceled k)) (not (is_in canceled q)) alike
    keys
  where
    alike : (k : TimerKey) → is_at (key_cmp q) k ≡ true
        → not (is_in canceled k) ≡ not (is_in canceled q)
    alike k e = ap not (in-same canceled k q (sym (at-same q k) ∙ e))

none-in-empty : (ks : List TimerKey) → (0 < length ks → ⊥) → (q : TimerKey) → is_in ks q ≡ false
none-in-empty [] none q = refl
none-in-empty (k ∷ ks) none q = absurd (none (omega arith))

head-in : (ks : List TimerKey) (x : TimerKey) → 0 < length ks → x ≡ get_or ks 0 x
    → is_in ks x ≡ true
head-in [] x some is = absurd (omega (arith, some))
head-in (k ∷ ks) x some is =
    ap (λ b. b || is_in ks x) (at-same x k ∙ (ap (same_key k) is ∙ same-self k))

bound-in : (x : TimerKey) (ks : List TimerKey) → IsUpperBound key_cmp x ks
    → (q : TimerKey) → is_in ks q ≡ true → pair_before (pair_of q) (pair_of x) ≡ false
bound-in x [] bound q h = absurd (false≢true h)
bound-in x (k ∷ ks) bound q h = go (bound-in x ks bound.1 q) (is_at (key_cmp q) k) refl h
  where
    go : (is_in ks q ≡ true → pair_before (pair_of q) (pair_of x) ≡ false)
        → (b : Bool) → is_at (key_cmp q) k ≡ b → (b || is_in ks q) ≡ true
        → pair_before (pair_of q) (pair_of x) ≡ false
    go later true e f = let low = bound.0 in grind (arith, nat_tests)
    go later false e f = later f

-- the head of a heap is its first key
pub head-first : (ks : List TimerKey) (x : TimerKey) → 0 < length ks → x ≡ get_or ks 0 x
    → IsUpperBound key_cmp x ks → IsFirstKey ks (Some x)
head-first ks x some is bound = (head-in ks x some is, bound-in x ks bound)

pub none-first : (ks : List TimerKey) → (0 < length ks → ⊥) → IsFirstKey ks None
none-first ks none q = none-in-empty ks none q

neither-before : (a b : TimerKey) → pair_before (pair_of a) (pair_of b) ≡ false
    → pair_before (pair_of b) (pair_of a) ≡ false → same_key a b ≡ true
neither-before a b e f = grind (arith, nat_tests)

-- there is only one first key
pub one-first : (ks : List TimerKey) (a b : TimerKey) → IsFirstKey ks (Some a)
    → IsFirstKey ks (Some b)
    → same_key a b ≡ true
one-first ks a b f g = neither-before a b (g.1 a f.0) (f.1 b g.0)

same-as : (a b q : TimerKey) → same_key a b ≡ true → same_key a q ≡ same_key b q
same-as a b q e = grind (arith, nat_tests)

-- what a pop says, if the first key is known
module _ (old new : List TimerKey) (first : TimerKey) (n : ℕ) (len : n ≡ length old)
    (top : IsFirstKey old (Some first)) (heap : IsHeap key_cmp old) where
  some-left : n ≡ 0 → ⊥
  some-left none =
      false≢true (sym (none-in-empty old (λ h. omega (arith, h, len, none)) first) ∙ top.0)

  pub popped : (r : Option TimerKey) → IfNone r (n ≡ 0)
      → IfSome r (λ x. IsPermutation old (x ∷ new))
      → IfSome r (λ x. PopsGreatest key_cmp old x new)
      → (q : TimerKey) → is_in old q ≡ (same_key first q || is_in new q)
  popped None none p greatest q = absurd (some-left none)
  popped (Some x) none p greatest q =
      taken-out x old new p q ∙ ap (λ b. b || is_in new q) (same-as x first q same)
    where
      here : is_in old x ≡ true
      here = taken-out x old new p x ∙ ap (λ b. b || is_in new x) (same-self x)

      same : same_key x first ≡ true
      same = one-first old x first (here, bound-in x old (greatest heap).1) top

-- after a pop of the first key, no key equal to it is left, unless one is first again
pub gone : (old mid : List TimerKey) (first : TimerKey) (next : Option TimerKey)
    → IsFirstKey old (Some first) → ((q : TimerKey) → is_in old q ≡ (same_key first q
    || is_in mid q))
    → IsFirstKey mid next → is_found next first ≡ false
    → (q : TimerKey) → is_in mid q ≡ (not (same_key first q) && is_in old q)
gone old mid first next top out after other q = go (same_key first q) refl
  where
    older : (b c : Bool) → c ≡ true → (b || c) ≡ true
    older true c e = refl
    older false c e = e

    none : (f : Option TimerKey) → IsFirstKey mid f → is_found f first ≡ false
        → is_in mid first ≡ true → ⊥
    none None h e there = false≢true (sym (h first) ∙ there)
    none (Some t) h e there =
        let was : is_in old t ≡ true = out t ∙ older (same_key first t) (is_in mid t) h.0 in
        false≢true (sym e ∙ neither-before t first (top.1 t was) (h.1 first there))

    not-there : (b : Bool) → is_in mid q ≡ b → same_key first q ≡ true → b ≡ false
    not-there true e same =
        absurd (none next after other (in-same mid first q same ∙ e))
    not-there false e same = refl

    go : (b : Bool) → same_key first q ≡ b → is_in mid q ≡ (not b && is_in old q)
    go true e = not-there (is_in mid q) refl e
    go false e = sym (out q ∙ ap (λ b. b || is_in mid q) e)

-- if one is first again, all keys equal to it are dropped
pub gone-again : (old mid new : List TimerKey) (first : TimerKey)
    → ((q : TimerKey) → is_in old q ≡ (same_key first q || is_in mid q))
    → ((q : TimerKey) → is_in new q ≡ (not (same_key first q) && is_in mid q))
    → (q : TimerKey) → is_in new q ≡ (not (same_key first q) && is_in old q)
gone-again old mid new first out left q =
    left q
    ∙ (go (same_key first q) (is_in mid q) ∙ ap (λ b. not (same_key first q) && b) (sym (out q)))
  where
    go : (a b : Bool) → (not a && b) ≡ (not a && (a || b))
    go true b = refl
    go false b = refl
