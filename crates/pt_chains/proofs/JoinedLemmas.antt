-- What is done to a queue's box after all its waiters are in it.
use Rattle.std.proofs.Common.{◌≡◌, ◌≢◌, ℕ, ◌+◌, ◌<◌, ◌==◌, Bool, true, false, cond, List, []}
use Rattle.std.proofs.Common.{◌∷◌, ◌++◌, length, Option, Some, None, refl, sym, ap, ◌∙◌, subst}
use Rattle.std.proofs.Common.{arith, slice_index}
use Rattle.std.specs.Prelude.{IfSome, IsSome, MatchOption}
use Rattle.std.specs.Option.{option_map, option_to_list}
use Rattle.std.specs.List.{AllByRecursion as Each}
use Rattle.std.proofs.lemmas.Bool.{false≢true}
use Rattle.std.proofs.lemmas.Bool.Decides.{nat_tests}
use Rattle.pt_types.specs.Limits.{max_priority}
use Rattle.pt_chains.specs.declared.sides.Queue.{Queue}
use Rattle.pt_chains.specs.Chains.{side_of, HasNone, IsUnlinked}
use Rattle.pt_chains.specs.Boxes.{no_queue, IsSame, IsEmptied}
use Rattle.pt_chains.proofs.BoxLemmas.{each-last}
use Rattle.pt_chains.proofs.LoneLemmas.{taken-same}

-- a box that is taken from among empty ones is empty
pub popped-empty : {X : Type 0} (f : X → Queue) (xs ys : List X) (o : Option X)
    → ys ≡ xs ++ option_to_list o → IsSome o → Each (λ x. HasNone (f x)) ys
    → MatchOption (option_map f o) ⊥ HasNone
popped-empty f xs ys None is some a = absurd (false≢true some)
popped-empty f xs ys (Some x) is some a =
    each-last (λ y. HasNone (f y)) xs ys (Some x) x is refl a

pub each-front : {X : Type 0} (P : X → Type 0) (xs zs ys : List X) → ys ≡ xs ++ zs → Each P ys
    → Each P xs
each-front P [] zs ys e a = tt
each-front P (x ∷ xs) zs ys e a =
    let b = subst (Each P) e a in (b.0, each-front P xs zs (xs ++ zs) refl b.1)

pub one-popped : {X : Type 0} (o : Option X) (left all n : ℕ) → IsSome o → n ≡ 0
    → left + length (option_to_list o) ≡ all → left + cond (n == 0) 1 0 ≡ all
one-popped None left all n some none e = absurd (false≢true some)
one-popped (Some x) left all n some none e =
    ap (λ m. left + cond (m == 0) 1 0) none ∙ e

pub none-popped : (all n : ℕ) → n ≢ 0 → all + cond (n == 0) 1 0 ≡ all
none-popped all n some = grind (arith, nat_tests, some)

pub one-more : (n m : ℕ) → n ≡ m + 1 → n ≢ 0
one-more n m e z = omega arith

zero-by : (n : ℕ) → true ≡ (n == 0) → n ≡ 0
zero-by n e = grind (arith, nat_tests, e)

pub some-by : (n : ℕ) → false ≡ (n == 0) → n ≢ 0
some-by n e z = false≢true (e ∙ ap (λ m. m == 0) z)

-- what is seen of the queue is seen of the box
module _ {X : Type 0} (f : X → Queue) (joined : Option X) (x : X) (at : joined ≡ Some x)
    (was seen now : Queue) (view : was ≡ seen) (lent : now ≡ f x)
    (same : IfSome joined (λ b. IsSame was (f b))) where
  pub joined-same : IsSame seen now
  joined-same =
      subst (λ q. IsSame seen q) (sym lent) (subst (λ q. IsSame q (f x)) view
      (subst (λ o. IfSome o (λ b. IsSame was (f b))) at same))

  pub joined-waits : IfSome joined (λ b. (f b).len ≢ 0) → seen.len ≢ 0
  joined-waits some z =
      let there = subst (λ o. IfSome o (λ b. (f b).len ≢ 0)) at some in
      there (ap (λ (q : Queue). q.len) (sym lent) ∙ (joined-same.len ∙ z))

module _ (k : Bool) (p : ℕ) (old box : Queue) (within : p < max_priority)
    (same : IsSame old box) where
  pub same-count : slice_index (side_of k old).counts p ≡ slice_index (side_of k box).counts p
  same-count = sym (same.chains k p within).count

  -- the last waiter is taken out, or one of several
  pub emptied-joined : (before next : Option ℕ) (q : Queue) → IsUnlinked k p before next box q
      → true ≡ (q.len == 0) → IsEmptied k p before next old no_queue (Some q)
  emptied-joined before next q taken last =
      record {
        taken = taken-same k p 0 old box q within same before next taken;
        emptied = (zero-by q.len last, refl);
        left = tt;
      }

  pub lessened-joined : (before next : Option ℕ) (q : Queue) → IsUnlinked k p before next box q
      → false ≡ (q.len == 0) → IsEmptied k p before next old q None
  lessened-joined before next q taken last =
      record {
        taken = taken-same k p 0 old box q within same before next taken;
        emptied = tt;
        left = some-by q.len last;
      }
