-- A number that is put first in a chain: what leads to what, before and after.
use Rattle.std.proofs.Common.{◌≡◌, ◌∙◌, ℕ, Bool, true, false, cond, nat_eq, List, ◌∷◌, Option, Some}
use Rattle.std.proofs.Common.{None, refl, sym, ap, subst}
use Rattle.pt_table.specs.Linked.{IsOneOf, AreDisjoint, is_this_number, IsLinkedList}
use Rattle.pt_table.proofs.Chained.{differs, same, other, own, head-listed, all-linked, not-listed}
use Rattle.pt_table.proofs.Chained.{Agrees, IsLinkedList-agree, IsLinkedList-under}

-- the head of a chain is linked, whichever other row is linked
pub head-linked : (nx bf : ℕ → Option ℕ) (lk : ℕ → Bool) (number : ℕ) (h : Option ℕ)
    (ns : List ℕ) → IsLinkedList nx bf lk None h ns → (n : ℕ) → h ≡ Some n
    → cond (nat_eq number n) true (lk n) ≡ true
head-linked nx bf lk number h ns l n e =
    go (nat_eq number n) (all-linked nx bf lk None h ns l n (head-listed nx bf lk None h ns l n e))
  where
    go : (b : Bool) → lk n ≡ true → cond b true (lk n) ≡ true
    go true t = refl
    go false t = t

module _ (nx bf : ℕ → Option ℕ) (lk : ℕ → Bool) (nx' bf' : ℕ → Option ℕ) (lk' : ℕ → Bool)
    (number : ℕ) (free : lk number ≡ false) (h : Option ℕ)
    (hl : (n : ℕ) → lk' n ≡ cond (nat_eq number n) true (lk n))
    (hn : (n : ℕ) → nx' n ≡ cond (nat_eq number n) h (nx n))
    (hb : (n : ℕ) → bf' n
    ≡ cond (is_this_number h n) (Some number) (cond (nat_eq number n) None (bf n))) where
  linked-still : (n : ℕ) → (number ≡ n → ⊥) → lk' n ≡ lk n
  linked-still n apart = hl n ∙ ap (λ b. cond b true (lk n)) (differs number n apart)

  next-still : (n : ℕ) → (number ≡ n → ⊥) → nx' n ≡ nx n
  next-still n apart = hn n ∙ ap (λ b. cond b h (nx n)) (differs number n apart)

  before-still : (n : ℕ) → (number ≡ n → ⊥) → (h ≡ Some n → ⊥) → bf' n ≡ bf n
  before-still n apart off =
      hb n
      ∙ ap (λ b. cond b (Some number) (cond (nat_eq number n) None (bf n))) (other h n off)
      ∙ ap (λ b. cond b None (bf n)) (differs number n apart)

  agrees : (n : ℕ) → (number ≡ n → ⊥) → (h ≡ Some n → ⊥) → Agrees nx bf lk nx' bf' lk' n
  agrees n apart off = (next-still n apart, before-still n apart off, linked-still n apart)

  -- the chain of the head follows the number
  pub put-first : (ns : List ℕ) → IsLinkedList nx bf lk None h ns
      → IsLinkedList nx' bf' lk' None (Some number) (number ∷ ns)
  put-first ns l = (
    refl,
    hl number ∙ ap (λ b. cond b true (lk number)) (same number),
    hb number
        ∙ ap (λ b. cond b (Some number) (cond (nat_eq number number) None (bf number)))
        (other h number not-head)
        ∙ ap (λ b. cond b None (bf number)) (same number),
    λ i. out number i refl,
    subst (λ x. IsLinkedList nx' bf' lk' (Some number) x ns)
        (sym (hn number ∙ ap (λ b. cond b h (nx number)) (same number)))
        (IsLinkedList-under nx bf lk nx' bf' lk' None (Some number) h ns
        (λ m i off. agrees m (out m i) off)
        (λ m e. (
          next-still m (out m (head-listed nx bf lk None h ns l m e)),
          hb m ∙ ap (λ b. cond b (Some number) (cond (nat_eq number m) None (bf m))) (own h m e),
          linked-still m (out m (head-listed nx bf lk None h ns l m e)),
        )) l),
  )
    where
      out : (m : ℕ) → IsOneOf ns m → number ≡ m → ⊥
      out m i = not-listed nx bf lk number free None h ns l m i

      not-head : h ≡ Some number → ⊥
      not-head e = out number (head-listed nx bf lk None h ns l number e) refl

  -- a chain that has no number in common with that one is unchanged
  pub keeps-first : (ns : List ℕ) → IsLinkedList nx bf lk None h ns → (o : Option ℕ) (os : List ℕ)
      → IsLinkedList nx bf lk None o os → AreDisjoint ns os → IsLinkedList nx' bf' lk' None o os
  keeps-first ns l o os m apart =
      IsLinkedList-agree nx bf lk nx' bf' lk' None o os
      (λ k i. agrees k (not-listed nx bf lk number free None o os m k i)
      (λ e. apart k (head-listed nx bf lk None h ns l k e) i)) m
