-- Chained: what the numbers of a chain lead to, as one is put in or taken out.
use Rattle.std.proofs.Common.{◌≡◌, ◌∙◌, ℕ, Bool, true, false, cond, not, nat_eq, List, [], ◌∷◌}
use Rattle.std.proofs.Common.{Option, Some, None, refl, sym, ap, subst, inl, inr, true≢false}
use Rattle.std.proofs.lemmas.Bool.{eq-eqb}
use Rattle.std.proofs.lemmas.Bool.Decides.{eqb_tells}
use Rattle.pt_table.specs.Linked.{IsOneOf, but_number, is_this_number, IsLinkedList}
use Rattle.pt_table.proofs.Lookups.{some_inj, none_some}

-- numbers that differ
pub differs : (m n : ℕ) → (m ≡ n → ⊥) → nat_eq m n ≡ false
differs m n apart =
    elim (eqb_tells m n) [ inl s ↦ absurd (apart s.1) | inr a ↦ a.0 ]

pub same : (n : ℕ) → nat_eq n n ≡ true
same n = eq-eqb n n refl

pub other : (o : Option ℕ) (n : ℕ) → (o ≡ Some n → ⊥) → is_this_number o n ≡ false
other None n apart = refl
other (Some m) n apart = differs m n (λ e. apart (ap Some e))

pub own : (o : Option ℕ) (n : ℕ) → o ≡ Some n → is_this_number o n ≡ true
own o n e = ap (λ x. is_this_number x n) e ∙ same n

pub but-other : (n m : ℕ) (ns : List ℕ) → (n ≡ m → ⊥) → but_number (m ∷ ns) n ≡ m ∷ but_number ns n
but-other n m ns apart =
    ap (λ b. cond (not b) (m ∷ but_number ns n) (but_number ns n)) (differs n m apart)

pub but-none : (n : ℕ) (ns : List ℕ) → (IsOneOf ns n → ⊥) → but_number ns n ≡ ns
but-none n [] out = refl
but-none n (m ∷ ns) out =
    but-other n m ns (λ e. out (inl e)) ∙ ap (λ xs. m ∷ xs) (but-none n ns (λ i. out (inr i)))

pub but-first : (n m : ℕ) (ns : List ℕ) → n ≡ m → (IsOneOf ns m → ⊥) → but_number (m ∷ ns) n ≡ ns
but-first n m ns e out =
    ap (λ b. cond (not b) (m ∷ but_number ns n) (but_number ns n)) (eq-eqb n m e)
    ∙ but-none n ns (subst (λ x. IsOneOf ns x → ⊥) (sym e) out)

-- a number that is left was in the list
pub but-there : (n : ℕ) (ns : List ℕ) (k : ℕ) → IsOneOf (but_number ns n) k → IsOneOf ns k
but-there n [] k i = absurd i
but-there n (m ∷ ns) k i = go (but-there n ns k) (nat_eq n m) i
  where
    go : (IsOneOf (but_number ns n) k → IsOneOf ns k) → (b : Bool)
        → IsOneOf (cond (not b) (m ∷ but_number ns n) (but_number ns n)) k → IsOneOf (m ∷ ns) k
    go ih true i = inr (ih i)
    go ih false (inl e) = inl e
    go ih false (inr j) = inr (ih j)

module _ (nx bf : ℕ → Option ℕ) (lk : ℕ → Bool) where
  pub all-linked : (p h : Option ℕ) (ns : List ℕ) → IsLinkedList nx bf lk p h ns → (m : ℕ)
      → IsOneOf ns m → lk m ≡ true
  all-linked p h [] l m i = absurd i
  all-linked p h (n ∷ ns) l m (inl e) = ap lk e ∙ l.1
  all-linked p h (n ∷ ns) l m (inr i) = all-linked (Some n) (nx n) ns l.4 m i

  pub head-listed : (p h : Option ℕ) (ns : List ℕ) → IsLinkedList nx bf lk p h ns → (k : ℕ)
      → h ≡ Some k → IsOneOf ns k
  head-listed p h [] l k e = absurd (none_some (sym l ∙ e))
  head-listed p h (n ∷ ns) l k e = inl (some_inj (sym e ∙ l.0))

  -- what a number of the chain leads to is in the chain
  pub next-listed : (p h : Option ℕ) (ns : List ℕ) → IsLinkedList nx bf lk p h ns → (m k : ℕ)
      → IsOneOf ns m → nx m ≡ Some k → IsOneOf ns k
  next-listed p h [] l m k i e = absurd i
  next-listed p h (n ∷ ns) l m k (inl s) e =
      inr (head-listed (Some n) (nx n) ns l.4 k (ap nx (sym s) ∙ e))
  next-listed p h (n ∷ ns) l m k (inr i) e =
      inr (next-listed (Some n) (nx n) ns l.4 m k i e)

  -- what a number of the chain leads back to is in the chain, or is before the whole chain
  pub before-listed : (p h : Option ℕ) (ns : List ℕ) → IsLinkedList nx bf lk p h ns → (m k : ℕ)
      → IsOneOf ns m → bf m ≡ Some k → (p ≡ Some k → ⊥) → IsOneOf ns k
  before-listed p h [] l m k i e out = absurd i
  before-listed p h (n ∷ ns) l m k (inl s) e out =
      absurd (out (sym l.2 ∙ ap bf (sym s) ∙ e))
  before-listed p h (n ∷ ns) l m k (inr i) e out = elim (eqb_tells n k) [
    | inl t ↦ inl (sym t.1)
    | inr t ↦ inr (before-listed (Some n) (nx n) ns l.4 m k i e (λ f. t.1 (some_inj f)))
  ]

  -- a number that is not linked is in no chain
  pub not-listed : (n : ℕ) → lk n ≡ false → (p h : Option ℕ) (ns : List ℕ)
      → IsLinkedList nx bf lk p h ns → (m : ℕ) → IsOneOf ns m → n ≡ m → ⊥
  not-listed n free p h ns l m i e =
      true≢false (sym (all-linked p h ns l m i) ∙ ap lk (sym e) ∙ free)

  -- a head has one chain
  pub same-list : (p h : Option ℕ) (ns ms : List ℕ) → IsLinkedList nx bf lk p h ns
      → IsLinkedList nx bf lk p h ms → ns ≡ ms
  same-list p h [] [] l k = refl
  same-list p h [] (m ∷ ms) l k = absurd (none_some (sym l ∙ k.0))
  same-list p h (n ∷ ns) [] l k = absurd (none_some (sym k ∙ l.0))
  same-list p h (n ∷ ns) (m ∷ ms) l k =
      let e : n ≡ m = some_inj (sym l.0 ∙ k.0) in
      let rest : IsLinkedList nx bf lk (Some n) (nx n) ms =
      subst (λ x. IsLinkedList nx bf lk (Some x) (nx x) ms) (sym e) k.4 in
      ap (λ x. x ∷ ns) e ∙ ap (λ xs. m ∷ xs) (same-list (Some n) (nx n) ns ms l.4 rest)

module _ (nx bf : ℕ → Option ℕ) (lk : ℕ → Bool) (nx' bf' : ℕ → Option ℕ) (lk' : ℕ → Bool) where
  -- the links of a number are unchanged
  abbrev pub Agrees : ℕ → Type 0
  Agrees m = (nx' m ≡ nx m) × (bf' m ≡ bf m) × (lk' m ≡ lk m)

  -- a chain is unchanged if the links of its numbers are
  pub IsLinkedList-agree : (p h : Option ℕ) (ns : List ℕ) → ((m : ℕ) → IsOneOf ns m → Agrees m)
      → IsLinkedList nx bf lk p h ns → IsLinkedList nx' bf' lk' p h ns
  IsLinkedList-agree p h [] f l = l
  IsLinkedList-agree p h (n ∷ ns) f l =
      let own = f n (inl refl) in (
        l.0,
        own.2 ∙ l.1,
        own.1 ∙ l.2,
        l.3,
        subst (λ x. IsLinkedList nx' bf' lk' (Some n) x ns) (sym own.0)
            (IsLinkedList-agree (Some n) (nx n) ns (λ m i. f m (inr i)) l.4),
      )

  -- also if only the number before its first one is another, and its first one leads back to that
  pub IsLinkedList-under : (p q h : Option ℕ) (ns : List ℕ)
      → ((m : ℕ) → IsOneOf ns m → (h ≡ Some m → ⊥) → Agrees m)
      → ((m : ℕ) → h ≡ Some m → (nx' m ≡ nx m) × (bf' m ≡ q) × (lk' m ≡ lk m))
      → IsLinkedList nx bf lk p h ns → IsLinkedList nx' bf' lk' q h ns
  IsLinkedList-under p q h [] f first l = l
  IsLinkedList-under p q h (n ∷ ns) f first l =
      let own = first n l.0 in (
        l.0,
        own.2 ∙ l.1,
        own.1,
        l.3,
        subst (λ x. IsLinkedList nx' bf' lk' (Some n) x ns) (sym own.0)
            (IsLinkedList-agree (Some n) (nx n) ns
            (λ m i. f m (inr i) (λ e. l.3 (subst (IsOneOf ns) (sym (some_inj (sym l.0 ∙ e))) i)))
            l.4),
      )
