-- A number that is taken out of a chain: what leads to what, before and after.
use Rattle.std.proofs.Common.{◌≡◌, ◌∙◌, ℕ, Bool, false, cond, nat_eq, List, [], ◌∷◌, Option, Some}
use Rattle.std.proofs.Common.{None, sym, ap, subst, inl, inr}
use Rattle.pt_table.specs.Linked.{IsOneOf, AreDisjoint, but_number, is_this_number, IsLinkedList}
use Rattle.pt_table.proofs.Lookups.{some_inj, none_some}
use Rattle.pt_table.proofs.Chained.{differs, other, own, but-other, but-first, but-there}
use Rattle.pt_table.proofs.Chained.{head-listed, next-listed, before-listed, Agrees, IsLinkedList-agree}
use Rattle.pt_table.proofs.Chained.{IsLinkedList-under}

module _ (nx bf : ℕ → Option ℕ) (lk : ℕ → Bool) (nx' bf' : ℕ → Option ℕ) (lk' : ℕ → Bool)
    (number : ℕ)
    (hl : (n : ℕ) → lk' n ≡ cond (nat_eq number n) false (lk n))
    (hn : (n : ℕ) → nx' n
    ≡ cond (nat_eq number n) None (cond (is_this_number (bf number) n) (nx number) (nx n)))
    (hb : (n : ℕ) → bf' n
    ≡ cond (nat_eq number n) None (cond (is_this_number (nx number) n) (bf number) (bf n))) where
  linked-yet : (n : ℕ) → (number ≡ n → ⊥) → lk' n ≡ lk n
  linked-yet n apart = hl n ∙ ap (λ b. cond b false (lk n)) (differs number n apart)

  next-yet : (n : ℕ) → (number ≡ n → ⊥) → (bf number ≡ Some n → ⊥) → nx' n ≡ nx n
  next-yet n apart off =
      hn n
      ∙ ap (λ b. cond b None (cond (is_this_number (bf number) n) (nx number) (nx n)))
      (differs number n apart)
      ∙ ap (λ b. cond b (nx number) (nx n)) (other (bf number) n off)

  next-past : (n : ℕ) → (number ≡ n → ⊥) → bf number ≡ Some n → nx' n ≡ nx number
  next-past n apart e =
      hn n
      ∙ ap (λ b. cond b None (cond (is_this_number (bf number) n) (nx number) (nx n)))
      (differs number n apart)
      ∙ ap (λ b. cond b (nx number) (nx n)) (own (bf number) n e)

  before-yet : (n : ℕ) → (number ≡ n → ⊥) → (nx number ≡ Some n → ⊥) → bf' n ≡ bf n
  before-yet n apart off =
      hb n
      ∙ ap (λ b. cond b None (cond (is_this_number (nx number) n) (bf number) (bf n)))
      (differs number n apart)
      ∙ ap (λ b. cond b (bf number) (bf n)) (other (nx number) n off)

  before-past : (n : ℕ) → (number ≡ n → ⊥) → nx number ≡ Some n → bf' n ≡ bf number
  before-past n apart e =
      hb n
      ∙ ap (λ b. cond b None (cond (is_this_number (nx number) n) (bf number) (bf n)))
      (differs number n apart)
      ∙ ap (λ b. cond b (bf number) (bf n)) (own (nx number) n e)

  agrees : (n : ℕ) → (number ≡ n → ⊥) → (bf number ≡ Some n → ⊥) → (nx number ≡ Some n → ⊥)
      → Agrees nx bf lk nx' bf' lk' n
  agrees n apart off past = (next-yet n apart off, before-yet n apart past, linked-yet n apart)

  -- the head of what is left
  abbrev pub left_head : Option ℕ → Option ℕ
  left_head h = cond (is_this_number h number) (nx number) h

  -- the first number is taken out
  first-out : (p : Option ℕ) (ns : List ℕ) → bf number ≡ p → (IsOneOf ns number → ⊥)
      → ((k : ℕ) → p ≡ Some k → IsOneOf ns k → ⊥)
      → IsLinkedList nx bf lk (Some number) (nx number) ns
      → IsLinkedList nx' bf' lk' p (nx number) ns
  first-out p ns is out off l =
      IsLinkedList-under nx bf lk nx' bf' lk' (Some number) p (nx number) ns
      (λ m i past. agrees m (apart m i) (away m i) past)
      (λ m e.
      let i = head-listed nx bf lk (Some number) (nx number) ns l m e in (
        next-yet m (apart m i) (away m i),
        before-past m (apart m i) e ∙ is,
        linked-yet m (apart m i),
      ))
      l
    where
      apart : (m : ℕ) → IsOneOf ns m → number ≡ m → ⊥
      apart m i e = out (subst (IsOneOf ns) (sym e) i)

      away : (m : ℕ) → IsOneOf ns m → bf number ≡ Some m → ⊥
      away m i e = off m (sym is ∙ e) i

  -- a number is taken out, and the number before the chain is none of its numbers
  take-out : (p h : Option ℕ) (ns : List ℕ) → ((k : ℕ) → p ≡ Some k → IsOneOf ns k → ⊥)
      → IsLinkedList nx bf lk p h ns → IsOneOf ns number
      → IsLinkedList nx' bf' lk' p (left_head h) (but_number ns number)
  take-out p h [] off l i = absurd i
  take-out p h (n ∷ ns) off l (inl s) =
      let its : h ≡ Some number = l.0 ∙ ap Some (sym s) in
      subst (λ x. IsLinkedList nx' bf' lk' p x (but_number (n ∷ ns) number))
      (sym (ap (λ b. cond b (nx number) h) (own h number its)))
      (subst (IsLinkedList nx' bf' lk' p (nx number)) (sym (but-first number n ns s l.3))
      (first-out p ns (ap bf s ∙ l.2) (λ i. l.3 (subst (IsOneOf ns) s i))
      (λ k e i. off k e (inr i))
      (subst (λ x. IsLinkedList nx bf lk (Some x) (nx x) ns) (sym s) l.4)))
  take-out p h (n ∷ ns) off l (inr i) =
      subst (λ x. IsLinkedList nx' bf' lk' p x (but_number (n ∷ ns) number))
      (sym (ap (λ b. cond b (nx number) h) (other h number not-head)))
      (subst (IsLinkedList nx' bf' lk' p h) (sym (but-other number n ns apart)) (
        l.0,
        linked-yet n apart ∙ l.1,
        before-yet n apart (λ e. l.3 (next-listed nx bf lk (Some n) (nx n) ns l.4 number n i e))
            ∙ l.2,
        λ j. l.3 (but-there number ns n j),
        subst (λ x. IsLinkedList nx' bf' lk' (Some n) x (but_number ns number)) (sym
            (rest ns l.3 l.4 i))
            (take-out (Some n) (nx n) ns (λ k e j. l.3 (subst (IsOneOf ns) (sym (some_inj e)) j))
            l.4 i),
      ))
    where
      apart : number ≡ n → ⊥
      apart e = l.3 (subst (IsOneOf ns) e i)

      not-head : h ≡ Some number → ⊥
      not-head e = apart (some_inj (sym e ∙ l.0))

      rest : (ms : List ℕ) → (IsOneOf ms n → ⊥) → IsLinkedList nx bf lk (Some n) (nx n) ms
          → IsOneOf ms number → nx' n ≡ left_head (nx n)
      rest [] out k j = absurd j
      rest (m ∷ ms) out k (inl t) =
          let leads : nx n ≡ Some number = k.0 ∙ ap Some (sym t) in
          next-past n apart (ap bf t ∙ k.2)
          ∙ sym (ap (λ b. cond b (nx number) (nx n)) (own (nx n) number leads))
      rest (m ∷ ms) out k (inr j) =
          next-yet n apart
          (λ e. out (inr (before-listed nx bf lk (Some m) (nx m) ms k.4 number n j e
          (λ f. out (inl (some_inj (sym f)))))))
          ∙ sym (ap (λ b. cond b (nx number) (nx n)) (other (nx n) number
          (λ e. k.3 (subst (IsOneOf ms) (some_inj (sym e ∙ k.0)) j))))

  pub take-from : (h : Option ℕ) (ns : List ℕ) → IsLinkedList nx bf lk None h ns → IsOneOf ns number
      → IsLinkedList nx' bf' lk' None (left_head h) (but_number ns number)
  take-from h ns l i = take-out None h ns (λ k e. absurd (none_some e)) l i

  -- a chain that has no number in common with that one is unchanged
  pub keeps-from : (h : Option ℕ) (ns : List ℕ) → IsLinkedList nx bf lk None h ns
      → IsOneOf ns number
      → (o : Option ℕ) (os : List ℕ) → IsLinkedList nx bf lk None o os → AreDisjoint ns os
      → IsLinkedList nx' bf' lk' None o os
  keeps-from h ns l i o os m apart =
      IsLinkedList-agree nx bf lk nx' bf' lk' None o os (λ k j.
      agrees k (λ e. apart k (subst (IsOneOf ns) e i) j)
      (λ e. apart k (before-listed nx bf lk None h ns l number k i e (λ f. none_some f)) j)
      (λ e. apart k (next-listed nx bf lk None h ns l number k i e) j)) m
