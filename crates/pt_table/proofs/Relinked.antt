-- Relinked: rows that are linked anew in the order of their numbers, the last one first.
use Rattle.std.proofs.Common.{◌≡◌, ◌∙◌, ◌<◌, ℕ, Bool, true, cond, nat_eq, List, [], ◌∷◌}
use Rattle.std.proofs.Common.{◌++◌, Option, Some, None, refl, sym, ap, subst, inl, inr, arith}
use Rattle.std.proofs.lemmas.List.{append-nil, append_assoc}
use Rattle.pt_table.specs.declared.objects.ObjectRow.{ObjectRow}
use Rattle.pt_table.specs.ObjectRows.{has_object}
use Rattle.pt_table.specs.Linked.{is_linked, last_number, next_number, number_before}
use Rattle.pt_table.specs.Linked.{rows_without_links}
use Rattle.pt_table.specs.Linked.{IsRowChain, IsOneOf, IsRising, IsLinkedList}
use Rattle.pt_table.proofs.Chained.{differs, same}
use Rattle.pt_table.proofs.ChainCallers.{same-has}
use Rattle.pt_table.proofs.Members.{in-right, pick}

-- the number that is put at the end is the last
pub last-put : (ns : List ℕ) (n : ℕ) → last_number (ns ++ n ∷ []) ≡ Some n
last-put [] n = refl
last-put (m ∷ []) n = refl
last-put (m ∷ k ∷ ks) n = last-put (k ∷ ks) n

-- the last part of a rising list rises
rising-right : (xs ys : List ℕ) → IsRising (xs ++ ys) → IsRising ys
rising-right [] ys r = r
rising-right (x ∷ xs) ys r = rising-right xs ys r.1

module _ (nx nx2 bf bf2 : ℕ → Option ℕ) (lk lk2 : ℕ → Bool) where
  -- numbers with the same links form the same chain
  pub same-leads : (p h : Option ℕ) (ns : List ℕ)
      → ((m : ℕ) → IsOneOf ns m → nx2 m ≡ nx m) → ((m : ℕ) → IsOneOf ns m → bf2 m ≡ bf m)
      → ((m : ℕ) → IsOneOf ns m → lk2 m ≡ lk m) → IsLinkedList nx bf lk p h ns
      → IsLinkedList nx2 bf2 lk2 p h ns
  same-leads p h [] a b c l = l
  same-leads p h (n ∷ ns) a b c l = (
    l.0,
    c n (inl refl) ∙ l.1,
    b n (inl refl) ∙ l.2,
    l.3,
    subst (λ x. IsLinkedList nx2 bf2 lk2 (Some n) x ns) (sym (a n (inl refl)))
        (same-leads (Some n) (nx n) ns (λ m i. a m (inr i)) (λ m i. b m (inr i))
        (λ m i. c m (inr i)) l.4),
  )

module _ {T : Type 0} (old now : List (ObjectRow T)) (all : List ℕ) where
  -- the last numbers of a list are linked now, and the other rows lead on and back as they did
  pub record IsRelinked (left : List ℕ) (head : Option ℕ) : Type 0 where
    pub done : List ℕ
    pub split : all ≡ left ++ done
    pub chain : IsLinkedList (next_number now) (number_before now) (is_linked now)
        (last_number left)
        head done
    pub next : (n : ℕ) → (IsOneOf done n → ⊥) → next_number now n ≡ next_number old n
    pub before : (n : ℕ) → (IsOneOf done n → ⊥) → number_before now n ≡ number_before old n
    pub linked : (n : ℕ) → (IsOneOf done n → ⊥) → is_linked now n ≡ is_linked old n
    pub rows : rows_without_links now ≡ rows_without_links old

pub relinks-none : {T : Type 0} (old : List (ObjectRow T)) (all : List ℕ)
    → IsRelinked old old all all None
relinks-none old all = record {
  done = [];
  split = sym (append-nil all);
  chain = refl;
  next = λ n out. refl;
  before = λ n out. refl;
  linked = λ n out. refl;
  rows = refl;
}

module _ {T : Type 0} (old now : List (ObjectRow T)) (all left : List ℕ) (head : Option ℕ)
    (d : IsRelinked old now all left head) where
  module _ (rest : List ℕ) (number : ℕ) (last : left ≡ rest ++ number ∷ []) where
    seam : all ≡ rest ++ number ∷ d.done
    seam = d.split ∙ ap (λ ns. ns ++ d.done) last ∙ append_assoc rest (number ∷ []) d.done

    pub last-there : ((n : ℕ) → IsOneOf all n → has_object old n ≡ true)
        → has_object now number ≡ true
    last-there there =
        same-has old now d.rows number
        ∙ there number (subst (λ ns. IsOneOf ns number) (sym seam)
        (in-right rest (number ∷ d.done) number (inl refl)))

    module _ (new : List (ObjectRow T)) (rise : IsRising all)
        (next : (n : ℕ)
        → next_number new n ≡ cond (nat_eq number n) head (next_number now n))
        (before : (n : ℕ)
        → number_before new n ≡ cond (nat_eq number n) (last_number rest) (number_before now n))
        (linked : (n : ℕ) → is_linked new n ≡ cond (nat_eq number n) true (is_linked now n))
        (rows : rows_without_links new ≡ rows_without_links now) where
      -- the number differs from those that come after it
      apart : (n : ℕ) → IsOneOf d.done n → number ≡ n → ⊥
      apart n i e =
          let up = rising-right rest (number ∷ d.done) (subst IsRising seam rise) in
          let less : number < n = pick (λ m. number < m) d.done up.0 n i in
          absurd (omega (arith, less, e))

      -- one more is put first
      pub relinks-more : IsRelinked old new all rest (Some number)
      relinks-more = record {
        done = number ∷ d.done;
        split = seam;
        chain = (
          refl,
          linked number ∙ ap (λ b. cond b true (is_linked now number)) (same number),
          before number
              ∙ ap (λ b. cond b (last_number rest) (number_before now number)) (same number),
          λ i. apart number i refl,
          subst (λ h. IsLinkedList (next_number new) (number_before new) (is_linked new)
              (Some number) h
              d.done)
              (sym (next number ∙ ap (λ b. cond b head (next_number now number)) (same number)))
              (same-leads (next_number now) (next_number new) (number_before now)
              (number_before new) (is_linked now) (is_linked new) (Some number) head d.done
              (λ n i. next n
              ∙ ap (λ b. cond b head (next_number now n)) (differs number n (apart n i)))
              (λ n i. before n
              ∙ ap (λ b. cond b (last_number rest) (number_before now n))
              (differs number n (apart n i)))
              (λ n i. linked n
              ∙ ap (λ b. cond b true (is_linked now n)) (differs number n (apart n i)))
              (subst (λ p. IsLinkedList (next_number now) (number_before now) (is_linked now) p head
              d.done) (ap last_number last ∙ last-put rest number) d.chain)),
        );
        next = λ n out.
            next n
            ∙ (ap (λ b. cond b head (next_number now n)) (differs number n (λ e. out (inl (sym e))))
            ∙ d.next n (λ i. out (inr i)));
        before = λ n out.
            before n
            ∙ (ap (λ b. cond b (last_number rest) (number_before now n))
            (differs number n (λ e. out (inl (sym e))))
            ∙ d.before n (λ i. out (inr i)));
        linked = λ n out.
            linked n
            ∙ (ap (λ b. cond b true (is_linked now n)) (differs number n (λ e. out (inl (sym e))))
            ∙ d.linked n (λ i. out (inr i)));
        rows = rows ∙ d.rows;
      }

  -- all are in the chain
  module _ (e : left ≡ []) where
    whole : all ≡ d.done
    whole = d.split ∙ ap (λ ns. ns ++ d.done) e

    pub relinks-all : IsRowChain now head all
    relinks-all =
        subst (IsRowChain now head) (sym whole)
        (subst (λ ns. IsLinkedList (next_number now) (number_before now) (is_linked now)
        (last_number ns) head d.done) e d.chain)

    pub is-out : (n : ℕ) → (IsOneOf all n → ⊥) → IsOneOf d.done n → ⊥
    is-out n out i = out (subst (λ ns. IsOneOf ns n) (sym whole) i)
