-- A chain, its ends and its count, as a node is added after the last or taken out.
use Rattle.std.proofs.Common.{◌≡◌, ◌≢◌, ℕ, ◌==◌, ◌+◌, ◌-◌, Bool, true, false, cond, ◌||◌, not, List}
use Rattle.std.proofs.Common.{[], ◌∷◌, ◌++◌, length, Option, Some, None, is_some, slice_index_or}
use Rattle.std.proofs.Common.{refl, sym, ap, ◌∙◌, arith}
use Rattle.std.specs.Prelude.{slice_index}
use Rattle.std.proofs.lemmas.Bool.Decides.{nat_tests}
use Rattle.std.proofs.lemmas.Bool.{false≢true}
use Rattle.pt_chains.specs.declared.sides.Side.{Side}
use Rattle.pt_waitq.specs.Waits.{is_listed}
use Rattle.pt_waitq.specs.ListLemmas.{filter-rest}
use Rattle.pt_chains.specs.Chains.{first_in, last_in, is_at, Unique, IsChain}
use Rattle.pt_chains.proofs.LinkLemmas.{but, Links-agree, Links-append, Links-removed}
use Rattle.pt_chains.proofs.LinkLemmas.{first-removed, last-removed}

last_append : (b : Option ℕ) (ns : List ℕ) (n : ℕ) → last_in b (ns ++ n ∷ []) ≡ Some n
last_append b [] n = refl
last_append b (m ∷ ns) n = last_append (Some m) ns n

last_some : (k : ℕ) (ns : List ℕ) → is_some (last_in (Some k) ns) ≡ true
last_some k [] = refl
last_some k (m ∷ ns) = last_some m ns

length_append : (ns : List ℕ) (n : ℕ) → length (ns ++ n ∷ []) ≡ length ns + 1
length_append [] n = refl
length_append (m ∷ ns) n = let h = length_append ns n in omega (arith, h)

head_append : (ns : List ℕ) (n : ℕ)
    → cond (not (is_some (last_in None ns))) (Some n) (first_in ns) ≡ first_in (ns ++ n ∷ [])
head_append [] n = refl
head_append (m ∷ ns) n = ap (λ t. cond (not t) (Some n) (Some m)) (last_some m ns)

length_but : (n : ℕ) (ns : List ℕ) → is_listed n ns ≡ true → Unique ns
    → length (but n ns) ≡ length ns - 1
length_but n [] i u = absurd (false≢true i)
length_but n (m ∷ ms) i u = go (m == n) refl i (λ h. length_but n ms h u.1)
  where
    some : (ks : List ℕ) → is_listed n ks ≡ true → length ks ≢ 0
    some [] h = λ e. false≢true h
    some (k ∷ ks) h = λ e. absurd (omega (arith, e))

    go : (t : Bool) → (m == n) ≡ t → (t || is_listed n ms) ≡ true
        → (is_listed n ms ≡ true → length (but n ms) ≡ length ms - 1)
        → length (cond (not t) (m ∷ but n ms) (but n ms)) ≡ length (m ∷ ms) - 1
    go true e i ih =
        let same : m ≡ n = grind (arith, nat_tests) in
        let none = ap (λ x. is_listed x ms) (sym same) ∙ u.0 in
        let h = ap length (filter-rest (λ x. x == n) ms none) in
        omega (arith, h)
    go false e i ih = let h = ih i in let k = some ms i in omega (arith, h, k)

-- a node is added after the last
pub chain-append : (nx bf nx' bf' : ℕ → Option ℕ) (side side' : Side) (p n : ℕ) (ns : List ℕ)
    → slice_index side'.counts p ≡ slice_index side.counts p + 1
    → slice_index_or side'.tails p None ≡ Some n
    → slice_index_or side'.heads p None
    ≡ cond (not (is_some (slice_index_or side.tails p None))) (Some n)
    (slice_index_or side.heads p None)
    → ((c : ℕ) → nx' c ≡ cond (n == c) None (cond (is_at c (slice_index_or side.tails p None))
    (Some n) (nx c)))
    → ((c : ℕ) → bf' c ≡ cond (n == c) (slice_index_or side.tails p None) (bf c))
    → is_listed n ns ≡ false → Unique ns
    → IsChain nx bf side p ns → IsChain nx' bf' side' p (ns ++ n ∷ [])
chain-append nx bf nx' bf' side side' p n ns hc ht hh hn hb out u a =
    record {
      count = hc ∙ (ap (λ x. x + 1) a.count ∙ sym (length_append ns n));
      head = hh ∙ (ap (λ x. cond (not (is_some x)) (Some n)
          (slice_index_or side.heads p None)) a.tail
          ∙ (ap (λ x. cond (not (is_some (last_in None ns))) (Some n) x) a.head
          ∙ head_append ns n));
      tail = ht ∙ sym (last_append None ns n);
      links = Links-append nx bf nx' bf' n
          (slice_index_or side.tails p None) None ns hn hb out u a.tail a.links;
    }

-- a node is taken out, wherever it is
pub chain-removed : (nx bf nx' bf' : ℕ → Option ℕ) (side side' : Side) (p n : ℕ) (ns : List ℕ)
    → slice_index side'.counts p ≡ slice_index side.counts p - 1
    → slice_index_or side'.tails p None ≡ cond (not (is_some (nx n))) (bf n)
    (slice_index_or side.tails p None)
    → slice_index_or side'.heads p None ≡ cond (not (is_some (bf n))) (nx n)
    (slice_index_or side.heads p None)
    → ((c : ℕ) → nx' c ≡ cond (n == c) None (cond (is_at c (bf n)) (nx n) (nx c)))
    → ((c : ℕ) → bf' c ≡ cond (n == c) None (cond (is_at c (nx n)) (bf n) (bf c)))
    → is_listed n ns ≡ true → Unique ns
    → IsChain nx bf side p ns → IsChain nx' bf' side' p (but n ns)
chain-removed nx bf nx' bf' side side' p n ns hc ht hh hn hb i u a =
    record {
      count = hc ∙ (ap (λ x. x - 1) a.count ∙ sym (length_but n ns i u));
      head = hh ∙ (turn (is_some (bf n)) (nx n) _ ∙ (ap (λ x. cond (is_some (bf n)) x (nx n)) a.head
          ∙ sym (first-removed nx bf n ns i u a.links)));
      tail = ht ∙ (turn (is_some (nx n)) (bf n) _ ∙ (ap (λ x. cond (is_some (nx n)) x (bf n)) a.tail
          ∙ sym (last-removed nx bf n None ns i u a.links)));
      links = Links-removed nx bf nx' bf' n hn hb None ns (λ c k. refl) i u a.links;
    }
  where
    turn : (b : Bool) (x y : Option ℕ) → cond (not b) x y ≡ cond b y x
    turn true x y = refl
    turn false x y = refl

-- a chain that neither change touches
pub chain-kept : (nx bf nx' bf' : ℕ → Option ℕ) (side side' : Side) (p : ℕ) (ns : List ℕ)
    → slice_index side'.counts p ≡ slice_index side.counts p
    → slice_index_or side'.tails p None ≡ slice_index_or side.tails p None
    → slice_index_or side'.heads p None ≡ slice_index_or side.heads p None
    → ((m : ℕ) → is_listed m ns ≡ true → (nx' m ≡ nx m) × (bf' m ≡ bf m))
    → IsChain nx bf side p ns → IsChain nx' bf' side' p ns
chain-kept nx bf nx' bf' side side' p ns hc ht hh f a =
    record {
      count = hc ∙ a.count;
      head = hh ∙ a.head;
      tail = ht ∙ a.tail;
      links = Links-agree nx bf nx' bf' None ns f a.links;
    }
