-- What is stored of a chain's links as a node is put after the last one or taken out.
use Rattle.std.proofs.Common.{◌≡◌, ℕ, ◌==◌, Bool, true, false, cond, ◌||◌, not, List, [], ◌∷◌, ◌++◌}
use Rattle.std.proofs.Common.{filter, Option, Some, None, is_some, refl, sym, ap, ◌∙◌, subst, arith}
use Rattle.std.proofs.lemmas.Bool.Decides.{nat_tests}
use Rattle.std.proofs.lemmas.Bool.{false≢true}
use Rattle.pt_waitq.specs.Waits.{is_listed}
use Rattle.pt_waitq.specs.ListLemmas.{filter-rest}
use Rattle.pt_chains.specs.Chains.{first_in, last_in, Links, is_at, Unique}

pub or_parts : (a b : Bool) → (a || b) ≡ false → (a ≡ false) × (b ≡ false)
or_parts true b e = cc
or_parts false b e = (refl, e)

pub eq_true : (m n : ℕ) → m ≡ n → (m == n) ≡ true
eq_true m n e = grind (arith, nat_tests)

pub eq_turned : (m n : ℕ) → (m == n) ≡ false → (n == m) ≡ false
eq_turned m n e = grind (arith, nat_tests)

-- a number that is listed differs from one that is not
pub listed_apart : (m n : ℕ) (ns : List ℕ) → is_listed m ns ≡ true → is_listed n ns ≡ false
    → (m == n) ≡ false
listed_apart m n ns h k = go (m == n) refl
  where
    go : (b : Bool) → (m == n) ≡ b → b ≡ false
    go false e = refl
    go true e =
        let same : m ≡ n = grind (arith, nat_tests) in
        absurd (false≢true (sym k ∙ (ap (λ x. is_listed x ns) (sym same) ∙ h)))

pub last_apart : (m k : ℕ) (ms : List ℕ) → is_listed m (k ∷ ms) ≡ false
    → is_at m (last_in (Some k) ms) ≡ false
last_apart m k [] h = (or_parts (k == m) false h).0
last_apart m k (j ∷ js) h = last_apart m j js (or_parts (k == m) (is_listed m (j ∷ js)) h).1

pub first_apart : (m : ℕ) (ms : List ℕ) → is_listed m ms ≡ false → is_at m (first_in ms) ≡ false
first_apart m [] h = refl
first_apart m (k ∷ ms) h = (or_parts (k == m) (is_listed m ms) h).0

module _ (nx bf nx' bf' : ℕ → Option ℕ) where
  pub Links-agree : (b : Option ℕ) (ns : List ℕ)
      → ((m : ℕ) → is_listed m ns ≡ true → (nx' m ≡ nx m) × (bf' m ≡ bf m))
      → Links nx bf b ns → Links nx' bf' b ns
  Links-agree b [] f l = tt
  Links-agree b (n ∷ ns) f l =
      let own = f n (rw (eq_true n n refl) refl) in
      (own.1 ∙ l.0, own.0 ∙ l.1, Links-agree (Some n) ns (λ m i. f m (go m i (n == m))) l.2)
    where
      go : (m : ℕ) → is_listed m ns ≡ true → (b : Bool) → (b || is_listed m ns) ≡ true
      go m i true = refl
      go m i false = i

  pub Links-append : (n : ℕ) (last b : Option ℕ) (ns : List ℕ)
      → ((c : ℕ) → nx' c ≡ cond (n == c) None (cond (is_at c last) (Some n) (nx c)))
      → ((c : ℕ) → bf' c ≡ cond (n == c) last (bf c))
      → is_listed n ns ≡ false → Unique ns → last ≡ last_in b ns
      → Links nx bf b ns → Links nx' bf' b (ns ++ n ∷ [])
  Links-append n last b [] hn hb out u is l =
      let own = eq_true n n refl in (
        hb n ∙ (ap (λ t. cond t last (bf n)) own ∙ is),
        hn n ∙ ap (λ t. cond t None (cond (is_at n last) (Some n) (nx n))) own,
        tt,
      )
  Links-append n last b (m ∷ ms) hn hb out u is l =
      let parts = or_parts (m == n) (is_listed n ms) out in
      let other = eq_turned m n parts.0 in (
        hb m ∙ (ap (λ t. cond t last (bf m)) other ∙ l.0),
        hn m ∙ (ap (λ t. cond t None (cond (is_at m last) (Some n) (nx m))) other
            ∙ behind ms is u.0 l.1),
        Links-append n last (Some m) ms hn hb parts.1 u.1 is l.2,
      )
    where
      behind : (ks : List ℕ) → last ≡ last_in (Some m) ks → is_listed m ks ≡ false
          → nx m ≡ first_in ks
          → cond (is_at m last) (Some n) (nx m) ≡ first_in (ks ++ n ∷ [])
      behind [] is out next =
          ap (λ t. cond t (Some n) (nx m)) (ap (is_at m) is ∙ eq_true m m refl)
      behind (k ∷ ks) is out next =
          ap (λ t. cond t (Some n) (nx m)) (ap (is_at m) is ∙ last_apart m k ks out) ∙ next

module _ (nx bf : ℕ → Option ℕ) where
  pub next_apart : (m n : ℕ) (b : Option ℕ) (ns : List ℕ) → Links nx bf b ns
      → is_listed n ns ≡ true → is_listed m ns ≡ false → is_at m (nx n) ≡ false
  next_apart m n b [] l i o = absurd (false≢true i)
  next_apart m n b (k ∷ ks) l i o =
      go (k == n) refl i (λ h. next_apart m n (Some k) ks l.2 h (or_parts (k == m)
      (is_listed m ks) o).1)
    where
      go : (t : Bool) → (k == n) ≡ t → (t || is_listed n ks) ≡ true
          → (is_listed n ks ≡ true → is_at m (nx n) ≡ false) → is_at m (nx n) ≡ false
      go true e i ih =
          let same : k ≡ n = grind (arith, nat_tests) in
          ap (is_at m) (ap nx (sym same) ∙ l.1)
          ∙ first_apart m ks (or_parts (k == m) (is_listed m ks) o).1
      go false e i ih = ih i

  -- the node ahead of one that is not the first is in the chain
  pub before_apart : (m n k : ℕ) (ns : List ℕ) → Links nx bf (Some k) ns
      → is_listed n ns ≡ true → is_listed m (k ∷ ns) ≡ false → is_at m (bf n) ≡ false
  before_apart m n k [] l i o = absurd (false≢true i)
  before_apart m n k (j ∷ js) l i o =
      go (j == n) refl i (λ h. before_apart m n j js l.2 h (or_parts (k == m) (is_listed m
      (j ∷ js)) o).1)
    where
      parts : ((k == m) ≡ false) × (is_listed m (j ∷ js) ≡ false)
      parts = or_parts (k == m) (is_listed m (j ∷ js)) o

      go : (t : Bool) → (j == n) ≡ t → (t || is_listed n js) ≡ true
          → (is_listed n js ≡ true → is_at m (bf n) ≡ false) → is_at m (bf n) ≡ false
      go true e i ih =
          let same : j ≡ n = grind (arith, nat_tests) in
          ap (is_at m) (ap bf (sym same) ∙ l.0) ∙ parts.0
      go false e i ih = ih i

  pub before_some : (n k : ℕ) (ns : List ℕ) → Links nx bf (Some k) ns
      → is_listed n ns ≡ true → is_some (bf n) ≡ true
  before_some n k [] l i = absurd (false≢true i)
  before_some n k (j ∷ js) l i = go (j == n) refl i (before_some n j js l.2)
    where
      go : (t : Bool) → (j == n) ≡ t → (t || is_listed n js) ≡ true
          → (is_listed n js ≡ true → is_some (bf n) ≡ true) → is_some (bf n) ≡ true
      go true e i ih =
          let same : j ≡ n = grind (arith, nat_tests) in
          ap is_some (ap bf (sym same) ∙ l.0)
      go false e i ih = ih i

-- all but n
abbrev pub but : ℕ → List ℕ → List ℕ
but n ns = filter (λ m. not (m == n)) ns

module _ (nx bf nx' bf' : ℕ → Option ℕ) (n : ℕ)
    (hn : (c : ℕ) → nx' c ≡ cond (n == c) None (cond (is_at c (bf n)) (nx n) (nx c)))
    (hb : (c : ℕ) → bf' c ≡ cond (n == c) None (cond (is_at c (nx n)) (bf n) (bf c))) where
  -- a node that is neither taken out nor next to the one that is keeps its links
  kept_next : (c : ℕ) → (n == c) ≡ false → is_at c (bf n) ≡ false → nx' c ≡ nx c
  kept_next c e f = hn c ∙ (ap (λ t. cond t None (cond (is_at c (bf n)) (nx n) (nx c))) e
      ∙ ap (λ t. cond t (nx n) (nx c)) f)

  kept_before : (c : ℕ) → (n == c) ≡ false → is_at c (nx n) ≡ false → bf' c ≡ bf c
  kept_before c e f = hb c ∙ (ap (λ t. cond t None (cond (is_at c (nx n)) (bf n) (bf c))) e
      ∙ ap (λ t. cond t (bf n) (bf c)) f)

  now_next : (c : ℕ) → (n == c) ≡ false → is_at c (bf n) ≡ true → nx' c ≡ nx n
  now_next c e f = hn c ∙ (ap (λ t. cond t None (cond (is_at c (bf n)) (nx n) (nx c))) e
      ∙ ap (λ t. cond t (nx n) (nx c)) f)

  now_before : (c : ℕ) → (n == c) ≡ false → is_at c (nx n) ≡ true → bf' c ≡ bf n
  now_before c e f = hb c ∙ (ap (λ t. cond t None (cond (is_at c (nx n)) (bf n) (bf c))) e
      ∙ ap (λ t. cond t (bf n) (bf c)) f)

  -- the nodes after it are linked to the one ahead of it
  rest_linked : (b : Option ℕ) (ms : List ℕ) → ((c : ℕ) → is_listed c ms ≡ true → is_at c b ≡ false)
      → bf n ≡ b → nx n ≡ first_in ms → is_listed n ms ≡ false → Unique ms
      → Links nx bf (Some n) ms → Links nx' bf' b ms
  rest_linked b [] f eb en out u l = tt
  rest_linked b (k ∷ ks) f eb en out u l =
      let other = eq_turned k n (or_parts (k == n) (is_listed n ks) out).0 in
      let outside = (or_parts (k == n) (is_listed n ks) out).1 in (
        now_before k other (ap (is_at k) en ∙ eq_true k k refl) ∙ eb,
        kept_next k other (ap (is_at k) eb ∙ f k (rw (eq_true k k refl) refl)) ∙ l.1,
        Links-agree nx bf nx' bf' (Some k) ks (λ m i. (
          kept_next m (eq_turned m n (listed_apart m n ks i outside)) (ap (is_at m) eb
              ∙ f m (later m i (k == m))),
          kept_before m (eq_turned m n (listed_apart m n ks i outside)) (ap (is_at m) en
              ∙ eq_turned m k (listed_apart m k ks i u.0)),
        )) l.2,
      )
    where
      later : (m : ℕ) → is_listed m ks ≡ true → (t : Bool) → (t || is_listed m ks) ≡ true
      later m i true = refl
      later m i false = i

  pub Links-removed : (b : Option ℕ) (ns : List ℕ)
      → ((c : ℕ) → is_listed c ns ≡ true → is_at c b ≡ false)
      → is_listed n ns ≡ true → Unique ns → Links nx bf b ns → Links nx' bf' b (but n ns)
  Links-removed b [] f i u l = tt
  Links-removed b (m ∷ ms) f i u l =
      go (m == n) refl i (λ h. Links-removed (Some m) ms (λ c k. eq_turned c m
      (listed_apart c m ms k u.0)) h u.1 l.2)
    where
      later : (c : ℕ) → is_listed c ms ≡ true → (t : Bool) → (t || is_listed c ms) ≡ true
      later c i true = refl
      later c i false = i

      step : (ks : List ℕ) → (m == n) ≡ false → is_listed n ks ≡ true → is_listed m ks ≡ false
          → nx m ≡ first_in ks → Unique ks → Links nx bf (Some m) ks → nx' m ≡ first_in (but n ks)
      step [] e h o en u l = absurd (false≢true h)
      step (k ∷ ks) e h o en u l = by (k == n) refl h
        where
          by : (t : Bool) → (k == n) ≡ t → (t || is_listed n ks) ≡ true
              → nx' m ≡ first_in (cond (not t) (k ∷ but n ks) (but n ks))
          by true q h =
              let same : k ≡ n = grind (arith, nat_tests) in
              let none = ap (λ x. is_listed x ks) (sym same) ∙ u.0 in
              now_next m (eq_turned m n e) (ap (is_at m) (ap bf (sym same) ∙ l.0)
              ∙ eq_true m m refl)
              ∙ (ap nx (sym same) ∙ (l.1 ∙ ap first_in (sym (filter-rest (λ x. x == n) ks none))))
          by false q h =
              kept_next m (eq_turned m n e) (before_apart nx bf m n k ks l.2 h o) ∙ en

      go : (t : Bool) → (m == n) ≡ t → (t || is_listed n ms) ≡ true
          → (is_listed n ms ≡ true → Links nx' bf' (Some m) (but n ms))
          → Links nx' bf' b (cond (not t) (m ∷ but n ms) (but n ms))
      go true e i ih =
          let same : m ≡ n = grind (arith, nat_tests) in
          let none = ap (λ x. is_listed x ms) (sym same) ∙ u.0 in
          let kept = filter-rest (λ x. x == n) ms none in
          rw kept (rest_linked b ms (λ c k. f c (later c k (m == c))) (ap bf (sym same)
          ∙ l.0) (ap nx (sym same) ∙ l.1) none u.1 (subst (λ x. Links nx bf
          (Some x) ms) same l.2))
      go false e i ih = (
        kept_before m (eq_turned m n e) (next_apart nx bf m n (Some m) ms l.2 i u.0) ∙ l.0,
        step ms e i u.0 l.1 u.1 l.2,
        ih i,
      )

module _ (nx bf : ℕ → Option ℕ) (n : ℕ) where
  pub first-removed : (ns : List ℕ) → is_listed n ns ≡ true → Unique ns → Links nx bf None ns
      → first_in (but n ns) ≡ cond (is_some (bf n)) (first_in ns) (nx n)
  first-removed [] i u l = absurd (false≢true i)
  first-removed (m ∷ ms) i u l = go (m == n) refl i
    where
      go : (t : Bool) → (m == n) ≡ t → (t || is_listed n ms) ≡ true
          → first_in (cond (not t) (m ∷ but n ms) (but n ms))
          ≡ cond (is_some (bf n)) (Some m) (nx n)
      go true e i =
          let same : m ≡ n = grind (arith, nat_tests) in
          let none = ap (λ x. is_listed x ms) (sym same) ∙ u.0 in
          ap first_in (filter-rest (λ x. x == n) ms none)
          ∙ (sym (ap nx (sym same) ∙ l.1)
          ∙ sym (ap (λ x. cond (is_some x) (Some m) (nx n)) (ap bf (sym same) ∙ l.0)))
      go false e i = sym (ap (λ t. cond t (Some m) (nx n)) (before_some nx bf n m ms l.2 i))

  pub last-removed : (b : Option ℕ) (ns : List ℕ) → is_listed n ns ≡ true → Unique ns
      → Links nx bf b ns
      → last_in b (but n ns) ≡ cond (is_some (nx n)) (last_in b ns) (bf n)
  last-removed b [] i u l = absurd (false≢true i)
  last-removed b (m ∷ ms) i u l = go (m == n) refl i (λ h. last-removed (Some m) ms h u.1 l.2)
    where
      end : (ks : List ℕ) → bf n ≡ b → nx n ≡ first_in ks
          → last_in b ks ≡ cond (is_some (nx n)) (last_in (Some m) ks) (bf n)
      end [] eb en = sym (ap (λ x. cond (is_some x) (Some m) (bf n)) en ∙ eb)
      end (k ∷ ks) eb en = sym (ap (λ x. cond (is_some x) (last_in (Some k) ks) (bf n)) en)

      go : (t : Bool) → (m == n) ≡ t → (t || is_listed n ms) ≡ true
          → (is_listed n ms ≡ true → last_in (Some m) (but n ms)
          ≡ cond (is_some (nx n)) (last_in (Some m) ms) (bf n))
          → last_in b (cond (not t) (m ∷ but n ms) (but n ms))
          ≡ cond (is_some (nx n)) (last_in (Some m) ms) (bf n)
      go true e i ih =
          let same : m ≡ n = grind (arith, nat_tests) in
          let none = ap (λ x. is_listed x ms) (sym same) ∙ u.0 in
          ap (last_in b) (filter-rest (λ x. x == n) ms none) ∙ end ms (ap bf (sym same)
          ∙ l.0) (ap nx (sym same) ∙ l.1)
      go false e i ih = ih i
