-- The highest chain that is not empty, as one of the counts changes.
use Rattle.std.proofs.Common.{◌≡◌, ◌≢◌, ℕ, ◌+◌, ◌-◌, ◌==◌, nat_le, ◌<◌, ◌≤◌, max, Bool, true, false}
use Rattle.std.proofs.Common.{cond, not, List, Option, Some, None, refl, sym, ap, ◌∙◌, subst, arith}
use Rattle.std.proofs.Common.{eq-eqb, length, take, length-take, get_or-take}
use Rattle.std.specs.Prelude.{◌&&◌, is_some, slice_index, slice_index_or, MatchOption}
use Rattle.std.proofs.lemmas.Bool.Decides.{nat_tests}
use Rattle.pt_lanes.specs.Counts.{IsHighest}
use Rattle.pt_types.specs.Limits.{max_priority}
use Rattle.pt_chains.specs.declared.sides.Side.{Side}
use Rattle.pt_chains.specs.declared.sides.Queue.{Queue}
use Rattle.pt_chains.specs.Chains.{side_of, HasNone, IsUnlinked}
use Rattle.pt_chains.specs.Boxes.{IsLone}
use Rattle.pt_chains.specs.Highest.{NoneAbove, IsBound, IsHighestChain}

-- the highest index after one more at p
abbrev pub IsRaised : ℕ → Option ℕ → Option ℕ → Type 0
IsRaised p h raised = MatchOption h (raised ≡ Some p) (λ i. raised ≡ Some (max i p))

one-less : (n : ℕ) → n - 1 ≤ n
one-less n = omega arith

-- the counts after the one at p became n
abbrev pub IsStepped : List ℕ → List ℕ → ℕ → ℕ → Type 0
IsStepped old new p n =
    (i : ℕ) → i < max_priority → slice_index new i ≡ cond (p == i) n (slice_index old i)

module _ (old new : List ℕ) (p n : ℕ) (within : p < max_priority)
    (step : IsStepped old new p n) where
  at : slice_index new p ≡ n
  at = step p within ∙ ap (λ b. cond b n (slice_index old p)) (eq-eqb p p refl)

  off : (i : ℕ) → i < max_priority → (p == i) ≡ false → slice_index new i ≡ slice_index old i
  off i lt e = step i lt ∙ ap (λ b. cond b n (slice_index old i)) e

  -- a chain that is made longer
  pub raised-highest : (h raised : Option ℕ) → n ≢ 0 → IsRaised p h raised
      → IsHighestChain old h → IsHighestChain new raised
  raised-highest None raised some is a =
      subst (IsHighestChain new) (sym is) (
        within,
        λ z. some (sym at ∙ z),
        λ i lt above.
            off i lt (grind (arith, nat_tests, above)) ∙ a i lt,
      )
  raised-highest (Some h) raised some is a =
      subst (IsHighestChain new) (sym is) (go (nat_le h p) refl)
    where
      go : (b : Bool) → nat_le h p ≡ b → IsHighestChain new (Some (max h p))
      go true e =
          let le : h ≤ p = grind (arith, nat_tests, e) in
          let same : p ≡ max h p = omega (arith, le) in
          subst (λ m. IsHighestChain new (Some m)) same (
            within,
            λ z. some (sym at ∙ z),
            λ i lt above.
                off i lt (grind (arith, nat_tests, above)) ∙ a.2 i lt (omega (arith, le, above)),
          )
      go false e =
          let less : p < h = grind (arith, nat_tests, e) in
          let same : h ≡ max h p = omega (arith, less) in
          subst (λ m. IsHighestChain new (Some m)) same (
            a.0,
            λ z. a.1 (sym (off h a.0 (grind (arith, nat_tests, less))) ∙ z),
            λ i lt above.
                off i lt (grind (arith, nat_tests, less, above)) ∙ a.2 i lt above,
          )

  stays-zero : n ≤ slice_index old p → (i : ℕ) → i < max_priority → slice_index old i ≡ 0
      → slice_index new i ≡ 0
  stays-zero le i lt z = go (p == i) refl
    where
      go : (b : Bool) → (p == i) ≡ b → slice_index new i ≡ 0
      go true e =
          let same : i ≡ p = grind (arith, nat_tests) in
          let none : slice_index old p ≡ 0 = ap (slice_index old) (sym same) ∙ z in
          ap (slice_index new) same ∙ omega (arith, at, le, none)
      go false e = off i lt e ∙ z

  -- a chain that is made shorter
  pub lowered-bound : (h : Option ℕ) → n ≤ slice_index old p → IsHighestChain old h
      → IsBound new h
  lowered-bound None le a = λ i lt. stays-zero le i lt (a i lt)
  lowered-bound (Some h) le a =
      (a.0, λ i lt above. stays-zero le i lt (a.2 i lt above))

  -- a chain that is made shorter and is not empty after that
  pub stays-highest : (h : Option ℕ) → n ≤ slice_index old p → slice_index new p ≢ 0
      → IsHighestChain old h → IsHighestChain new h
  stays-highest None le some a = λ i lt. stays-zero le i lt (a i lt)
  stays-highest (Some h) le some a =
      (a.0, λ z. go (p == h) refl z, λ i lt above. stays-zero le i lt (a.2 i lt above))
    where
      go : (b : Bool) → (p == h) ≡ b → slice_index new h ≡ 0 → ⊥
      go true e z =
          let same : p ≡ h = grind (arith, nat_tests) in
          some (ap (slice_index new) same ∙ z)
      go false e z = a.1 (sym (off h a.0 e) ∙ z)

-- the highest of each kind, after one more of this kind
abbrev pub AreRaised : Bool → ℕ → Option ℕ → Option ℕ → Option ℕ → Option ℕ → Type 0
AreRaised true p w r w' r' = IsRaised p w w' × (r' ≡ r)
AreRaised false p w r w' r' = IsRaised p r r' × (w' ≡ w)

-- a waiter is put in
pub put-highest : (k : Bool) (old new : Queue) (p : ℕ) (w r w' r' : Option ℕ)
    → p < max_priority → side_of (not k) new ≡ side_of (not k) old
    → IsStepped (side_of k old).counts (side_of k new).counts p
    (slice_index (side_of k old).counts p + 1)
    → AreRaised k p w r w' r'
    → IsHighestChain old.writers.counts w × IsHighestChain old.readers.counts r
    → IsHighestChain new.writers.counts w' × IsHighestChain new.readers.counts r'
put-highest true old new p w r w' r' within other step is a = (
  raised-highest old.writers.counts new.writers.counts p _ within step w w' (omega arith)
      is.0 a.0,
  subst (λ (s : Side). IsHighestChain s.counts r') (sym other)
      (subst (IsHighestChain old.readers.counts) (sym is.1) a.1),
)
put-highest false old new p w r w' r' within other step is a = (
  subst (λ (s : Side). IsHighestChain s.counts w') (sym other)
      (subst (IsHighestChain old.writers.counts) (sym is.1) a.0),
  raised-highest old.readers.counts new.readers.counts p _ within step r r' (omega arith)
      is.0 a.1,
)

-- a waiter is taken out
pub take-bound : (k : Bool) (old new : Queue) (p : ℕ) (w r : Option ℕ)
    → p < max_priority
    → IsStepped (side_of k old).counts (side_of k new).counts p
    (slice_index (side_of k old).counts p - 1)
    → IsHighestChain old.writers.counts w × IsHighestChain old.readers.counts r
    → IsBound (side_of k new).counts (cond k w r)
take-bound true old new p w r within step a =
    lowered-bound old.writers.counts new.writers.counts p _ within step w (omega arith) a.0
take-bound false old new p w r within step a =
    lowered-bound old.readers.counts new.readers.counts p _ within step r (omega arith) a.1

-- one of a kind is taken out
module _ (k : Bool) (old new : Queue) (p : ℕ) (w r : Option ℕ) (within : p < max_priority)
    (other : side_of (not k) new ≡ side_of (not k) old)
    (step : IsStepped (side_of k old).counts (side_of k new).counts p
    (slice_index (side_of k old).counts p - 1))
    (a : IsHighestChain old.writers.counts w × IsHighestChain old.readers.counts r) where
  pub writers-change : k ≡ true → (w' : Option ℕ) → IsHighestChain new.writers.counts w'
      → IsHighestChain new.writers.counts w' × IsHighestChain new.readers.counts r
  writers-change is w' h =
      let same = subst (λ l. side_of (not l) new ≡ side_of (not l) old) is other in
      (h, subst (λ (s : Side). IsHighestChain s.counts r) (sym same) a.1)

  pub readers-change : k ≡ false → (r' : Option ℕ) → IsHighestChain new.readers.counts r'
      → IsHighestChain new.writers.counts w × IsHighestChain new.readers.counts r'
  readers-change is r' h =
      let same = subst (λ l. side_of (not l) new ≡ side_of (not l) old) is other in
      (subst (λ (s : Side). IsHighestChain s.counts w) (sym same) a.0, h)

  step-of : (l : Bool) → k ≡ l → IsStepped (side_of l old).counts (side_of l new).counts p
      (slice_index (side_of l old).counts p - 1)
  step-of l is =
      subst (λ m. IsStepped (side_of m old).counts (side_of m new).counts p
      (slice_index (side_of m old).counts p - 1)) is step

  pub writers-stay : k ≡ true → slice_index new.writers.counts p ≢ 0
      → IsHighestChain new.writers.counts w × IsHighestChain new.readers.counts r
  writers-stay is some =
      writers-change is w
      (stays-highest old.writers.counts new.writers.counts p _ within (step-of true is) w
      (one-less (slice_index old.writers.counts p)) some a.0)

  pub readers-stay : k ≡ false → slice_index new.readers.counts p ≢ 0
      → IsHighestChain new.writers.counts w × IsHighestChain new.readers.counts r
  readers-stay is some =
      readers-change is r
      (stays-highest old.readers.counts new.readers.counts p _ within (step-of false is) r
      (one-less (slice_index old.readers.counts p)) some a.1)

pub some-wait : (was now : Queue) → was ≡ now → 1 ≤ now.len → was.len ≢ 0
some-wait was now same some z = let len = ap (λ (q : Queue). q.len) same in omega (arith, len)

-- the whole queue, after a waiter is taken out of one of its sides
pub taken-whole : (k : Bool) (p : ℕ) (before next : Option ℕ) (old now new : Queue) → old ≡ now
    → new.len + 1 ≡ old.len → side_of (not k) new ≡ side_of (not k) old
    → IsStepped (side_of k old).counts (side_of k new).counts p
    (slice_index (side_of k old).counts p - 1)
    → ((i : ℕ) → i < max_priority → slice_index_or (side_of k new).tails i None
    ≡ cond ((p == i) && not (is_some next)) before (slice_index_or (side_of k old).tails i None))
    → ((i : ℕ) → i < max_priority → slice_index_or (side_of k new).heads i None
    ≡ cond ((p == i) && not (is_some before)) next (slice_index_or (side_of k old).heads i None))
    → IsUnlinked k p before next now new
taken-whole k p before next old now new same len other counts tails heads =
    subst (λ q. IsUnlinked k p before next q new) same (record {
      len = len;
      other = λ i lt.
          record {
            count = ap (λ (s : Side). slice_index s.counts i) other;
            tail = ap (λ (s : Side). slice_index_or s.tails i None) other;
            head = ap (λ (s : Side). slice_index_or s.heads i None) other;
          };
      counts = counts;
      tails = tails;
      heads = heads;
    })

pub some-left : (n : ℕ) → n ≢ 0 → false ≡ (n == 0)
some-left n some = grind (arith, nat_tests, some)

-- the queue has no waiter
pub none-highest : (q : Queue) → HasNone q
    → IsHighestChain q.writers.counts None × IsHighestChain q.readers.counts None
none-highest q h = (λ p lt. h.counts true p lt, λ p lt. h.counts false p lt)

-- the highest among the counts below one that is zero
module _ (counts : List ℕ) (i : ℕ) (all : length counts ≡ max_priority)
    (bound : (i < max_priority) × NoneAbove counts i) (zero : slice_index counts i ≡ 0) where
  shorter : length (take i counts) ≡ i
  shorter = let within = bound.0 in omega (arith, length-take i counts, all, within)

  same : (j : ℕ) → j < i → slice_index (take i counts) j ≡ slice_index counts j
  same j less = get_or-take i counts j 0 less

  none-from : (j : ℕ) → j < max_priority → i ≤ j → slice_index counts j ≡ 0
  none-from j lt le = go (nat_le j i) refl
    where
      go : (b : Bool) → nat_le j i ≡ b → slice_index counts j ≡ 0
      go true e =
          let own : j ≡ i = grind (arith, nat_tests, le) in
          ap (slice_index counts) own ∙ zero
      go false e = bound.1 j lt (grind (arith, nat_tests))

  zero-at : (j : ℕ) → j < max_priority → (j < i → slice_index counts j ≡ 0)
      → slice_index counts j ≡ 0
  zero-at j lt below = go (nat_le i j) refl
    where
      go : (b : Bool) → nat_le i j ≡ b → slice_index counts j ≡ 0
      go true e = none-from j lt (grind (arith, nat_tests))
      go false e = below (grind (arith, nat_tests))

  pub lowered-highest : (found : Option ℕ) → IsHighest (take i counts) found
      → IsHighestChain counts found
  lowered-highest None h = λ j lt.
      zero-at j lt (λ less. sym (same j less) ∙ h j (omega (arith, less, shorter)))
  lowered-highest (Some k) h =
      let within = bound.0 in
      let there = h.0.0 in
      let less : k < i = omega (arith, there, shorter) in (
        omega (arith, less, within),
        λ z. h.0.1 (same k less ∙ z),
        λ j lt above. zero-at j lt (λ below. go j below above (slice_index counts j == 0) refl),
      )
    where
      go : (j : ℕ) → j < i → k < j → (b : Bool) → (slice_index counts j == 0) ≡ b
          → slice_index counts j ≡ 0
      go j below above true e = grind (arith, nat_tests, e)
      go j below above false e =
          let some : slice_index counts j ≢ 0 = grind (arith, nat_tests, e) in
          let le = h.1 j (omega (arith, below, shorter), λ z. some (sym (same j below) ∙ z)) in
          absurd (omega (arith, le, above))

-- a lone chain is the highest of its kind
alone-highest : (counts : List ℕ) (p n : ℕ) → p < max_priority → n ≢ 0
    → ((i : ℕ) → i < max_priority → slice_index counts i ≡ cond (p == i) n 0)
    → IsHighestChain counts (Some p)
alone-highest counts p n within some count = (
  within,
  λ z. some (sym (ap (λ b. cond b n 0) (eq-eqb p p refl)) ∙ (sym (count p within) ∙ z)),
  λ i lt above.
      let disjoint : (p == i) ≡ false = grind (arith, nat_tests, above) in
      count i lt ∙ ap (λ b. cond b n 0) disjoint,
)

pub lone-highest : (k : Bool) (p n : ℕ) (head tail : Option ℕ) (q : Queue) (w r : Option ℕ)
    → p < max_priority → n ≢ 0 → IsLone k p head tail n q → w ≡ cond k (Some p) None
    → r ≡ cond k None (Some p)
    → IsHighestChain q.writers.counts w × IsHighestChain q.readers.counts r
lone-highest true p n head tail q w r within some is writer reader = (
  subst (IsHighestChain q.writers.counts) (sym writer)
      (alone-highest q.writers.counts p n within some is.count),
  subst (IsHighestChain q.readers.counts) (sym reader) (λ i lt. (is.other i lt).count),
)
lone-highest false p n head tail q w r within some is writer reader = (
  subst (IsHighestChain q.writers.counts) (sym writer) (λ i lt. (is.other i lt).count),
  subst (IsHighestChain q.readers.counts) (sym reader)
      (alone-highest q.readers.counts p n within some is.count),
)
