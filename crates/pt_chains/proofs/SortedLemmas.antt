-- Chains in the order of arrival, and the queues that they make.
use Rattle.std.proofs.Common.{◌≡◌, ℕ, ◌==◌, Bool, true, false, cond, ◌&&◌, List, [], ◌∷◌, ◌++◌, map}
use Rattle.std.proofs.Common.{filter, refl, sym, ap, ◌∙◌, arith}
use Rattle.std.proofs.lemmas.Bool.Decides.{nat_tests}
use Rattle.std.specs.List.{AllByRecursion as Each}
use Rattle.pt_types.specs.Times.{pair_before}
use Rattle.pt_waitq.specs.declared.waiter.Waiter.{Waiter}
use Rattle.pt_waitq.specs.Queues.{arrival, comes_before, is_like, HasLatestArrival, insert_in_order}
use Rattle.pt_waitq.specs.Waits.{queue_of, queue_from}
use Rattle.pt_waitq.specs.QueueLemmas.{queue_of-more, queue_of-filter}
use Rattle.pt_chains.specs.Chains.{is_kind, in_chain, chain_of}

pub insert-last : (w : Waiter) (vs : List Waiter) → Each (λ v. comes_before w v ≡ false) vs
    → insert_in_order w vs ≡ vs ++ w ∷ []
insert-last w [] a = refl
insert-last w (v ∷ vs) a = rw a.0 (ap (λ xs. v ∷ xs) (insert-last w vs a.1))

-- a waiter of the same kind that is not later stays ahead
pub latest-behind : (w v : Waiter) (k : Bool) (p : ℕ) → is_kind k p w ≡ true → is_kind k p v ≡ true
    → (is_like v w && pair_before (arrival w) (arrival v)) ≡ false → comes_before w v ≡ false
latest-behind w v k p a b c = grind (arith, nat_tests)

-- the waiters of this kind in a queue
pub kind-of : (o : ℕ) (k : Bool) (p : ℕ) (es : List (ℕ × Waiter))
    → queue_of o (chain_of o k p es) ≡ filter (is_kind k p) (queue_of o es)
kind-of o k p es = only o es ∙ queue_of-filter (is_kind k p) o es
  where
    own : List (ℕ × Waiter) → List (ℕ × Waiter)
    own ds = filter (λ e. is_kind k p e.1) ds

    from : (ws : List Waiter) (o : ℕ) (ds : List (ℕ × Waiter))
        → queue_from ws o (filter (in_chain o k p) ds) ≡ queue_from ws o (filter
        (λ e. is_kind k p e.1) ds)
    from ws o [] = refl
    from ws o (d ∷ ds) = go (d.0 == o) (is_kind k p d.1) refl (λ vs. from vs o ds)
      where
        rest : List (ℕ × Waiter)
        rest = filter (in_chain o k p) ds

        go : (a b : Bool) → (d.0 == o) ≡ a
            → ((vs : List Waiter) → queue_from vs o (filter (in_chain o k p) ds)
            ≡ queue_from vs o (filter (λ e. is_kind k p e.1) ds))
            → queue_from ws o (cond (a && b) (d ∷ rest) rest)
            ≡ queue_from ws o (cond b (d ∷ filter (λ e. is_kind k p e.1) ds) (filter
            (λ e. is_kind k p e.1) ds))
        go true true h ih = ih _
        go true false h ih = ih ws
        go false true h ih =
            ih ws ∙ sym (ap (λ b. queue_from (cond b (insert_in_order d.1 ws) ws) o (filter
            (λ e. is_kind k p e.1) ds)) h)
        go false false h ih = ih ws

    only : (o : ℕ) (ds : List (ℕ × Waiter))
        → queue_of o (filter (in_chain o k p) ds) ≡ queue_of o (filter (λ e. is_kind k p e.1) ds)
    only o ds = from [] o ds

kind-behind : (w : Waiter) (k : Bool) (p : ℕ) (vs : List Waiter) → is_kind k p w ≡ true
    → HasLatestArrival w vs
    → Each (λ v. comes_before w v ≡ false) (filter (is_kind k p) vs)
kind-behind w k p [] a l = tt
kind-behind w k p (v ∷ vs) a l = go (is_kind k p v) refl (kind-behind w k p vs a l.1)
  where
    go : (b : Bool) → is_kind k p v ≡ b → Each (λ v. comes_before w v
        ≡ false) (filter (is_kind k p) vs)
        → Each (λ v. comes_before w v ≡ false) (cond b (v ∷ filter (is_kind k p) vs) (filter
        (is_kind k p) vs))
    go true e ih = (latest-behind w v k p a e l.0, ih)
    go false e ih = ih

map-append : (es : List (ℕ × Waiter)) (e : ℕ × Waiter)
    → map (λ (x : ℕ × Waiter). x.1) (es ++ e ∷ []) ≡ map (λ (x : ℕ × Waiter). x.1) es ++ e.1 ∷ []
map-append [] e = refl
map-append (x ∷ es) e = ap (λ ws. x.1 ∷ ws) (map-append es e)

-- the latest waiter of its kind goes after its chain, which stays in order of arrival
pub sorted-more : (o : ℕ) (k : Bool) (p : ℕ) (es : List (ℕ × Waiter)) (w : Waiter)
    → is_kind k p w ≡ true → HasLatestArrival w (queue_of o es)
    → queue_of o (chain_of o k p es) ≡ map (λ e. e.1) (chain_of o k p es)
    → queue_of o (chain_of o k p es ++ (o, w) ∷ []) ≡ map (λ e. e.1) (chain_of o k p es ++
    (o, w) ∷ [])
sorted-more o k p es w a l s =
    let chain = chain_of o k p es in
    let own : (o == o) ≡ true = grind (arith, nat_tests) in
    queue_of-more o chain (o, w)
    ∙ (ap (λ b. cond b (insert_in_order w (queue_of o chain)) (queue_of o chain)) own
    ∙ (ap (insert_in_order w) (kind-of o k p es)
    ∙ (insert-last w (filter (is_kind k p) (queue_of o es)) (kind-behind w k p (queue_of o es) a l)
    ∙ (ap (λ ws. ws ++ w ∷ []) (sym (kind-of o k p es) ∙ s) ∙ sym (map-append chain (o, w))))))

-- and stays so if some are taken out
pub sorted-fewer : (o : ℕ) (t : Waiter → Bool) (es : List (ℕ × Waiter))
    → queue_of o es ≡ map (λ e. e.1) es
    → queue_of o (filter (λ e. t e.1) es) ≡ map (λ e. e.1) (filter (λ e. t e.1) es)
sorted-fewer o t es s = queue_of-filter t o es ∙ (ap (filter t) s ∙ filter-map es)
  where
    filter-map : (ds : List (ℕ × Waiter))
        → filter t (map (λ (e : ℕ × Waiter). e.1) ds) ≡ map (λ (e : ℕ
        × Waiter). e.1) (filter (λ e. t e.1) ds)
    filter-map [] = refl
    filter-map (d ∷ ds) = go (t d.1) (filter-map ds)
      where
        go : (b : Bool) → filter t (map (λ (e : ℕ × Waiter). e.1) ds) ≡ map (λ (e : ℕ
            × Waiter). e.1) (filter (λ e. t e.1) ds)
            → cond b (d.1 ∷ filter t (map (λ (e : ℕ × Waiter). e.1) ds)) (filter t (map (λ
            (e : ℕ × Waiter). e.1) ds))
            ≡ map (λ (e : ℕ × Waiter). e.1) (cond b (d ∷ filter (λ e. t e.1) ds) (filter
            (λ e. t e.1) ds))
        go true ih = ap (λ ws. d.1 ∷ ws) ih
        go false ih = ih
