-- Queues as they are made and discarded.
use Rattle.std.proofs.Common.{◌≡◌, ℕ, ◌==◌, ◌<◌, ◌+◌, Bool, true, false, cond, ◌&&◌, not, List, []}
use Rattle.std.proofs.Common.{◌∷◌, ◌++◌, length, Option, Some, None, is_some, nat_eq, refl, sym, ap}
use Rattle.std.proofs.Common.{◌∙◌, subst, arith}
use Rattle.std.specs.Map.{lookup}
use Rattle.std.specs.List.{AllByRecursion as Each}
use Rattle.std.proofs.lemmas.Bool.Decides.{nat_tests}
use Rattle.std.proofs.lemmas.List.{nil_from_length}
use Rattle.pt_types.specs.Limits.{max_priority}
use Rattle.pt_waitq.specs.declared.waiter.Waiter.{Waiter}
use Rattle.pt_chains.specs.declared.nodes.Node.{Node}
use Rattle.pt_chains.specs.declared.sides.Queue.{Queue}
use Rattle.pt_waitq.specs.Waits.{is_listed, queue_of, AllQueued}
use Rattle.pt_chains.specs.Chains.{numbers, first_in, last_in, side_of, IsChain, chain_of, nodes_of}
use Rattle.pt_chains.specs.Chains.{next_in, before_in, index_of, queued_waiters, AreChains, HasNone}
use Rattle.pt_chains.specs.Chains.{HasNoWaiter}
use Rattle.pt_chains.specs.Boxes.{AreBoxes}
use Rattle.pt_waitq.proofs.ChangeLemmas.{stand-more, stand-fewer}
use Rattle.pt_chains.proofs.ChainLemmas.{listed-lookup, unmade-none, queue-none}
use Rattle.pt_chains.proofs.FirstLemmas.{no-waiter}

none_some : {X : Type 0} (x : X) → None ≡ Some x → ⊥
none_some x e = cc

-- a queue with no entry has no chain with one
chain-none : (o : ℕ) (k : Bool) (p : ℕ) (es : List (ℕ × Waiter))
    → Each (λ e. (e.0 == o) ≡ false) es → chain_of o k p es ≡ []
chain-none o k p [] a = refl
chain-none o k p (e ∷ es) a = rw a.0 (chain-none o k p es a.1)

-- a queue that does not exist has no entry
pub made-absent : (homes : List (ℕ × ℕ)) (nodes : List (Option Node)) (queues : List (ℕ × Queue))
    (es : List (ℕ × Waiter)) (o : ℕ) → AreChains homes nodes queues es
    → lookup (nat_eq o) queues ≡ None → Each (λ e. (e.0 == o) ≡ false) es
made-absent homes nodes queues es o a none =
    unmade-none o (numbers queues) es a.queued.is_queue (listed-lookup o queues ∙ ap is_some none)

-- no client and no queue
pub chains-none : (homes : List (ℕ × ℕ)) (nodes : List (Option Node)) (queues : List (ℕ × Queue))
    (log : List (Option ℕ × Waiter)) → homes ≡ [] → nodes ≡ [] → queues ≡ [] → log ≡ []
    → AreChains homes nodes queues (queued_waiters log)
chains-none homes nodes queues log h n q l =
    subst (λ x. AreChains x nodes queues (queued_waiters log)) (sym h)
    (subst (λ x. AreChains [] x queues (queued_waiters log)) (sym n)
    (subst (λ x. AreChains [] [] x (queued_waiters log)) (sym q)
    (subst (λ x. AreChains [] [] [] (queued_waiters x)) (sym l) (record {
      queued = record { once = tt; is_queue = tt };
      homed =
          record {
            there = λ c m e. absurd (cc e);
            disjoint = λ c d m e f. absurd (cc e);
            own = λ m c e. absurd (cc e);
            bounded = omega arith;
          };
      own = λ c. refl;
      levels = tt;
      len = λ o r e. absurd (cc e);
      sorted = λ o k p. refl;
      chains = λ o r e k p lt. absurd (cc e);
    }))))

pub boxes-none : (homes : List (ℕ × ℕ)) (queues : List (ℕ × Queue))
    (log : List (Option ℕ × Waiter)) (spares room : ℕ) → homes ≡ [] → log ≡ [] → spares ≡ 0
    → AreBoxes (length homes) (length (numbers queues)) (queued_waiters log) spares room 0
boxes-none homes queues log spares room h l s =
    subst (λ x. AreBoxes (length x) (length (numbers queues)) (queued_waiters log) spares room 0)
    (sym
    h)
    (subst (λ x. AreBoxes 0 (length (numbers queues)) (queued_waiters x) spares room 0) (sym l)
    (record { count = omega (arith, s); enough = omega arith; fit = omega arith }))

module _ (homes : List (ℕ × ℕ)) (nodes : List (Option Node)) (queues queues' : List (ℕ × Queue))
    (es : List (ℕ × Waiter)) (o : ℕ) (b : Bool) (a : AreChains homes nodes queues es)
    (absent : Each (λ e. (e.0 == o) ≡ false) es)
    (listed : numbers queues' ≡ cond b (numbers queues ++ o ∷ []) (numbers queues))
    (others : (x : ℕ) → (o == x) ≡ false
    → lookup (nat_eq x) queues' ≡ lookup (nat_eq x) queues)
    (new : (q : Queue) → lookup (nat_eq o) queues' ≡ Some q → HasNone q) where
  pub made-stand : AllQueued (numbers queues') es
  made-stand = go b listed
    where
      go : (t : Bool) → numbers queues' ≡ cond t (numbers queues ++ o ∷ []) (numbers queues)
          → AllQueued (numbers queues') es
      go true e = stand-more (numbers queues) (numbers queues') o es a.queued e
      go false e = subst (λ os. AllQueued os es) (sym e) a.queued

  made-len : (x : ℕ) (q : Queue) (t : Bool) → (o == x) ≡ t → lookup (nat_eq x) queues' ≡ Some q
      → q.len ≡ length (queue_of x es)
  made-len x q true e h =
      let same : x ≡ o = grind (arith, nat_tests) in
      let empty = queue-none o es absent in
      (new q (ap (λ y. lookup (nat_eq y) queues') (sym same) ∙ h)).len
      ∙ sym (ap (λ y. length (queue_of y es)) same ∙ ap length empty)
  made-len x q false e h = a.len x q (sym (others x e) ∙ h)

  made-chain : (x : ℕ) (q : Queue) (t : Bool) → (o == x) ≡ t → lookup (nat_eq x) queues' ≡ Some q
      → (k : Bool) (p : ℕ) → p < max_priority
      → IsChain (next_in nodes) (before_in nodes) (side_of k q) p
      (nodes_of (index_of homes) (chain_of x k (p + 1) es))
  made-chain x q true e h k p lt =
      let same : o ≡ x = grind (arith, nat_tests) in
      let n = new q (ap (λ y. lookup (nat_eq y) queues') same ∙ h) in
      let empty = ap (λ y. chain_of y k (p + 1) es) (sym same) ∙ chain-none o k (p + 1) es absent in
      subst (λ ds. IsChain (next_in nodes) (before_in nodes) (side_of k q) p
      (nodes_of (index_of homes) ds)) (sym empty)
      (record {
        count = n.counts k p lt;
        head = n.heads k p lt;
        tail = n.tails k p lt;
        links = tt;
      })
  made-chain x q false e h k p lt = a.chains x q (sym (others x e) ∙ h) k p lt

  pub chains-made : AreChains homes nodes queues' es
  chains-made =
      record {
        queued = made-stand;
        homed = a.homed;
        own = a.own;
        levels = a.levels;
        len = λ x q h. made-len x q (o == x) refl h;
        sorted = a.sorted;
        chains = λ x q h k p lt. made-chain x q (o == x) refl h k p lt;
      }

-- all chains of an empty queue are empty
pub empty-none : (homes : List (ℕ × ℕ)) (nodes : List (Option Node)) (queues : List (ℕ × Queue))
    (es : List (ℕ × Waiter)) → AreChains homes nodes queues es → (o : ℕ) → queue_of o es ≡ []
    → (q : Queue) → lookup (nat_eq o) queues ≡ Some q → HasNone q
empty-none homes nodes queues es a o empty q there =
    record {
      len = len;
      counts = none;
      heads = λ k p lt. (a.chains o q there k p lt).head ∙ ap first_in (gone k p lt);
      tails = λ k p lt. (a.chains o q there k p lt).tail ∙ ap (last_in None) (gone k p lt);
    }
  where
    len : q.len ≡ 0
    len = a.len o q there ∙ ap length empty

    none : HasNoWaiter q
    none = no-waiter homes nodes queues es a o q there len

    gone : (k : Bool) (p : ℕ) → p < max_priority
        → nodes_of (index_of homes) (chain_of o k (p + 1) es) ≡ []
    gone k p lt = nil_from_length _ (sym (a.chains o q there k p lt).count ∙ none k p lt)

-- an empty queue is discarded
module _ (homes : List (ℕ × ℕ)) (nodes : List (Option Node)) (queues queues' : List (ℕ × Queue))
    (es : List (ℕ × Waiter)) (o : ℕ) (a : AreChains homes nodes queues es)
    (now : (x : ℕ) → lookup (nat_eq x) queues' ≡ cond (o == x) None (lookup (nat_eq x) queues))
    (empty : queue_of o es ≡ []) where
  pub discard-made : (x : ℕ) → is_listed x (numbers queues')
      ≡ (not (o == x) && is_listed x (numbers queues))
  discard-made x =
      listed-lookup x queues' ∙ (ap is_some (now x) ∙ go (o == x))
    where
      go : (t : Bool) → is_some (cond t None (lookup (nat_eq x) queues))
          ≡ (not t && is_listed x (numbers queues))
      go true = refl
      go false = sym (listed-lookup x queues)

  pub discard-stand : AllQueued (numbers queues') es
  discard-stand =
      stand-fewer (numbers queues) (numbers queues') o es a.queued discard-made empty

  left : (x : ℕ) (q : Queue) → lookup (nat_eq x) queues' ≡ Some q
      → lookup (nat_eq x) queues ≡ Some q
  left x q h = go (o == x) (sym (now x) ∙ h)
    where
      go : (t : Bool) → cond t None (lookup (nat_eq x) queues) ≡ Some q
          → lookup (nat_eq x) queues ≡ Some q
      go true e = absurd (none_some q e)
      go false e = e

  pub chains-discarded : AreChains homes nodes queues' es
  chains-discarded =
      record {
        queued = discard-stand;
        homed = a.homed;
        own = a.own;
        levels = a.levels;
        len = λ x q h. a.len x q (left x q h);
        sorted = a.sorted;
        chains = λ x q h k p lt. a.chains x q (left x q h) k p lt;
      }
