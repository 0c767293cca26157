-- A queue whose last waiter is taken out gives its box back.
use Rattle.std.proofs.Common.{◌≡◌, ℕ, ◌==◌, ◌<◌, ◌+◌, Bool, true, false, cond, not, List, []}
use Rattle.std.proofs.Common.{◌∷◌, length, filter, Option, Some, None, is_some, nat_eq}
use Rattle.std.proofs.Common.{refl, sym, ap, ◌∙◌, subst, arith}
use Rattle.std.specs.Prelude.{IfSome}
use Rattle.std.specs.Map.{lookup}
use Rattle.std.proofs.lemmas.Bool.Decides.{nat_tests}
use Rattle.std.proofs.lemmas.List.{nil_from_length}
use Rattle.pt_types.specs.Limits.{max_priority}
use Rattle.pt_waitq.specs.declared.waiter.Waiter.{Waiter}
use Rattle.pt_chains.specs.declared.nodes.Node.{Node}
use Rattle.pt_chains.specs.declared.sides.Queue.{Queue}
use Rattle.pt_waitq.specs.Queues.{In}
use Rattle.pt_waitq.specs.Waits.{is_listed, queue_of}
use Rattle.pt_chains.specs.Chains.{numbers, is_at, node_in, next_in, before_in, entry_in}
use Rattle.pt_chains.specs.Chains.{client_of_node}
use Rattle.pt_chains.specs.Chains.{node_index_of}
use Rattle.pt_chains.specs.Chains.{AreChains, HasNone, IsUnlinked}
use Rattle.pt_chains.specs.Boxes.{no_queue, IsEmptied}
use Rattle.pt_chains.proofs.ChainLemmas.{some_same, is-listed}
use Rattle.pt_chains.proofs.MadeLemmas.{empty-none, chains-made}
use Rattle.pt_chains.proofs.StepLemmas.{step-take}
use Rattle.pt_chains.proofs.BusyLemmas.{listed-none, zero-listed, more-listed}
use Rattle.pt_chains.proofs.BoxLemmas.{none-without}

-- the queues, with this value for one of them
abbrev with_queue : ℕ → Queue → List (ℕ × Queue) → List (ℕ × Queue)
with_queue o q [] = []
with_queue o q (e ∷ es) = (e.0, cond (e.0 == o) q e.1) ∷ with_queue o q es

numbers-with : (o : ℕ) (q : Queue) (es : List (ℕ × Queue))
    → numbers (with_queue o q es) ≡ numbers es
numbers-with o q [] = refl
numbers-with o q (e ∷ es) = ap (λ ns. e.0 ∷ ns) (numbers-with o q es)

lookup-with : (o x : ℕ) (q : Queue) (es : List (ℕ × Queue)) → (o == x) ≡ false
    → lookup (nat_eq x) (with_queue o q es) ≡ lookup (nat_eq x) es
lookup-with o x q [] off = refl
lookup-with o x q (e ∷ es) off =
    go (nat_eq x e.0) (e.0 == o) refl refl (lookup-with o x q es off)
  where
    go : (s t : Bool) → nat_eq x e.0 ≡ s → (e.0 == o) ≡ t
        → lookup (nat_eq x) (with_queue o q es) ≡ lookup (nat_eq x) es
        → cond s (Some (cond t q e.1)) (lookup (nat_eq x) (with_queue o q es))
        ≡ cond s (Some e.1) (lookup (nat_eq x) es)
    go true true i j ih = absurd (grind (arith, nat_tests))
    go true false i j ih = refl
    go false t i j ih = ih

own-with : (o : ℕ) (q r : Queue) (es : List (ℕ × Queue)) → lookup (nat_eq o) es ≡ Some r
    → lookup (nat_eq o) (with_queue o q es) ≡ Some q
own-with o q r [] h = cc
own-with o q r (e ∷ es) h = go (nat_eq o e.0) (e.0 == o) refl refl h (own-with o q r es)
  where
    go : (s t : Bool) → nat_eq o e.0 ≡ s → (e.0 == o) ≡ t
        → cond s (Some e.1) (lookup (nat_eq o) es) ≡ Some r
        → (lookup (nat_eq o) es ≡ Some r → lookup (nat_eq o) (with_queue o q es) ≡ Some q)
        → cond s (Some (cond t q e.1)) (lookup (nat_eq o) (with_queue o q es)) ≡ Some q
    go true true i j h ih = refl
    go true false i j h ih = absurd (grind (arith, nat_tests))
    go false t i j h ih = ih h

module _ (homes : List (ℕ × ℕ)) (nodes nodes' : List (Option Node))
    (queues queues' : List (ℕ × Queue)) (es : List (ℕ × Waiter)) (o p n : ℕ) (w : Waiter)
    (next before : Option ℕ) (a : AreChains homes nodes queues es) (in_es : In (o, w) es)
    (home : node_index_of homes w.client ≡ Some n)
    (is : node_in nodes n
    ≡ Some (record { object = Some o; waiter = w; next = next; before = before }))
    (level : p + 1 ≡ w.prio) (within : p < max_priority)
    (is_queue : is_listed o (numbers queues) ≡ true)
    (same : numbers queues' ≡ numbers queues)
    (others : (x : ℕ) → (o == x) ≡ false
    → lookup (nat_eq x) queues' ≡ lookup (nat_eq x) queues)
    (there : (m : ℕ) → is_some (node_in nodes' m) ≡ is_some (node_in nodes m))
    (nexts : (c : ℕ) → next_in nodes' c
    ≡ cond (n == c) None (cond (is_at c before) next (next_in nodes c)))
    (befores : (c : ℕ) → before_in nodes' c
    ≡ cond (n == c) None (cond (is_at c next) before (before_in nodes c)))
    (entries : (c : ℕ) → entry_in nodes' c ≡ cond (n == c) None (entry_in nodes c))
    (clients : (c : ℕ) → client_of_node nodes' c ≡ client_of_node nodes c) where
  abbrev left : List (ℕ × Waiter)
  left = filter (λ e. not (e.1.client == w.client)) es

  -- what is true of the waiters and queues that are left, and of the box that is given back
  pub record IsLeft (box : Option Queue) : Type 0 where
    pub chains : AreChains homes nodes' queues' left
    pub none : IfSome box HasNone
    pub last : is_some box ≡ not (is_listed o (numbers left))

  old : (q : Queue) × (lookup (nat_eq o) queues ≡ Some q)
  old = is-listed queues o is_queue

  new : (q : Queue) × (lookup (nat_eq o) queues' ≡ Some q)
  new = is-listed queues' o (ap (is_listed o) same ∙ is_queue)

  -- a waiter is still there
  still : IsEmptied w.writer p before next old.0 new.0 None → IsLeft None
  still done =
      record { chains = chains; none = tt; last = sym (ap not some) }
    where
      chains : AreChains homes nodes' queues' left
      chains =
          step-take homes nodes nodes' queues queues' es o p n w next before a in_es home is level
          within is_queue same others
          (λ q r h k.
          subst (λ x. IsUnlinked w.writer p before next x r) (some_same old.0 q (sym old.1 ∙ h))
          (subst (λ x. IsUnlinked w.writer p before next old.0 x) (some_same new.0 r (sym new.1
          ∙ k))
          done.taken))
          there nexts befores entries clients

      some : is_listed o (numbers left) ≡ true
      some =
          more-listed o left
          (λ z. done.left (chains.len o new.0 new.1 ∙ z))

  -- no waiter is left there
  emptied : (q : Queue) → IsEmptied w.writer p before next old.0 new.0 (Some q) → IsLeft (Some q)
  emptied q done =
      record {
        chains =
            chains-made homes nodes' between queues' left o false chains
            (listed-none o left gone) (sym (numbers-with o q queues'))
            (λ x off. sym (lookup-with o x q queues' off))
            (λ r h. subst HasNone (some_same no_queue r
            (ap (λ x. Some x) (sym done.emptied.1) ∙ (sym new.1 ∙ h))) none-without);
        none = empty-none homes nodes' between left chains o empty q own;
        last = sym (ap not gone);
      }
    where
      between : List (ℕ × Queue)
      between = with_queue o q queues'

      own : lookup (nat_eq o) between ≡ Some q
      own = own-with o q new.0 queues' new.1

      chains : AreChains homes nodes' between left
      chains =
          step-take homes nodes nodes' queues between es o p n w next before a in_es home is level
          within is_queue (numbers-with o q queues' ∙ same)
          (λ x off. lookup-with o x q queues' off ∙ others x off)
          (λ r s h k.
          subst (λ x. IsUnlinked w.writer p before next x s) (some_same old.0 r (sym old.1 ∙ h))
          (subst (λ x. IsUnlinked w.writer p before next old.0 x) (some_same q s (sym own ∙ k))
          done.taken))
          there nexts befores entries clients

      zero : length (queue_of o left) ≡ 0
      zero = sym (chains.len o q own) ∙ done.emptied.0

      empty : queue_of o left ≡ []
      empty = nil_from_length _ zero

      gone : is_listed o (numbers left) ≡ false
      gone = zero-listed o left zero

  pub step-emptied : (box : Option Queue)
      → ((q r : Queue) → lookup (nat_eq o) queues ≡ Some q → lookup (nat_eq o) queues' ≡ Some r
      → IsEmptied w.writer p before next q r box)
      → IsLeft box
  step-emptied None f = still (f old.0 new.0 old.1 new.1)
  step-emptied (Some q) f = emptied q (f old.0 new.0 old.1 new.1)
