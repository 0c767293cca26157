-- A robust mutex enters the chain of its owner, or leaves it.
use Rattle.std.proofs.Common.{◌≡◌, ◌∙◌, ℕ, Bool, true, false, ◌==◌, cond, nat_eq, List, ◌∷◌, Option}
use Rattle.std.proofs.Common.{Some, None, is_none, is_some, refl, sym, ap, subst, true≢false, inl}
use Rattle.std.proofs.Common.{inr, arith}
use Rattle.std.specs.Option.{option_and_then}
use Rattle.std.proofs.lemmas.Bool.Decides.{eqb_tells, nat_tests}
use Rattle.pt_table.specs.declared.clients.ClientRow.{ClientRow}
use Rattle.pt_table.specs.ClientRows.{client_value, with_client}
use Rattle.pt_table.specs.declared.objects.ObjectRow.{ObjectRow}
use Rattle.pt_table.specs.Linked.{is_linked, IsRowChain, IsRising, but_number, KeepsOthers}
use Rattle.pt_table.specs.Linked.{AreDisjoint}
use Rattle.pt_table.proofs.ChainCallers.{rising-kept, rising-left}
use Rattle.pt_model.specs.Found.{is_some_and}
use Rattle.pt_records.specs.declared.clients.Caller.{Caller}
use Rattle.pt_records.specs.declared.objects.Object.{Object}
use Rattle.pt_records.specs.Chained.{is_gone, robust_owner_at, HasOwned, AreChained, EntersChain}
use Rattle.pt_records.specs.Chained.{UnlinksFromChain}
use Rattle.pt_records.specs.Writes.{WritesCaller}
use Rattle.pt_records.proofs.CallerWrites.{writes-by}
use Rattle.pt_records.proofs.Chaining.{passed}
use Rattle.pt_records.proofs.Listing.{but-kept, but-listed}

-- an owner is not two clients
pub two : (k c d : ℕ) → (c ≡ d → ⊥) → (k == c) ≡ true → (k == d) ≡ true → ⊥
two k c d apart e f = grind (arith, nat_tests)

module _ {A : Type 0} where
  -- a client's row is written with another head as a robust mutex enters its chain
  pub owned-more : (clients : List (ClientRow Caller)) (old new : List (ObjectRow (Object A)))
      (n c m : ℕ) (u : Caller) (head : Option ℕ) → n ≡ c → Some u ≡ client_value clients n
      → EntersChain old new u.owned head m → (v : Caller) → client_value clients c ≡ Some v
      → (h : Option ℕ)
      × (WritesCaller clients (with_client clients n (record u { owned = head })) c
      (record v { owned = h }) × EntersChain old new v.owned h m)
  owned-more clients old new n c m u head number is enters v e =
      let found : client_value clients n ≡ Some v = ap (client_value clients) number ∙ e in
      let same : u ≡ v = cc in (
        head,
        (
          subst (λ d. WritesCaller clients (with_client clients n (record u { owned = head })) d
              (record v { owned = head })) number
              (writes-by (λ x. record x { owned = head }) clients n u is v found),
          subst (λ x. EntersChain old new x.owned head m) same enters,
        ),
      )

  -- the same as a robust mutex leaves its chain
  pub owned-less : (clients : List (ClientRow Caller)) (old new : List (ObjectRow (Object A)))
      (n c m : ℕ) (u : Caller) (first : ℕ) (head : Option ℕ) → n ≡ c
      → Some u ≡ client_value clients n
      → u.owned ≡ Some first → UnlinksFromChain old new (Some first) head m → (v : Caller)
      → client_value clients c ≡ Some v → (h : Option ℕ)
      × (WritesCaller clients (with_client clients n (record u { owned = head })) c
      (record v { owned = h }) × UnlinksFromChain old new v.owned h m)
  owned-less clients old new n c m u first head number is begins leaves v e =
      let found : client_value clients n ≡ Some v = ap (client_value clients) number ∙ e in
      let same : u ≡ v = cc in
      let its : Some first ≡ v.owned = sym begins ∙ ap (λ (x : Caller). x.owned) same in (
        head,
        (
          subst (λ d. WritesCaller clients (with_client clients n (record u { owned = head })) d
              (record v { owned = head })) number
              (writes-by (λ x. record x { owned = head }) clients n u is v found),
          subst (λ x. UnlinksFromChain old new x head m) its leaves,
        ),
      )

  -- the owners, except that an object has another one now
  abbrev pub Owned : (old new : List (ObjectRow (Object A))) → ℕ → Option ℕ → Type 0
  Owned old new m owner =
      (p : ℕ) → robust_owner_at new p ≡ cond (nat_eq m p) owner (robust_owner_at old p)

  module _ (old new : List (ObjectRow (Object A))) (head : Option ℕ) (test : ℕ → Bool)
      (h : HasOwned old head test) where
    -- a chain with owners that the test refuses has no object in common with this one
    others-apart : (other : Option ℕ) (its : ℕ → Bool) (o : HasOwned old other its)
        → ((k : ℕ) → test k ≡ true → its k ≡ true → ⊥) → AreDisjoint h.numbers o.numbers
    others-apart other its o differ n i j =
        let p = passed test (robust_owner_at old n) (h.listed n i) in
        differ p.0 p.1.1 (sym (ap (is_some_and its) p.1.0) ∙ o.listed n j)

    -- another chain, with owners that the test refuses, still rises
    others-rise : KeepsOthers old new head → (other : Option ℕ) (its : ℕ → Bool)
        → (o : HasOwned old other its) → ((k : ℕ) → test k ≡ true → its k ≡ true → ⊥)
        → ((ns : List ℕ) → IsRowChain old other ns → IsRising ns)
        → (ns : List ℕ) → IsRowChain new other ns → IsRising ns
    others-rise kept other its o differ rise =
        rising-kept old new other o.numbers o.chain
        (kept h.numbers h.chain other o.numbers o.chain (others-apart other its o differ)) rise

    -- another chain, with owners that the test refuses
    pub others : KeepsOthers old new head → (other : Option ℕ) (its : ℕ → Bool)
        → HasOwned old other its → ((k : ℕ) → test k ≡ true → its k ≡ true → ⊥)
        → ((p : ℕ) → is_some_and its (robust_owner_at new p)
        ≡ is_some_and its (robust_owner_at old p))
        → HasOwned new other its
    others kept other its o differ owners = record {
      numbers = o.numbers;
      chain = kept h.numbers h.chain other o.numbers o.chain (others-apart other its o differ);
      listed = λ p i. owners p ∙ o.listed p i;
      whole = λ p e. o.whole p (sym (owners p) ∙ e);
    }

  module _ (old new : List (ObjectRow (Object A))) (head after : Option ℕ) (test : ℕ → Bool)
      (m : ℕ) (h : HasOwned old head test) where
    -- the chain that the mutex enters
    entered : EntersChain old new head after m → (c : ℕ) → test c ≡ true → Owned old new m (Some c)
        → HasOwned new after test
    entered w c passing owners = record {
      numbers = m ∷ h.numbers;
      chain = w.chain h.numbers h.chain;
      listed = λ p i. ap (is_some_and test) (owners p) ∙ elim (eqb_tells m p) [
        | inl s ↦ rw s.0 passing
        | inr s ↦ rw s.0 (elim i [
          | inl e ↦ absurd (s.1 (sym e))
          | inr j ↦ h.listed p j
        ])
      ];
      whole = λ p e. elim (eqb_tells m p) [
        | inl s ↦ inl (sym s.1)
        | inr s ↦
            inr
            (h.whole p
            (sym (ap (is_some_and test)
            (owners p ∙ ap (λ b. cond b (Some c) (robust_owner_at old p)) s.0)) ∙ e))
      ];
    }

    -- the chain that the mutex leaves
    left : UnlinksFromChain old new head after m → Owned old new m None → HasOwned new after test
    left w owners = record {
      numbers = but_number h.numbers m;
      chain = w.chain h.numbers h.chain;
      listed = λ p i. ap (is_some_and test) (owners p) ∙ elim (eqb_tells m p) [
        | inl s ↦ absurd ((but-listed h.numbers m p i).1 s.1)
        | inr s ↦ rw s.0 (h.listed p (but-listed h.numbers m p i).0)
      ];
      whole = λ p e. elim (eqb_tells m p) [
        | inl s ↦
            absurd (true≢false (sym e ∙ ap (is_some_and test)
            (owners p ∙ ap (λ b. cond b None (robust_owner_at old p)) s.0)))
        | inr s ↦
            but-kept h.numbers m p s.1
            (h.whole p
            (sym (ap (is_some_and test)
            (owners p ∙ ap (λ b. cond b None (robust_owner_at old p)) s.0)) ∙ e))
      ];
    }

  module _ (clients : List (ClientRow Caller)) (old new : List (ObjectRow (Object A)))
      (orphans : Option ℕ) (a : AreChained clients old orphans) (c m : ℕ) (v : Caller)
      (there : client_value clients c ≡ Some v) where
    -- the tests for another living client and for the dead refuse the client
    not-other : (d : ℕ) → (c ≡ d → ⊥) → (c == d) ≡ false
    not-other d apart = elim (eqb_tells c d) [
      | inl s ↦ absurd (apart s.1)
      | inr s ↦ s.0
    ]

    lives : is_gone clients c ≡ false
    lives = ap is_none there

    not-dead : (k : ℕ) → (k == c) ≡ true → is_gone clients k ≡ true → ⊥
    not-dead k e gone =
        let is : k ≡ c = grind (arith, nat_tests) in
        true≢false (sym gone ∙ ap (is_gone clients) is ∙ lives)

    module _ (after : List (ClientRow Caller)) (head : Option ℕ)
        (w : WritesCaller clients after c (record v { owned = head })) where
      gone : (d : ℕ) → is_gone after d ≡ is_gone clients d
      gone d = ap is_none (w.look d) ∙ elim (eqb_tells c d) [
        | inl s ↦ rw s.0 (sym (ap (is_gone clients) (sym s.1) ∙ lives))
        | inr s ↦ rw s.0 refl
      ]

      -- the client has this head now, and the other chains have the same owners as before
      rechained : HasOwned new head (λ owner. owner == c)
          → ((d : ℕ) (u : Caller) → (c ≡ d → ⊥) → client_value clients d ≡ Some u
          → HasOwned new u.owned (λ owner. owner == d))
          → HasOwned new orphans (is_gone clients)
          → ((ns : List ℕ) → IsRowChain new orphans ns → IsRising ns)
          → ((p : ℕ) → is_linked new p ≡ is_some (robust_owner_at new p))
          → AreChained after new orphans
      rechained own other dead rising linked = record {
        living = living;
        dead = record {
          numbers = dead.numbers;
          chain = dead.chain;
          listed = λ p i. agree (robust_owner_at new p) ∙ dead.listed p i;
          whole = λ p e. dead.whole p (sym (agree (robust_owner_at new p)) ∙ e);
        };
        rising = rising;
        linked = linked;
      }
        where
          agree : (o : Option ℕ) → is_some_and (is_gone after) o ≡ is_some_and (is_gone clients) o
          agree None = refl
          agree (Some d) = gone d

          living : (d : ℕ) (u : Caller) → client_value after d ≡ Some u
              → HasOwned new u.owned (λ owner. owner == d)
          living d u e = elim (eqb_tells c d) [
            | inl s ↦
                let is : Some (record v { owned = head }) ≡ Some u =
                sym (w.look d ∙ ap (λ b. cond b (Some (record v { owned = head }))
                (client_value clients d)) s.0) ∙ e in
                let own_head : head ≡ u.owned =
                ap (option_and_then (λ (x : Caller). x.owned)) is in
                subst (λ h. HasOwned new h (λ owner. owner == d)) own_head
                (subst (λ n. HasOwned new head (λ owner. owner == n)) s.1 own)
            | inr s ↦
                other d u s.1
                (sym (w.look d ∙ ap (λ b. cond b (Some (record v { owned = head }))
                (client_value clients d)) s.0) ∙ e)
          ]

      -- the mutex is the client's now, and was nobody's
      pub chained-entered : robust_owner_at old m ≡ None
          → EntersChain old new v.owned head m → Owned old new m (Some c)
          → AreChained after new orphans
      chained-entered none enters owners =
          rechained
          (entered old new v.owned head (λ owner. owner == c) m own enters c (same c) owners)
          (λ d u apart e. others old new v.owned (λ owner. owner == c) own enters.others
          u.owned (λ owner. owner == d) (a.living d u e) (λ k. two k c d apart)
          (kept (λ owner. owner == d) (not-other d apart)))
          (others old new v.owned (λ owner. owner == c) own enters.others
          orphans (is_gone clients) a.dead not-dead (kept (is_gone clients) lives))
          (others-rise old new v.owned (λ owner. owner == c) own enters.others orphans
          (is_gone clients) a.dead not-dead a.rising)
          linked
        where
          own : HasOwned old v.owned (λ owner. owner == c)
          own = a.living c v there

          same : (n : ℕ) → (n == n) ≡ true
          same n = grind (arith, nat_tests)

          kept : (its : ℕ → Bool) → its c ≡ false → (p : ℕ)
              → is_some_and its (robust_owner_at new p) ≡ is_some_and its (robust_owner_at old p)
          kept its refused p = ap (is_some_and its) (owners p) ∙ elim (eqb_tells m p) [
            | inl s ↦ rw s.0
                (refused ∙ sym (ap (is_some_and its) (ap (robust_owner_at old) (sym s.1) ∙ none)))
            | inr s ↦ rw s.0 refl
          ]

          linked : (p : ℕ) → is_linked new p ≡ is_some (robust_owner_at new p)
          linked p = enters.linked p ∙ elim (eqb_tells m p) [
            | inl s ↦ rw s.0
                (sym (ap is_some
                (owners p ∙ ap (λ b. cond b (Some c) (robust_owner_at old p)) s.0)))
            | inr s ↦ rw s.0
                (a.linked p ∙ sym (ap is_some
                (owners p ∙ ap (λ b. cond b (Some c) (robust_owner_at old p)) s.0)))
          ]

      -- the mutex was the client's, and is nobody's now
      pub chained-left : robust_owner_at old m ≡ Some c
          → UnlinksFromChain old new v.owned head m → Owned old new m None
          → AreChained after new orphans
      chained-left its_own leaves owners =
          rechained
          (left old new v.owned head (λ owner. owner == c) m own leaves owners)
          (λ d u apart e. others old new v.owned (λ owner. owner == c) own leaves.others
          u.owned (λ owner. owner == d) (a.living d u e) (λ k. two k c d apart)
          (kept (λ owner. owner == d) (not-other d apart)))
          (others old new v.owned (λ owner. owner == c) own leaves.others
          orphans (is_gone clients) a.dead not-dead (kept (is_gone clients) lives))
          (others-rise old new v.owned (λ owner. owner == c) own leaves.others orphans
          (is_gone clients) a.dead not-dead a.rising)
          linked
        where
          own : HasOwned old v.owned (λ owner. owner == c)
          own = a.living c v there

          kept : (its : ℕ → Bool) → its c ≡ false → (p : ℕ)
              → is_some_and its (robust_owner_at new p) ≡ is_some_and its (robust_owner_at old p)
          kept its refused p = ap (is_some_and its) (owners p) ∙ elim (eqb_tells m p) [
            | inl s ↦ rw s.0
                (sym (ap (is_some_and its) (ap (robust_owner_at old) (sym s.1) ∙ its_own)
                ∙ refused))
            | inr s ↦ rw s.0 refl
          ]

          linked : (p : ℕ) → is_linked new p ≡ is_some (robust_owner_at new p)
          linked p = leaves.linked p ∙ elim (eqb_tells m p) [
            | inl s ↦ rw s.0
                (sym (ap is_some
                (owners p ∙ ap (λ b. cond b None (robust_owner_at old p)) s.0)))
            | inr s ↦ rw s.0
                (a.linked p ∙ sym (ap is_some
                (owners p ∙ ap (λ b. cond b None (robust_owner_at old p)) s.0)))
          ]

  -- the mutex was an orphan, and is nobody's now
  pub chained-yielded : (clients : List (ClientRow Caller)) (old new : List (ObjectRow (Object A)))
      (orphans after : Option ℕ) (m d : ℕ) → AreChained clients old orphans
      → robust_owner_at old m ≡ Some d → is_gone clients d ≡ true
      → UnlinksFromChain old new orphans after m → Owned old new m None → AreChained clients new after
  chained-yielded clients old new orphans after m d a its_own dead leaves owners = record {
    living = λ c v e.
        others old new orphans (is_gone clients) a.dead leaves.others v.owned
        (λ owner. owner == c) (a.living c v e) (apart c v e) (kept c v e);
    dead = left old new orphans after (is_gone clients) m a.dead leaves owners;
    rising = rising-left old new orphans after m a.dead.numbers a.dead.chain
        (leaves.chain a.dead.numbers a.dead.chain) a.rising;
    linked = linked;
  }
    where
      apart : (c : ℕ) (v : Caller) → client_value clients c ≡ Some v → (k : ℕ)
          → is_gone clients k ≡ true → (k == c) ≡ true → ⊥
      apart c v e k gone same =
          let is : k ≡ c = grind (arith, nat_tests) in
          true≢false (sym gone ∙ ap (is_gone clients) is ∙ ap is_none e)

      not-it : (c : ℕ) (v : Caller) → client_value clients c ≡ Some v → (d == c) ≡ false
      not-it c v e = elim (eqb_tells d c) [
        | inl s ↦ absurd (apart c v e d dead s.0)
        | inr s ↦ s.0
      ]

      kept : (c : ℕ) (v : Caller) → client_value clients c ≡ Some v → (p : ℕ)
          → is_some_and (λ owner. owner == c) (robust_owner_at new p)
          ≡ is_some_and (λ owner. owner == c) (robust_owner_at old p)
      kept c v e p = ap (is_some_and (λ owner. owner == c)) (owners p) ∙ elim (eqb_tells m p) [
        | inl s ↦ rw s.0
            (sym (ap (is_some_and (λ owner. owner == c))
            (ap (robust_owner_at old) (sym s.1) ∙ its_own) ∙ not-it c v e))
        | inr s ↦ rw s.0 refl
      ]

      linked : (p : ℕ) → is_linked new p ≡ is_some (robust_owner_at new p)
      linked p = leaves.linked p ∙ elim (eqb_tells m p) [
        | inl s ↦ rw s.0
            (sym (ap is_some
            (owners p ∙ ap (λ b. cond b None (robust_owner_at old p)) s.0)))
        | inr s ↦ rw s.0
            (a.linked p ∙ sym (ap is_some
            (owners p ∙ ap (λ b. cond b None (robust_owner_at old p)) s.0)))
      ]
