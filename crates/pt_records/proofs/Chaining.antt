-- Robust mutexes stay chained, by their owners and as orphans, as rows change.
use Rattle.std.proofs.Common.{◌≡◌, ◌∙◌, ℕ, Bool, true, false, ◌==◌, cond, nat_eq, List, [], ◌∷◌}
use Rattle.std.proofs.Common.{Option, Some, None, is_none, is_some, option_map, refl, sym, ap}
use Rattle.std.proofs.Common.{subst, true≢false, inl, inr, arith, ◌⊎◌}
use Rattle.std.specs.Option.{option_and_then}
use Rattle.std.proofs.lemmas.Bool.Decides.{eqb_tells, nat_tests}
use Rattle.pt_types.specs.declared.call.ObjectKind.{ObjectKind}
use Rattle.pt_types.specs.declared.call.ObjectKind.TheVariants as kind
use Rattle.pt_table.specs.declared.clients.ClientRow.{ClientRow}
use Rattle.pt_table.specs.ClientRows.{client_value}
use Rattle.pt_table.specs.declared.objects.ObjectRow.{ObjectRow}
use Rattle.pt_table.specs.ObjectRows.{object_value}
use Rattle.pt_table.specs.Linked.{is_linked, IsRowChain, IsOneOf}
use Rattle.pt_table.proofs.ChainCallers.{rising-kept}
use Rattle.pt_model.specs.Found.{is_some_and}
use Rattle.pt_records.specs.declared.clients.Caller.{Caller}
use Rattle.pt_records.specs.declared.objects.Object.{Object}
use Rattle.pt_records.specs.Chained.{is_gone, robust_owner, robust_owner_at, KeepsChains, HasOwned}
use Rattle.pt_records.specs.Chained.{AreChained}
use Rattle.pt_records.specs.Writes.{WritesCaller, AddsCaller, RewritesCallers, WritesObject}
use Rattle.pt_records.specs.Writes.{AddsObject, RemovesObject, new_object}
use Rattle.pt_records.proofs.ChainsKept.{chain-stays}

-- an option that passes a test has a value
pub passed : {B : Type 0} (test : B → Bool) (o : Option B) → is_some_and test o ≡ true
    → (x : B) × ((o ≡ Some x) × (test x ≡ true))
passed test None e = cc
passed test (Some x) e = (x, (refl, e))

-- nobody owns a new object
pub new-owner : (B : Type 0) (k : ObjectKind) → robust_owner (new_object {A = B} k) ≡ None
new-owner B (kind.Mutex k true) = refl
new-owner B (kind.Mutex k false) = refl
new-owner B kind.Rwlock = refl
new-owner B kind.Cond = refl
new-owner B (kind.Barrier count) = refl

module _ {A : Type 0} where
  -- a chain without a head is empty
  pub none-listed : (objects : List (ObjectRow (Object A))) (numbers : List ℕ)
      → IsRowChain objects None numbers → (m : ℕ) → IsOneOf numbers m → ⊥
  none-listed objects [] l m i = absurd i
  none-listed objects (n ∷ ns) l m i =
      let head : ◌≡◌ {A = Option ℕ} None (Some n) = l.0 in
      absurd cc

  -- the same with another test that agrees for each owner
  owned-by : (objects : List (ObjectRow (Object A))) (head : Option ℕ) (test other : ℕ → Bool)
      → ((c : ℕ) → other c ≡ test c) → HasOwned objects head test → HasOwned objects head other
  owned-by objects head test other same h = record {
    numbers = h.numbers;
    chain = h.chain;
    listed = λ m i. agree (robust_owner_at objects m) ∙ h.listed m i;
    whole = λ m e. h.whole m (sym (agree (robust_owner_at objects m)) ∙ e);
  }
    where
      agree : (o : Option ℕ) → is_some_and other o ≡ is_some_and test o
      agree None = refl
      agree (Some c) = same c

  module _ (clients : List (ClientRow Caller)) (old new : List (ObjectRow (Object A)))
      (orphans : Option ℕ) (a : AreChained clients old orphans) where
    -- if each object has the same owner as before, and the chains are unchanged
    module _ (k : KeepsChains old new)
        (same : (m : ℕ) → robust_owner_at new m ≡ robust_owner_at old m) where
      owned-kept : (head : Option ℕ) (test : ℕ → Bool) → HasOwned old head test
          → HasOwned new head test
      owned-kept head test h = record {
        numbers = h.numbers;
        chain = chain-stays old new k head h.numbers h.chain;
        listed = λ m i. ap (is_some_and test) (same m) ∙ h.listed m i;
        whole = λ m e. h.whole m (sym (ap (is_some_and test) (same m)) ∙ e);
      }

      pub chained-kept : AreChained clients new orphans
      chained-kept = record {
        living = λ c v e. owned-kept v.owned (λ owner. owner == c) (a.living c v e);
        dead = owned-kept orphans (is_gone clients) a.dead;
        rising = rising-kept old new orphans a.dead.numbers a.dead.chain
            (chain-stays old new k orphans a.dead.numbers a.dead.chain) a.rising;
        linked = λ m. k.linked m ∙ a.linked m ∙ sym (ap is_some (same m));
      }

    -- an object is written whose owner is unchanged
    pub chained-written : (o : ℕ) (x y : Object A) → object_value old o ≡ Some x
        → WritesObject old new o y → robust_owner y ≡ robust_owner x → KeepsChains old new
        → AreChained clients new orphans
    chained-written o x y there w owner k = chained-kept k same
      where
        same : (m : ℕ) → robust_owner_at new m ≡ robust_owner_at old m
        same m = ap (option_and_then robust_owner) (w.look m) ∙ elim (eqb_tells o m) [
          | inl s ↦ rw s.0
              (owner
              ∙ sym (ap (robust_owner_at old) (sym s.1)
              ∙ ap (option_and_then robust_owner) there))
          | inr s ↦ rw s.0 refl
        ]

    -- an object that nobody owns is added
    pub chained-added : (o : ℕ) (name : List ℕ) (x : Object A) → AddsObject old new o name x
        → robust_owner x ≡ None → AreChained clients new orphans
    chained-added o name x w owner = chained-kept w.chains same
      where
        same : (m : ℕ) → robust_owner_at new m ≡ robust_owner_at old m
        same m = ap (option_and_then robust_owner) (w.look m) ∙ elim (eqb_tells o m) [
          | inl s ↦ rw s.0
              (owner
              ∙ sym (ap (robust_owner_at old) (sym s.1)
              ∙ ap (option_and_then robust_owner) w.free))
          | inr s ↦ rw s.0 refl
        ]

    -- an object that nobody owns is removed
    pub chained-removed : (o : ℕ) (x : Object A) → object_value old o ≡ Some x
        → RemovesObject old new o → robust_owner x ≡ None → AreChained clients new orphans
    chained-removed o x there w owner = chained-kept (w.chains free) same
      where
        none : robust_owner_at old o ≡ None
        none = ap (option_and_then robust_owner) there ∙ owner

        free : is_linked old o ≡ false
        free = a.linked o ∙ ap is_some none

        same : (m : ℕ) → robust_owner_at new m ≡ robust_owner_at old m
        same m = ap (option_and_then robust_owner) (w.look m) ∙ elim (eqb_tells o m) [
          | inl s ↦ rw s.0 (sym (ap (robust_owner_at old) (sym s.1) ∙ none))
          | inr s ↦ rw s.0 refl
        ]

  module _ (old new : List (ClientRow Caller)) (objects : List (ObjectRow (Object A)))
      (orphans : Option ℕ) (a : AreChained old objects orphans) where
    -- if the same clients live, and each has the same head as before
    module _ (same : (c : ℕ) → option_map (λ (v : Caller). v.owned) (client_value new c)
        ≡ option_map (λ (v : Caller). v.owned) (client_value old c)) where
      owned-of : (c : ℕ) (v : Caller) → client_value new c ≡ Some v
          → HasOwned objects v.owned (λ owner. owner == c)
      owned-of c v e =
          go (client_value old c) refl
          (sym (same c) ∙ ap (option_map (λ (w : Caller). w.owned)) e)
        where
          go : (o : Option Caller) → client_value old c ≡ o
              → option_map (λ (w : Caller). w.owned) o ≡ Some v.owned
              → HasOwned objects v.owned (λ owner. owner == c)
          go None found e = cc
          go (Some u) found e =
              let is : u.owned ≡ v.owned = cc in
              subst (λ head. HasOwned objects head (λ owner. owner == c)) is (a.living c u found)

      mapped : (o : Option Caller) → is_none (option_map (λ (w : Caller). w.owned) o) ≡ is_none o
      mapped None = refl
      mapped (Some v) = refl

      gone : (c : ℕ) → is_gone new c ≡ is_gone old c
      gone c =
          sym (mapped (client_value new c)) ∙ ap is_none (same c) ∙ mapped (client_value old c)

      pub chained-callers : AreChained new objects orphans
      chained-callers = record {
        living = owned-of;
        dead = owned-by objects orphans (is_gone old) (is_gone new) gone a.dead;
        rising = a.rising;
        linked = a.linked;
      }

    -- a client's row is written, and the head of its chain is unchanged
    pub chained-caller : (c : ℕ) (u v : Caller) → client_value old c ≡ Some u
        → WritesCaller old new c v → v.owned ≡ u.owned → AreChained new objects orphans
    chained-caller c u v there w owned = chained-callers same
      where
        same : (d : ℕ) → option_map (λ (x : Caller). x.owned) (client_value new d)
            ≡ option_map (λ (x : Caller). x.owned) (client_value old d)
        same d = ap (option_map (λ (x : Caller). x.owned)) (w.look d) ∙ elim (eqb_tells c d) [
          | inl s ↦ rw s.0
              (ap Some owned
              ∙ sym (ap (λ n. option_map (λ (x : Caller). x.owned) (client_value old n)) (sym s.1)
              ∙ ap (option_map (λ (x : Caller). x.owned)) there))
          | inr s ↦ rw s.0 refl
        ]

    -- a change that leaves the heads of chains unchanged
    kept-by : (g : Caller → Caller) → ((v : Caller) → (g v).owned ≡ v.owned) → (o : Option Caller)
        → option_map (λ (x : Caller). x.owned) (option_map g o)
        ≡ option_map (λ (x : Caller). x.owned) o
    kept-by g keeps None = refl
    kept-by g keeps (Some v) = ap Some (keeps v)

    -- all rows are changed in this way
    pub chained-rewritten : (g : Caller → Caller) → ((v : Caller) → (g v).owned ≡ v.owned)
        → RewritesCallers old new g → AreChained new objects orphans
    chained-rewritten g keeps w = chained-callers (λ c.
        ap (option_map (λ (x : Caller). x.owned)) (w.look c) ∙ kept-by g keeps (client_value old c))

  -- without orphans, each owner of a robust mutex lives
  module _ (old new : List (ClientRow Caller)) (objects : List (ObjectRow (Object A)))
      (a : AreChained old objects None) where
    pub owner-lives : (m c : ℕ) → robust_owner_at objects m ≡ Some c
        → client_value old c ≡ None → ⊥
    owner-lives m c e none =
        none-listed objects a.dead.numbers a.dead.chain m
        (a.dead.whole m (ap (is_some_and (is_gone old)) e ∙ ap is_none none))

    -- a client that owns nothing joins
    pub chained-joined : (c : ℕ) (v : Caller) → AddsCaller old new c v → client_value old c ≡ None
        → v.owned ≡ None → AreChained new objects None
    chained-joined c v w none owned =
        record { living = living; dead = dead; rising = a.rising; linked = a.linked }
      where
        at : (d : ℕ) → nat_eq c d ≡ true → client_value new d ≡ Some v
        at d s = w.look d ∙ ap (λ b. cond b (Some v) (client_value old d)) s

        off : (d : ℕ) → nat_eq c d ≡ false → client_value new d ≡ client_value old d
        off d s = w.look d ∙ ap (λ b. cond b (Some v) (client_value old d)) s

        nothing : (d : ℕ) → c ≡ d → HasOwned objects None (λ owner. owner == d)
        nothing d same = record {
          numbers = [];
          chain = refl;
          listed = λ m i. absurd i;
          whole = λ m e.
              let p = passed (λ owner. owner == d) (robust_owner_at objects m) e in
              absurd (owner-lives m p.0 p.1.0 (ap (client_value old) (is p.0 p.1.1) ∙ none));
        }
          where
            is : (k : ℕ) → (k == d) ≡ true → k ≡ c
            is k e = grind (arith, nat_tests)

        living : (d : ℕ) (u : Caller) → client_value new d ≡ Some u
            → HasOwned objects u.owned (λ owner. owner == d)
        living d u e = elim (eqb_tells c d) [
          | inl s ↦
              let is : Some u ≡ Some v = sym e ∙ at d s.0 in
              let head : u.owned ≡ None =
              ap (option_and_then (λ (x : Caller). x.owned)) is ∙ owned in
              subst (λ h. HasOwned objects h (λ owner. owner == d)) (sym head) (nothing d s.1)
          | inr s ↦ a.living d u (sym (off d s.0) ∙ e)
        ]

        dead : HasOwned objects None (is_gone new)
        dead = record {
          numbers = [];
          chain = refl;
          listed = λ m i. absurd i;
          whole = λ m e.
              let p = passed (is_gone new) (robust_owner_at objects m) e in
              absurd (owner-lives m p.0 p.1.0 (before p.0 p.1.1));
        }
          where
            before : (d : ℕ) → is_gone new d ≡ true → client_value old d ≡ None
            before d e = go (eqb_tells c d) (client_value old d) refl
              where
                go : ((nat_eq c d ≡ true) × (c ≡ d)) ⊎ ((nat_eq c d ≡ false) × (c ≡ d → ⊥))
                    → (o : Option Caller) → client_value old d ≡ o → o ≡ None
                go t None found = refl
                go (inl s) (Some u) found =
                    absurd (true≢false (sym e ∙ ap is_none (at d s.0)))
                go (inr s) (Some u) found =
                    absurd (true≢false (sym e ∙ ap is_none (off d s.0 ∙ found)))
