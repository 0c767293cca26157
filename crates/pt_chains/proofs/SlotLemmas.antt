-- What is read from nodes after one is written.
use Rattle.std.proofs.Common.{◌≡◌, ℕ, ◌==◌, ◌<◌, Bool, true, false, cond, List, [], ◌∷◌, length}
use Rattle.std.proofs.Common.{zero, suc, Option, Some, None, IsSome, refl, sym, ap, ◌∙◌, arith}
use Rattle.std.proofs.Math.ListN.{set}
use Rattle.std.proofs.lemmas.Bool.Decides.{nat_tests}
use Rattle.std.proofs.lemmas.Bool.{false≢true}
use Rattle.pt_chains.specs.declared.nodes.Node.{Node}
use Rattle.pt_chains.specs.Chains.{node_in}
use Rattle.pt_chains.proofs.ReadLemmas.{read-set}

within : (slots : List (Option Node)) (n : ℕ) → IsSome (node_in slots n) → n < length slots
within [] n h = absurd (false≢true h)
within (x ∷ xs) zero h = omega arith
within (x ∷ xs) (suc n) h = let r = within xs n h in omega (arith, r)

-- the node that a borrow of a slot leads to
pub slot-held : {X : Type 0} (copied : X → Option Node) (slots : List (Option Node)) (node at : ℕ)
    (found held : X) → at ≡ node → copied found ≡ node_in slots at → found ≡ held
    → node_in slots node ≡ copied held
slot-held copied slots node at found held same value is =
    ap (node_in slots) (sym same) ∙ (sym value ∙ ap copied is)

module _ {T : Type 0} (f : Option Node → T) (slots : List (Option Node)) (node at n : ℕ) (v : Node)
    (same : at ≡ node) (there : IsSome (node_in slots node)) where
  -- the node that is written, and the others
  pub slot-written : f (node_in (set slots at (Some v)) n)
      ≡ cond (node == n) (f (Some v)) (f (node_in slots n))
  slot-written =
      ap (λ k. f (node_in (set slots k (Some v)) n)) same
      ∙ (ap f (read-set slots node n (Some v) None (within slots node there)) ∙ go (node == n))
    where
      go : (b : Bool) → f (cond b (Some v) (node_in slots n))
          ≡ cond b (f (Some v)) (f (node_in slots n))
      go true = refl
      go false = refl

  -- what the write does not change
  pub slot-alike : f (Some v) ≡ f (node_in slots node)
      → f (node_in (set slots at (Some v)) n) ≡ f (node_in slots n)
  slot-alike alike = slot-written ∙ go (node == n) refl
    where
      go : (b : Bool) → (node == n) ≡ b
          → cond b (f (Some v)) (f (node_in slots n)) ≡ f (node_in slots n)
      go true e =
          let one : node ≡ n = grind (arith, nat_tests) in
          alike ∙ ap (λ k. f (node_in slots k)) one
      go false e = refl
