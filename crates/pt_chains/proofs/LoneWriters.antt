-- The writers of a queue with one chain.
use Rattle.std.proofs.Common.{◌≡◌, ℕ, ◌==◌, ◌≤◌, ◌<◌, Bool, true, false, cond, Option, None, ◌≢◌}
use Rattle.std.proofs.Common.{inl, inr, refl, sym, ap, ◌∙◌, arith}
use Rattle.std.proofs.lemmas.Bool.Decides.{nat_tests}
use Rattle.pt_types.specs.Limits.{max_priority}
use Rattle.pt_chains.specs.declared.sides.Queue.{Queue}
use Rattle.pt_chains.specs.Chains.{IsFirstWriter, HasWriterFrom}
use Rattle.pt_chains.specs.Boxes.{IsLone}
use Rattle.pt_chains.proofs.LoneLemmas.{disjoint, own-count, own-head}

module _ (p n : ℕ) (head tail : Option ℕ) (q : Queue) (within : p < max_priority) where
  pub first-lone-writer : n ≢ 0 → IsLone true p head tail n q → IsFirstWriter q head
  first-lone-writer waits is =
      inl (
        p,
        within,
        λ z. waits (sym (own-count true p n head tail q within is) ∙ z),
        λ i lt up. disjoint true p n head tail q within is i lt (λ s. omega (arith, up, s)),
        sym (own-head true p n head tail q within is),
      )

  pub no-lone-writer : IsLone false p head tail n q → IsFirstWriter q None
  no-lone-writer is = inr (λ i lt. (is.other i lt).count, refl)

  pub lone-writer-from : n ≢ 0 → IsLone true p head tail n q → (r : ℕ) → r ≤ p
      → HasWriterFrom q r
  lone-writer-from waits is r le =
      (p, le, within, λ z. waits (sym (own-count true p n head tail q within is) ∙ z))

  pub lone-writer-below : IsLone true p head tail n q → (r : ℕ) → HasWriterFrom q r → r ≤ p
  lone-writer-below is r w = go (p == w.0) refl
    where
      go : (t : Bool) → (p == w.0) ≡ t → r ≤ p
      go true e =
          let same : p ≡ w.0 = grind (arith, nat_tests) in
          let le = w.1 in omega (arith, same, le)
      go false e = absurd (w.3 (is.count w.0 w.2 ∙ ap (λ t. cond t n 0) e))

  pub lone-reader-from : IsLone false p head tail n q → (r : ℕ) → HasWriterFrom q r → ⊥
  lone-reader-from is r w = w.3 (is.other w.0 w.2).count
