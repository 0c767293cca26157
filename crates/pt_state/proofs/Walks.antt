-- Lists that are walked by index, and what is left of them.
use Rattle.std.proofs.Common.{◌≡◌, ℕ, suc, ◌+◌, ◌<◌, ◌≤◌, ◌⊎◌, inl, inr, List, [], ◌∷◌, ◌++◌}
use Rattle.std.proofs.Common.{Option, Some, None, map, length, drop, refl, sym, ap, ◌∙◌, arith}
use Rattle.std.proofs.Common.{append_assoc, append-nil, subst}
use Rattle.std.specs.Prelude.{option_to_list}
use Rattle.std.specs.List.{slice_get, cons_option}
use Rattle.std.proofs.Math.Seq.{drop-cons}
use Rattle.std.proofs.Math.ListN.{drop_of_length-le, get_or}
use Rattle.std.proofs.lemmas.Option.{slice_get_within, slice_get_cases, get_or_from_slice_get}

-- what is left from an index on begins with the element there
left-from : {X : Type 0} (xs : List X) (i : ℕ) (x : X) → slice_get xs i ≡ Some x
    → drop i xs ≡ x ∷ drop (i + 1) xs
left-from xs i x e =
    let next : suc i ≡ i + 1 = omega arith in
    drop-cons xs i x (slice_get_within xs i x e)
    ∙ (ap (λ y. y ∷ drop (suc i) xs) (get_or_from_slice_get xs i x x e)
    ∙ ap (λ k. x ∷ drop k xs) next)

-- if there is no element at an index, the list has ended there
ended-at : {X : Type 0} (xs : List X) (i : ℕ) → slice_get xs i ≡ None → length xs ≤ i
ended-at {X} xs i e = go (slice_get_cases xs i).1
  where
    go : ((x : X) × (i < length xs) × (slice_get xs i ≡ Some x) × (get_or xs i x ≡ x))
        ⊎ ((length xs ≤ i) × (slice_get xs i ≡ None)) → length xs ≤ i
    go (inl p) = let there : slice_get xs i ≡ Some p.0 = p.2 in absurd cc
    go (inr p) = p.0

-- an element that may be missing, before others
pub cons-listed : {X Y : Type 0} (f : X → Y) (o : Option X) (xs : List X)
    → map f (cons_option o xs) ≡ map f (option_to_list o) ++ map f xs
cons-listed f None xs = refl
cons-listed f (Some x) xs = refl

module _ {X Y : Type 0} where
  -- one more element was copied
  pub walked-on : (g : List X → List Y) (f : X → List Y)
      → ((x : X) (xs : List X) → g (x ∷ xs) ≡ f x ++ g xs) → (xs : List X) (i : ℕ) (x : X)
      (so_far now all : List Y) → slice_get xs i ≡ Some x → so_far ++ g (drop i xs) ≡ all
      → now ≡ so_far ++ f x → now ++ g (drop (i + 1) xs) ≡ all
  walked-on g f cons xs i x so_far now all e kept is =
      ap (λ ys. ys ++ g (drop (i + 1) xs)) is
      ∙ (append_assoc so_far (f x) (g (drop (i + 1) xs))
      ∙ (ap (λ ys. so_far ++ ys) (sym (cons x (drop (i + 1) xs)) ∙ ap g (sym (left-from xs i x e)))
      ∙ kept))

  -- past the end nothing is left
  pub walked-past : (g : List X → List Y) (xs : List X) (i : ℕ) (so_far all : List Y)
      → slice_get xs i ≡ None → so_far ++ g (drop i xs) ≡ all → so_far ++ g (drop (i + 1) xs) ≡ all
  walked-past g xs i so_far all e kept =
      let end = ended-at xs i e in
      ap (λ ys. so_far ++ g ys)
      (drop_of_length-le xs (omega (arith, end)) ∙ sym (drop_of_length-le xs end)) ∙ kept

  -- once the walk is over, all was copied
  pub walked-through : (g : List X → List Y) → g [] ≡ [] → (xs : List X) (i len : ℕ)
      (so_far all : List Y) → len ≡ length xs → len ≤ i → so_far ++ g (drop i xs) ≡ all
      → so_far ≡ all
  walked-through g nil xs i len so_far all many over kept =
      let end = subst (λ k. k ≤ i) many over in
      sym (append-nil so_far)
      ∙ (ap (λ ys. so_far ++ ys) (sym nil)
      ∙ (ap (λ ys. so_far ++ g ys) (sym (drop_of_length-le xs end)) ∙ kept))
