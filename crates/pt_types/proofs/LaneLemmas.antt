-- LaneLemmas: whether a name may contain all bytes of a load, by the empty mask of those that it
-- may not.
use Rattle.std.proofs.Common.{◌≡◌, ◌<◌, ◌≤◌, ◌%◌, ◌^◌, ◌||◌, ◌==◌, ◌∙◌, ℕ, Bool, true, false}
use Rattle.std.proofs.Common.{not, List, map, length, take, get_or, Fits, w8, sym, ap, subst, arith}
use Rattle.std.specs.List.{list_all}
use Rattle.std.proofs.lemmas.Bool.{agree_below, agree_below_at, not-true, eqb-true}
use Rattle.std.proofs.lemmas.Simd.{map-map, mask_l-mod, leading_from_mask_l}
use Rattle.std.proofs.lemmas.List.{length-map, length-take-le, get_or-take}
use Rattle.std.proofs.lemmas.List.Elements.{All-from_get_or}
use Rattle.std.proofs.lemmas.List.Sums.{list_all-from_AllPass, prefix_len_passes}
use lib.Lanes.{mask_l, top}

-- if no lane of a load is set, each byte passes, provided that each byte whose lane isn't set does
pub all_pass :
    (q : ℕ → Bool) (n : ℕ) (bytes z : List ℕ) → n ≤ length bytes → n ≤ 64
    → ((k : ℕ) → Fits w8 (get_or bytes k 0)) → (mask_l (map (top 7) z) % 2 ^ 64 == 0) ≡ true
    → (f : ℕ → ℕ) → z ≡ map f (take n bytes)
    → agree_below (λ x. top 7 (f x) || q x) (λ _. true) 256 ≡ true
    → list_all q (take n bytes) ≡ true
all_pass q n bytes z room few fits none f lanes all =
    list_all-from_AllPass q xs (All-from_get_or (λ x. q x ≡ true) xs 0 each)
  where
    xs : List ℕ
    xs = take n bytes

    long : length xs ≡ n
    long = length-take-le n bytes room

    stops : ℕ → Bool
    stops x = top 7 (f x)

    mask : mask_l (map (top 7) z) % 2 ^ 64 ≡ mask_l (map stops xs)
    mask =
        ap (λ l. mask_l l % 2 ^ 64) (ap (map (top 7)) lanes ∙ map-map (top 7) f xs)
        ∙ mask_l-mod (map stops xs) 64 (omega (arith, length-map xs stops, long, few))

    clear : (k : ℕ) → k < length xs → stops (get_or xs k 0) ≡ false
    clear k lt =
        let whole = leading_from_mask_l stops xs (sym mask ∙ eqb-true _ 0 none) in
        not-true _ (prefix_len_passes (λ x. not (stops x)) xs k 0 (omega (arith, whole)))

    each : (k : ℕ) → k < length xs → q (get_or xs k 0) ≡ true
    each k lt =
        let at = get_or-take n bytes k 0 (omega (arith, long)) in
        let small = subst (λ x. x < 2 ^ 8) (sym at) (fits k).fits in
        sym (ap (λ b. b || q (get_or xs k 0)) (clear k lt))
        ∙ agree_below_at (λ x. stops x || q x) (λ _. true) 256 (get_or xs k 0) all small
