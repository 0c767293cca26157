-- A piece of some bytes, copied from index `at` on: what was given grows by it, and what remains
-- loses it.
use Rattle.std.proofs.Common.{◌≡◌, ℕ, ◌+◌, ◌≤◌, List, ◌++◌, take, drop, sym, ap, ◌∙◌}
use Rattle.std.proofs.Common.{take-append-drop, drop-drop, take-add, take-take}

pub given_more : (xs : List ℕ) (at n k : ℕ) (buf : List ℕ) → n ≤ k
    → take n buf ≡ take n (take k (drop at xs)) → take (at + n) xs ≡ take at xs ++ take n buf
given_more xs at n k buf within piece =
    take-add at n xs
    ∙ ap (λ zs. take at xs ++ zs) (sym (piece ∙ take-take n k (drop at xs) within))

pub left_more : (xs : List ℕ) (at n k : ℕ) (buf : List ℕ) → n ≤ k
    → take n buf ≡ take n (take k (drop at xs)) → drop at xs ≡ take n buf ++ drop (at + n) xs
left_more xs at n k buf within piece =
    sym (take-append-drop n (drop at xs))
    ∙ ap (λ zs. zs ++ drop n (drop at xs)) (sym (piece ∙ take-take n k (drop at xs) within))
    ∙ ap (λ zs. take n buf ++ zs) (drop-drop n at xs)
