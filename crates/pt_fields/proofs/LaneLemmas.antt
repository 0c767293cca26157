-- LaneLemmas: a byte that is searched for in lanes, and in the first bytes of a text.
use Rattle.std.proofs.Common.{◌≡◌, ◌≢◌, ◌<◌, ◌≤◌, ◌%◌, ◌^◌, ◌∙◌, ◌⊎◌, ◌||◌, ◌==◌, ℕ, Bool, true}
use Rattle.std.proofs.Common.{false, not, cond}
use Rattle.std.proofs.Common.{List, length, take, get_or, map, refl, ap, sym, arith, inl, inr}
use Rattle.std.proofs.Common.{Some, None}
use Rattle.std.proofs.Common.{Fits, subst, w8, w64, pow_mono}
use Rattle.std.proofs.lemmas.Bool.{agree_below, agree_below_at, cases_lt, not-true}
use Rattle.std.proofs.lemmas.Grind.{common_steps}
use Rattle.std.proofs.lemmas.List.{length-map, length-take-le, get_or_past, get_or-take}
use Rattle.std.proofs.lemmas.List.Elements.{All-from_get_or}
use Rattle.std.proofs.lemmas.List.Sums.{list_all-from_AllPass, prefix_len_passes}
use Rattle.std.proofs.lemmas.List.Sums.{prefix_len-le-length}
use Rattle.std.proofs.lemmas.Nat.Bits.{bit_at-zero, bit_at-trailing_zeros}
use Rattle.std.proofs.lemmas.Simd.{bit_mask_l, first_set_mask_l, map-map, mask_l-lt, mask_l-mod}
use Rattle.std.proofs.Math.ListN.{get_or-map}
use Rattle.std.specs.Int.{bit_at, trailing_zeros}
use Rattle.std.specs.List.{list_all, prefix_len}
use Rattle.std.specs.Simd.Lanes.{mask_l}
use Rattle.memchr.specs.Find.{IsFirstByte, Nowhere, Passes, is_byte}
use lib.Lanes.{top}

-- the mask of the lanes that hold a byte
abbrev pub mask_of : ℕ → List ℕ → ℕ
mask_of b xs = mask_l (map (is_byte b) xs)

bit_is :
    (b : ℕ) (xs : List ℕ) (k : ℕ) → is_byte b 0 ≡ false
    → bit_at (mask_of b xs) k ≡ cond (is_byte b (get_or xs k 0)) 1 0
bit_is b xs k other =
    bit_mask_l (map (is_byte b) xs) k
    ∙ ap (λ t. cond (get_or (map (is_byte b) xs) k t) 1 0) (sym other)
    ∙ ap (λ t. cond t 1 0) (get_or-map (is_byte b) xs k 0)

set_is : (b : Bool) → cond {A = ℕ} b 1 0 ≡ 1 → b ≡ true
set_is true h = refl
set_is false h = cc

unset_is : (b : Bool) → cond {A = ℕ} b 1 0 ≡ 0 → b ≡ true → ⊥
unset_is true h e = cc
unset_is false h e = cc

-- no such byte is past the end, where zeros are read
within :
    (b : ℕ) (xs : List ℕ) (k : ℕ) → is_byte b 0 ≡ false → is_byte b (get_or xs k 0) ≡ true
    → k < length xs
within b xs k other h = by (cases_lt k (length xs))
  where
    by : (k < length xs) ⊎ (length xs ≤ k) → k < length xs
    by (inl lt) = lt
    by (inr le) = absurd (false_is (sym other ∙ sym (ap (is_byte b) (get_or_past xs k 0 le)) ∙ h))
      where
        false_is : false ≡ true → ⊥
        false_is e = cc

-- if no bit is set, the byte does not occur
pub byte_nowhere :
    (b : ℕ) (xs : List ℕ) → is_byte b 0 ≡ false → mask_of b xs ≡ 0
    → IsFirstByte (is_byte b) xs None
byte_nowhere b xs other none k low high e =
    unset_is (is_byte b (get_or xs k 0))
    (sym (bit_is b xs k other) ∙ ap (λ m. bit_at m k) none ∙ bit_at-zero k) e

-- the lowest set bit is that of the first such byte
byte_lowest :
    (b : ℕ) (xs : List ℕ) (k : ℕ) → is_byte b 0 ≡ false → bit_at (mask_of b xs) k ≡ 1
    → ((j : ℕ) → j < k → bit_at (mask_of b xs) j ≡ 0) → IsFirstByte (is_byte b) xs (Some k)
byte_lowest b xs k other set below =
    let here = set_is (is_byte b (get_or xs k 0)) (sym (bit_is b xs k other) ∙ set) in (
      record {
        low = omega arith;
        high = within b xs k other here;
        before = λ j low lt e.
            unset_is (is_byte b (get_or xs j 0)) (sym (bit_is b xs j other) ∙ below j lt) e;
      },
      here,
    )

pub byte_first :
    (b : ℕ) (xs : List ℕ) → is_byte b 0 ≡ false → length xs ≤ 64 → mask_of b xs ≢ 0
    → IsFirstByte (is_byte b) xs (Some (trailing_zeros w64 (mask_of b xs)))
byte_first b xs other long some =
    let lanes = map (is_byte b) xs in
    let few = length-map xs (is_byte b) in
    let most = pow_mono {i = length lanes} {j = 64} (omega (arith, few)) in
    let fits : mask_of b xs < 2 ^ 64 = omega (arith, mask_l-lt lanes, few, most) in
    let h = bit_at-trailing_zeros w64 (mask_of b xs) (omega (arith, some)) fits in
    byte_lowest b xs (trailing_zeros w64 (mask_of b xs)) other h.1 h.2

-- a byte that is found among the first n is the first among all
pub first_of_front :
    (b : ℕ) (xs : List ℕ) (n k : ℕ) → IsFirstByte (is_byte b) (take n xs) (Some k)
    → IsFirstByte (is_byte b) xs (Some k)
first_of_front b xs n k h =
    let high : k < length (take n xs) = h.0.high in
    let small : k < n = grind (arith, common_steps) in (
      record {
        low = omega arith;
        high = grind (arith, common_steps);
        before = λ j low lt e.
            h.0.before j low lt (ap (is_byte b) (get_or-take n xs j 0 (omega arith)) ∙ e);
      },
      sym (ap (is_byte b) (get_or-take n xs k 0 small)) ∙ h.1,
    )

-- if none is found among the first n bytes, there is none before index n
pub none_in_front :
    (b : ℕ) (xs : List ℕ) (n : ℕ) → n ≤ length xs → IsFirstByte (is_byte b) (take n xs) None
    → Nowhere (Passes (is_byte b) xs) 0 n
none_in_front b xs n le h k low lt e =
    h k low (omega (arith, length-take-le n xs le))
    (ap (is_byte b) (get_or-take n xs k 0 lt) ∙ e)

-- the index of the lowest set bit, or n
abbrev pub lowest : ℕ → ℕ → ℕ
lowest n mask = cond (mask == 0) n (trailing_zeros w64 mask)

-- each byte before the first lane of a load that stops passes, if every byte does whose lane does
-- not stop
pub front_passes :
    (q : ℕ → Bool) (bytes z : List ℕ) (n r : ℕ) → n ≤ length bytes → n ≤ 64
    → ((k : ℕ) → Fits w8 (get_or bytes k 0))
    → r ≡ lowest n (mask_l (map (top 7) z) % 2 ^ 64) → (f : ℕ → ℕ) → z ≡ map f (take n bytes)
    → agree_below (λ x. top 7 (f x) || q x) (λ _. true) 256 ≡ true
    → (r ≤ n) × (list_all q (take r bytes) ≡ true)
front_passes q bytes z n r room few fits is f lanes all = (
  omega (arith, at, bound, long),
  list_all-from_AllPass q front (All-from_get_or (λ x. q x ≡ true) front 0 each),
)
  where
    xs : List ℕ
    xs = take n bytes

    front : List ℕ
    front = take r bytes

    long : length xs ≡ n
    long = length-take-le n bytes room

    stops : ℕ → Bool
    stops x = top 7 (f x)

    mask : mask_l (map (top 7) z) % 2 ^ 64 ≡ mask_l (map stops xs)
    mask =
        ap (λ l. mask_l l % 2 ^ 64) (ap (map (top 7)) lanes ∙ map-map (top 7) f xs)
        ∙ mask_l-mod (map stops xs) 64 (omega (arith, length-map xs stops, long, few))

    at : r ≡ prefix_len (λ x. not (stops x)) xs
    at = is ∙ ap (lowest n) mask ∙ first_set_mask_l stops xs n long few

    bound : prefix_len (λ x. not (stops x)) xs ≤ length xs
    bound = prefix_len-le-length (λ x. not (stops x)) xs

    clear : (k : ℕ) → k < r → stops (get_or bytes k 0) ≡ false
    clear k low =
        let inside = get_or-take n bytes k 0 (omega (arith, at, bound, long, low)) in
        subst (λ x. stops x ≡ false) inside
        (not-true _ (prefix_len_passes (λ x. not (stops x)) xs k 0 (omega (arith, at, low))))

    each : (k : ℕ) → k < length front → q (get_or front k 0) ≡ true
    each k lt =
        let within : r ≤ length bytes = omega (arith, at, bound, long, room) in
        let low : k < r = omega (arith, lt, length-take-le r bytes within) in
        ap q (get_or-take r bytes k 0 low)
        ∙ sym (ap (λ b. b || q (get_or bytes k 0)) (clear k low))
        ∙ agree_below_at (λ x. stops x || q x) (λ _. true) 256 (get_or bytes k 0) all (fits k).fits
