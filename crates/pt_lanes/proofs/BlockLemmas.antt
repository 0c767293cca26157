-- Counts in blocks: the mask of a block, and what blocks and the rest say of the whole.
use Rattle.std.proofs.Common.{◌≡◌, ◌≢◌, ◌<◌, ◌≤◌, ◌+◌, ◌*◌, ◌-◌, ◌||◌, ◌∙◌, ℕ, zero, suc, Bool}
use Rattle.std.proofs.Common.{true, false, not, nat_eq, nat_lt, cond, List, [], ◌∷◌, take, drop}
use Rattle.std.proofs.Common.{get_or, map, refl, ap, sym, arith}
use Rattle.std.specs.List.{list_any}
use Rattle.std.specs.Simd.{first_chunks}
use Rattle.std.proofs.lemmas.Grind.{common_steps}
use Rattle.std.proofs.lemmas.List.{take-append-drop, get_or-drop, get_or-take, get_or_past}
use Rattle.std.proofs.lemmas.List.{drop-drop}
use Rattle.std.proofs.lemmas.List.Folds.{list_any-append}
use Rattle.std.proofs.Math.Bool.{or_assoc}
use lib.Lanes.{mask_l}
use Rattle.pt_lanes.proofs.SetLemmas.{NoneFrom}

any-mask_cons : (b : Bool) (n : ℕ) (r : Bool) → not (nat_eq n 0) ≡ r
    → not (nat_eq (cond b 1 zero + 2 * n) 0) ≡ (b || r)
any-mask_cons true n r h = grind arith
any-mask_cons false n r h = grind arith

-- the mask of a test is 0 only if no lane passes
pub any-mask_l : {X : Type 0} (p : X → Bool) (xs : List X)
    → not (nat_eq (mask_l (map p xs)) 0) ≡ list_any p xs
any-mask_l p [] = refl
any-mask_l p (x ∷ xs) = any-mask_cons (p x) (mask_l (map p xs)) (list_any p xs) (any-mask_l p xs)

-- a test of each element, block by block and then in the rest
pub list_any-first_chunks : {X : Type 0} (p : X → Bool) (n k : ℕ) (xs : List X)
    → list_any p xs
    ≡ (list_any (list_any p) (first_chunks n k xs) || list_any p (drop (k * n) xs))
list_any-first_chunks p n zero xs = grind (arith, common_steps)
list_any-first_chunks p n (suc k) xs =
    let blocks = list_any (list_any p) (first_chunks n k (drop n xs)) in
    let whole : list_any p xs ≡ (list_any p (take n xs) || list_any p (drop n xs)) =
    ap (list_any p) (sym (take-append-drop n xs)) ∙ list_any-append p (take n xs) (drop n xs) in
    let joined : drop (k * n) (drop n xs) ≡ drop (suc k * n) xs =
    drop-drop (k * n) n xs ∙ ap (λ m. drop m xs) (omega arith) in
    whole
    ∙ ap (λ b. list_any p (take n xs) || b) (
    list_any-first_chunks p n k (drop n xs) ∙ ap (λ ys. blocks || list_any p ys) joined)
    ∙ sym (or_assoc (list_any p (take n xs)) blocks (list_any p (drop (suc k * n) xs)))

-- the block at an index
pub get_or-first_chunks : {X : Type 0} (n k j : ℕ) (xs : List X) → j < k
    → get_or (first_chunks n k xs) j [] ≡ take n (drop (j * n) xs)
get_or-first_chunks n zero j xs h = grind arith
get_or-first_chunks n (suc k) zero xs h = grind (arith, common_steps)
get_or-first_chunks n (suc k) (suc j) xs h =
    get_or-first_chunks n k j (drop n xs) (omega arith)
    ∙ ap (take n) (drop-drop (j * n) n xs ∙ ap (λ m. drop m xs) (omega arith))

-- a count at index a or above, read among those from a on
from_above : (xs : List ℕ) (a i : ℕ) → a ≤ i → get_or xs i 0 ≡ get_or (drop a xs) (i - a) 0
from_above xs a i le =
    let at : a + (i - a) ≡ i = omega arith in
    sym (ap (λ k. get_or xs k 0) at) ∙ sym (get_or-drop a xs (i - a) 0)

pub NoneFrom-drop : (xs : List ℕ) (a m : ℕ) → NoneFrom (drop a xs) m → NoneFrom xs (a + m)
NoneFrom-drop xs a m h i le = from_above xs a i (omega arith) ∙ h (i - a) (omega arith)

-- and one in the block that begins there
from_block : (xs : List ℕ) (a n i : ℕ) → a ≤ i → i < a + n
    → get_or xs i 0 ≡ get_or (take n (drop a xs)) (i - a) 0
from_block xs a n i le lt =
    from_above xs a i le ∙ sym (get_or-take n (drop a xs) (i - a) 0 (omega arith))

-- if the counts of a block from m on are zero, and all above the block, so are all from there on
pub NoneFrom-block : (xs : List ℕ) (a n m : ℕ)
    → NoneFrom (take n (drop a xs)) m → NoneFrom xs (a + n) → NoneFrom xs (a + m)
NoneFrom-block xs a n m h above i le = go (nat_lt i (a + n)) refl
  where
    go : (b : Bool) → nat_lt i (a + n) ≡ b → get_or xs i 0 ≡ 0
    go true e = from_block xs a n i (omega arith) (grind arith) ∙ h (i - a) (omega arith)
    go false e = above i (grind arith)

-- the highest count of a block that is set is the highest of all, if none above the block is set
pub highest-block : (xs : List ℕ) (a n i : ℕ) → NoneFrom xs (a + n)
    → (get_or (take n (drop a xs)) i 0 ≢ 0) × NoneFrom (take n (drop a xs)) (i + 1)
    → (get_or xs (a + i) 0 ≢ 0) × NoneFrom xs (a + i + 1)
highest-block xs a n i above h = go (nat_lt i n) refl
  where
    go : (b : Bool) → nat_lt i n ≡ b → (get_or xs (a + i) 0 ≢ 0) × NoneFrom xs (a + i + 1)
    go true e = (
      λ z. h.0 (get_or-take n (drop a xs) i 0 (grind arith) ∙ get_or-drop a xs i 0 ∙ z),
      λ k le. NoneFrom-block xs a n (i + 1) h.1 above k (omega arith),
    )
    go false e =
        absurd (h.0 (get_or_past (take n (drop a xs)) i 0 (grind (arith, common_steps))))
