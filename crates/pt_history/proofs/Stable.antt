-- Stored entries stay the same while the records grow.
use Rattle.std.proofs.Common.{ℕ, zero, suc, slice_index_or, ◌≡◌, ◌+◌, ◌<◌, ◌≤◌, List, [], ◌∷◌, ◌++◌}
use Rattle.std.proofs.Common.{length, map, take, drop, refl, sym, ap, ◌∙◌, arith, subst}
use Rattle.std.proofs.Common.{length-append}
use Rattle.std.proofs.lemmas.List.{take-append-le, drop-append-le, get_or_append_left}
use Rattle.std.proofs.Common.{length-drop}
use Rattle.std.specs.List.{All}
use Rattle.pt_types.specs.Names.{IsName}
use Rattle.pt_model.specs.declared.entry.Entry.{Entry}
use Rattle.pt_model.specs.declared.entry.Entry.TheVariants.{Moment as MomentEntry}
use Rattle.pt_history.specs.declared.compact.Compact.{Compact}
use Rattle.pt_history.specs.declared.compact.Compact.TheVariants.{Join, Named, Barrier, Timed, Wait}
use Rattle.pt_history.specs.declared.compact.Compact.TheVariants.{TimedWait, Death, Moment, Grant}
use Rattle.pt_history.specs.declared.compact.Compact.TheVariants.{Trip, Yield, Expire, Whole}
use Rattle.pt_history.specs.Compact.{Parts, read_compact, IsStored, IsText, AreTexts, text_at}
use Rattle.pt_history.specs.Records.{join_parts, HasGrown, HasPartsRoom}
use Rattle.pt_history.specs.declared.records.Records.{Records}
use Rattle.std.proofs.lemmas.List.{map-append}
use Rattle.std.proofs.lemmas.List.Elements.{All-append}

-- a text within the first of two joined lists
pub text-stable : (xs ys : List ℕ) (i n : ℕ) → i + n ≤ length xs
    → text_at (xs ++ ys) i n ≡ text_at xs i n
text-stable xs ys i n h =
    let within : i ≤ length xs = omega arith in
    let fits : n ≤ length (drop i xs) = omega (arith, length-drop i xs) in
    ap (λ (l : List ℕ). take n l) (drop-append-le i xs ys within) ∙ take-append-le n
    (drop i xs) ys fits

pub text-stays : (xs ys : List ℕ) (i n : ℕ) → IsText xs i n → IsText (xs ++ ys) i n
text-stays xs ys i n t = record {
  within = omega (arith, t.within, length-append xs ys);
  name = subst (λ (l : List ℕ). IsName l) (sym (text-stable xs ys i n t.within)) t.name;
}

texts-stay : (xs ys : List ℕ) (i n m : ℕ) → AreTexts xs i n m → AreTexts (xs ++ ys) i n m
texts-stay xs ys i n m t = record {
  one = text-stays xs ys i n t.one;
  other = text-stays xs ys (i + n) m t.other;
}

longer : {X : Type 0} (xs ys : List X) (i : ℕ) → i < length xs → i < length (xs ++ ys)
longer xs ys i h = omega (arith, length-append xs ys)

-- what an entry refers to is still stored
pub stays : (p q : Parts) (c : Compact) → IsStored p c → IsStored (join_parts p q) c
stays p q (Join k c) s = tt
stays p q (Named w a n c i) s = text-stays p.texts q.texts i n s
stays p q (Barrier a n c i k) s = text-stays p.texts q.texts i n s
stays p q (Timed k a n c i l) s = record {
  text = text-stays p.texts q.texts i n s.text;
  limit = longer p.limits q.limits l s.limit;
}
stays p q (Wait a n m c i) s = texts-stay p.texts q.texts i n m s
stays p q (TimedWait a n m c i l) s = record {
  texts = texts-stay p.texts q.texts i n m s.texts;
  limit = longer p.limits q.limits l s.limit;
}
stays p q (Death c) s = tt
stays p q (Moment k i) s = longer p.moments q.moments i s
stays p q (Grant x j) s = tt
stays p q (Trip o) s = tt
stays p q (Yield o) s = tt
stays p q (Expire j) s = tt
stays p q (Whole i) s = longer p.wholes q.wholes i s

-- the entry is still the same
pub stable : (b : ℕ) (p q : Parts) (c : Compact) → IsStored p c
    → read_compact b (join_parts p q) c ≡ read_compact b p c
stable b p q (Join k c) s = refl
stable b p q (Named w a n c i) s = rw (text-stable p.texts q.texts i n s.within)
stable b p q (Barrier a n c i k) s = rw (text-stable p.texts q.texts i n s.within)
stable b p q (Timed k a n c i l) s =
    rw (
      text-stable p.texts q.texts i n s.text.within,
      get_or_append_left p.limits q.limits _ l
          s.limit,
    )
stable b p q (Wait a n m c i) s =
    rw (
      text-stable p.texts q.texts i n s.one.within,
      text-stable p.texts q.texts
          (i + n) m s.other.within,
    )
stable b p q (TimedWait a n m c i l) s =
    rw (
      text-stable p.texts q.texts i n s.texts.one.within,
      text-stable p.texts q.texts (i + n) m s.texts.other.within,
      get_or_append_left p.limits q.limits _ l s.limit,
    )
stable b p q (Death c) s = refl
stable b p q (Moment k i) s = ap (MomentEntry k) (get_or_append_left p.moments q.moments 0 i s)
stable b p q (Grant x j) s = refl
stable b p q (Trip o) s = refl
stable b p q (Yield o) s = refl
stable b p q (Expire j) s = refl
stable b p q (Whole i) s = get_or_append_left p.wholes q.wholes _ i s

map-alike : {X Y : Type 0} (f g : X → Y) (xs : List X)
    → ((k : ℕ) (d : X) → k < length xs → f (slice_index_or xs k d) ≡ g (slice_index_or xs k d))
    → map f xs ≡ map g xs
map-alike f g [] h = refl
map-alike f g (x ∷ xs) h =
    rw (h 0 x (omega arith), map-alike f g xs (λ k d l. h (suc k) d (omega arith)))

-- the entries are still the same, and one more follows
pub read_compact-push : (b : ℕ) (p r : Parts) (cs : List Compact) (c : Compact) (e : Entry)
    → HasGrown p r → All (IsStored p) cs → read_compact b r c ≡ e
    → map (read_compact b r) (cs ++ c ∷ []) ≡ map (read_compact b p) cs ++ e ∷ []
read_compact-push b p r cs c e g a same =
    let alike : map (read_compact b r) cs ≡ map (read_compact b p) cs =
    subst (λ (x : Parts). map (read_compact b x) cs ≡ map (read_compact b p) cs) (sym g.joined)
    (map-alike (read_compact b (join_parts p g.more)) (read_compact b p) cs
    (λ k d l. stable b p g.more (slice_index_or cs k d) (a k d l))) in
    map-append (read_compact b r) cs (c ∷ []) ∙ cc

one-stored : (p : Parts) (c : Compact) → IsStored p c → All (IsStored p) (c ∷ [])
one-stored p c s zero d l = s
one-stored p c s (suc k) d l = absurd (omega arith)

-- all entries refer to what is stored, and so does one more
pub stored-push : (p r : Parts) (cs : List Compact) (c : Compact) → HasGrown p r
    → All (IsStored p) cs → IsStored r c → All (IsStored r) (cs ++ c ∷ [])
stored-push p r cs c g a s =
    All-append (IsStored r) cs (c ∷ [])
    (λ k d l. subst (λ (x : Parts). IsStored x (slice_index_or cs k d)) (sym g.joined)
    (stays p g.more (slice_index_or cs k d) (a k d l)))
    (one-stored r c s)

-- room for more is room for fewer
pub fewer : {A : Type 0} (r : Records A) (n m : ℕ) → HasPartsRoom r n → m ≤ n → HasPartsRoom r m
fewer r n m h l = record {
  texts = omega (arith, h.texts);
  limits = omega (arith, h.limits);
  moments = omega (arith, h.moments);
  wholes = omega (arith, h.wholes);
}
