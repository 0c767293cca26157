-- What a stored entry appends to the records.
use Rattle.std.proofs.Common.{ℕ, ◌≡◌, ◌+◌, ◌≤◌, List, [], ◌∷◌, ◌++◌, length, vec_len, vec_capacity}
use Rattle.std.proofs.Common.{sym, refl, ap, ◌<◌, length-append, slice_index_or, Option, Some, None}
use Rattle.std.proofs.Common.{arith}
use Rattle.std.proofs.Math.Seq.{get_or-append_seam}
use Rattle.std.specs.Prelude.{IfSome}
use Rattle.std.specs.Prelude.{Vec}
use Rattle.std.proofs.lemmas.List.{append-nil}
use Rattle.pt_model.specs.declared.entry.Entry.{Entry}
use Rattle.pt_history.specs.declared.compact.Compact.{Compact}
use Rattle.pt_history.specs.declared.compact.TimeLimit.{TimeLimit}
use Rattle.pt_hints.specs.declared.hints.Hints.{Hints}
use Rattle.pt_history.specs.declared.records.Records.{Records}
use Rattle.pt_history.specs.Compact.{Parts, read_compact, IsStored, ShowsSingle}
use Rattle.pt_history.specs.Records.{parts_of, Shows, ShowsIfSome}

-- the records grew by these parts, within the room of one entry
pub record Appends {A : Type 0} (old new : Records A) (more : Parts) : Type 0 where
  pub texts : new.texts.items ≡ old.texts.items ++ more.texts
  pub limits : new.limits.items ≡ old.limits.items ++ more.limits
  pub moments : new.moments.items ≡ old.moments.items ++ more.moments
  pub wholes : new.wholes.items ≡ old.wholes.items ++ more.wholes
  pub texts_len : vec_len new.texts ≤ vec_len old.texts + 64
  pub limits_len : vec_len new.limits ≤ vec_len old.limits + 1
  pub moments_len : vec_len new.moments ≤ vec_len old.moments + 1
  pub wholes_len : vec_len new.wholes ≤ vec_len old.wholes + 1
  pub texts_capacity : vec_capacity old.texts ≤ vec_capacity new.texts
  pub limits_capacity : vec_capacity old.limits ≤ vec_capacity new.limits
  pub moments_capacity : vec_capacity old.moments ≤ vec_capacity new.moments
  pub wholes_capacity : vec_capacity old.wholes ≤ vec_capacity new.wholes

abbrev parts : List ℕ → List TimeLimit → List ℕ → List Entry → Parts
parts ts ls ms ws = record { texts = ts; limits = ls; moments = ms; wholes = ws }

same-parts : (ts ts2 : List ℕ) (ls ls2 : List TimeLimit) (ms ms2 : List ℕ) (ws ws2 : List Entry)
    → ts ≡ ts2 → ls ≡ ls2 → ms ≡ ms2 → ws ≡ ws2
    → parts ts ls ms ws ≡ parts ts2 ls2 ms2 ws2
same-parts ts ts2 ls ls2 ms ms2 ws ws2 a b c d = rw (a, b, c, d)

-- the last element
pub at_end : {X : Type 0} (xs ys : List X) (x d : X) (i : ℕ) → ys ≡ xs ++ x ∷ [] → i ≡ length xs
    → slice_index_or ys i d ≡ x
at_end xs ys x d i e f = rw (e, f) (get_or-append_seam xs x [] d)

-- its index
pub within_end : {X : Type 0} (xs ys : List X) (x : X) (i : ℕ) → ys ≡ xs ++ x ∷ [] → i ≡ length xs
    → i < length ys
within_end xs ys x i e f = omega (arith, ap length e, length-append xs (x ∷ []))

-- an entry that is read off records that grew in this way
pub shows-appended : {A : Type 0} (b : ℕ) (e : Entry) (old new : Records A) (c : Compact)
    (more : Parts)
    → Appends old new more → read_compact b (parts_of new) c ≡ e → IsStored (parts_of new) c
    → Shows b e old new c
shows-appended b e old new c more a same stored = record {
  same = same;
  stored = stored;
  grown = record {
    more = more;
    joined = same-parts _ _ _ _ _ _ _ _ a.texts a.limits a.moments a.wholes;
  };
  room = λ n h. record {
    texts = omega (arith, h.texts, a.texts_len, a.texts_capacity);
    limits = omega (arith, h.limits, a.limits_len, a.limits_capacity);
    moments = omega (arith, h.moments, a.moments_len, a.moments_capacity);
    wholes = omega (arith, h.wholes, a.wholes_len, a.wholes_capacity);
  };
  bounded = omega (arith, a.wholes_len);
}

-- only texts are appended
pub append-texts : {A : Type 0} (old : Records A) (ts : Vec ℕ A) (hs : Hints A) (text : List ℕ)
    → ts.items ≡ old.texts.items ++ text → vec_len ts ≤ vec_len old.texts + 64
    → vec_capacity old.texts ≤ vec_capacity ts
    → Appends old (record old { texts = ts; hints = hs })
    (record { texts = text; limits = []; moments = []; wholes = [] })
append-texts old ts hs text e l c = record {
  texts = e;
  limits = sym (append-nil _);
  moments = sym (append-nil _);
  wholes = sym (append-nil _);
  texts_len = l;
  limits_len = omega arith;
  moments_len = omega arith;
  wholes_len = omega arith;
  texts_capacity = c;
  limits_capacity = omega arith;
  moments_capacity = omega arith;
  wholes_capacity = omega arith;
}

-- texts and a limit are appended
pub append-limit : {A : Type 0} (old : Records A) (ts : Vec ℕ A) (hs : Hints A)
    (ls : Vec TimeLimit A) (text : List ℕ) (l : TimeLimit)
    → ts.items ≡ old.texts.items ++ text → vec_len ts ≤ vec_len old.texts + 64
    → vec_capacity old.texts ≤ vec_capacity ts
    → ls.items ≡ old.limits.items ++ l ∷ [] → vec_len ls ≡ vec_len old.limits + 1
    → vec_capacity ls ≡ vec_capacity old.limits
    → Appends old (record old { texts = ts; hints = hs; limits = ls })
    (record { texts = text; limits = l ∷ []; moments = []; wholes = [] })
append-limit old ts hs ls text l e n c e2 n2 c2 = record {
  texts = e;
  limits = e2;
  moments = sym (append-nil _);
  wholes = sym (append-nil _);
  texts_len = n;
  limits_len = omega arith;
  moments_len = omega arith;
  wholes_len = omega arith;
  texts_capacity = c;
  limits_capacity = omega arith;
  moments_capacity = omega arith;
  wholes_capacity = omega arith;
}

-- only a reading is appended
pub append-moment : {A : Type 0} (old : Records A) (ms : Vec ℕ A) (m : ℕ)
    → ms.items ≡ old.moments.items ++ m ∷ [] → vec_len ms ≡ vec_len old.moments + 1
    → vec_capacity ms ≡ vec_capacity old.moments
    → Appends old (record old { moments = ms })
    (record { texts = []; limits = []; moments = m ∷ []; wholes = [] })
append-moment old ms m e n c = record {
  texts = sym (append-nil _);
  limits = sym (append-nil _);
  moments = e;
  wholes = sym (append-nil _);
  texts_len = omega arith;
  limits_len = omega arith;
  moments_len = omega arith;
  wholes_len = omega arith;
  texts_capacity = omega arith;
  limits_capacity = omega arith;
  moments_capacity = omega arith;
  wholes_capacity = omega arith;
}

-- only a whole entry is appended
pub append-whole : {A : Type 0} (old : Records A) (ws : Vec Entry A) (w : Entry)
    → ws.items ≡ old.wholes.items ++ w ∷ [] → vec_len ws ≡ vec_len old.wholes + 1
    → vec_capacity ws ≡ vec_capacity old.wholes
    → Appends old (record old { wholes = ws })
    (record { texts = []; limits = []; moments = []; wholes = w ∷ [] })
append-whole old ws w e n c = record {
  texts = sym (append-nil _);
  limits = sym (append-nil _);
  moments = sym (append-nil _);
  wholes = e;
  texts_len = omega arith;
  limits_len = omega arith;
  moments_len = omega arith;
  wholes_len = omega arith;
  texts_capacity = omega arith;
  limits_capacity = omega arith;
  moments_capacity = omega arith;
  wholes_capacity = omega arith;
}

-- nothing is appended
pub append-nothing : {A : Type 0} (old : Records A)
    → Appends old old (record { texts = []; limits = []; moments = []; wholes = [] })
append-nothing old = record {
  texts = sym (append-nil _);
  limits = sym (append-nil _);
  moments = sym (append-nil _);
  wholes = sym (append-nil _);
  texts_len = omega arith;
  limits_len = omega arith;
  moments_len = omega arith;
  wholes_len = omega arith;
  texts_capacity = omega arith;
  limits_capacity = omega arith;
  moments_capacity = omega arith;
  wholes_capacity = omega arith;
}

-- an entry that needs nothing in the records
pub shows-single : {A : Type 0} (b : ℕ) (e : Entry) (old : Records A) (r : Option Compact)
    → IfSome r (λ c. ShowsSingle b c e) → ShowsIfSome b e old old r
shows-single b e old None s = refl
shows-single b e old (Some c) s =
    shows-appended b e old old c _ (append-nothing old) (s.same (parts_of old))
    (s.stored (parts_of old))
