-- Cells of the first of some entries, with one more, and the entry at an index.
use Rattle.std.proofs.Common.{◌≡◌, ℕ, zero, suc, ◌+◌, ◌-◌, ◌<◌, ◌≤◌, IsSome, arith, length-append, List, [], ◌∷◌, ◌++◌, length, slice_get, Option, Some, None}
use Rattle.std.proofs.Common.{refl, sym, ap, ◌∙◌, subst, append_assoc}
use Rattle.pt_model.specs.declared.entry.Entry.{Entry}
use Rattle.pt_cells.specs.Cells.{CellView, HasEntry, AreCells, AreFirst, Extends, Pushes, no_cells}

pub first-push : (es : List Entry) (cs : List (Option CellView)) (c : Option CellView) (e : Entry)
    → AreFirst es cs → slice_get es (length cs) ≡ Some e → HasEntry e c → AreFirst es (cs ++ c ∷ [])
first-push [] [] c e f s h = absurd cc
first-push (x ∷ xs) [] c e f s h =
    let same : x ≡ e = cc in
    (subst (λ y. HasEntry y c) (sym same) h, tt)
first-push [] (d ∷ ds) c e f s h = absurd f
first-push (x ∷ xs) (d ∷ ds) c e f s h = (f.0, first-push xs ds c e f.1 s h)

pub firsts-more : (es fs : List Entry) (cs : List (Option CellView)) → AreFirst es cs
    → AreFirst (es ++ fs) cs
firsts-more es fs [] f = tt
firsts-more [] fs (c ∷ cs) f = absurd f
firsts-more (e ∷ es) fs (c ∷ cs) f = (f.0, firsts-more es fs cs f.1)

pub first-at : (es : List Entry) (cs : List (Option CellView)) (i : ℕ) (c : CellView)
    → AreFirst es cs → slice_get cs i ≡ Some (Some c) → slice_get es i ≡ Some c.entry
first-at es [] i c f s = absurd cc
first-at [] (d ∷ ds) i c f s = absurd f
first-at (x ∷ xs) (None ∷ ds) zero c f s = absurd cc
first-at (x ∷ xs) (Some d ∷ ds) zero c f s =
    let same : d ≡ c = cc in
    ap Some (sym f.0 ∙ ap (λ (k : CellView). k.entry) same)
first-at (x ∷ xs) (d ∷ ds) (suc i) c f s = first-at xs ds i c f.1 s

pub extends-push : (old mid : List (Option CellView)) (c : Option CellView) → Extends old mid
    → Extends old (mid ++ c ∷ [])
extends-push old mid c x =
    record {
      more = x.more ++ c ∷ [];
      is = ap (λ cs. cs ++ c ∷ []) x.is ∙ append_assoc old x.more (c ∷ []);
    }

pub there : {X : Type 0} (xs : List X) (i : ℕ) → i < length xs → (x : X) × (slice_get xs i ≡ Some x)
there [] i l = absurd (omega (arith, l))
there (x ∷ xs) zero l = (x, refl)
there (x ∷ xs) (suc i) l = there xs i (omega (arith, l))

pub some-is : {X : Type 0} (o : Option X) (x : X) → o ≡ Some x → IsSome o
some-is o x e = rw e refl

module _ (es : List Entry) (first end at place i : ℕ) (e : end ≡ place) (p : place ≡ at + length es)
    (f : first ≡ at) (l : i < end - first) where
  -- an index before the end has an entry
  pub index-within : i < length es
  index-within = omega (arith, e, p, f, l)

-- the entry at an index is that at its place
pub at-index : (es : List Entry) (first at i : ℕ) (o : Option Entry) → first ≡ at
    → (at ≤ first + i → o ≡ slice_get es (first + i - at)) → o ≡ slice_get es i
at-index es first at i o f since =
    since (omega (arith, f)) ∙ ap (slice_get es) (omega (arith, f))

module _ (es : List Entry) (old mid new : List (Option CellView)) (e : Entry) (i n m r s t : ℕ)
    (first : AreFirst es mid) (kept : Extends old mid) (is : length mid ≡ i)
    (all : s + length mid ≡ r + length old) (there_is : slice_get es i ≡ Some e)
    (pushed : Pushes mid new e) (room : t + 1 ≡ s) where
  more : length new ≡ length mid + 1
  more = ap length pushed.pushed ∙ length-append mid (pushed.cell ∷ [])

  -- one more entry has a slot
  pub filled : AreFirst es new × Extends old new × (length new ≡ i + 1)
      × (t + length new ≡ r + length old)
  filled = (
    subst (AreFirst es) (sym pushed.pushed)
        (first-push es mid pushed.cell e first (ap (slice_get es) is ∙ there_is) pushed.has),
    subst (Extends old) (sym pushed.pushed) (extends-push old mid pushed.cell kept),
    omega (arith, more, is),
    omega (arith, more, all, room),
  )

-- entries without cells
pub no_first : (es : List Entry) → AreFirst es (no_cells es)
no_first [] = tt
no_first (e ∷ es) = (tt, no_first es)

pub no_length : (es : List Entry) → length (no_cells es) ≡ length es
no_length [] = refl
no_length (e ∷ es) = ap suc (no_length es)

pub no_more : (es fs : List Entry) → no_cells (es ++ fs) ≡ no_cells es ++ no_cells fs
no_more [] fs = refl
no_more (e ∷ es) fs = ap (λ cs. None ∷ cs) (no_more es fs)

-- each entry has a cell, or there are none
pub no_are : (es : List Entry) → AreCells es (no_cells es)
no_are es = record { first = no_first es; all = no_length es }
