-- The lines of entries, from one place to the next.
use Rattle.std.proofs.Common.{◌≡◌, ◌≤◌, ◌<◌, ◌+◌, ◌-◌, ◌∙◌, ℕ, zero, suc, List, [], ◌∷◌, ◌++◌}
use Rattle.std.proofs.Common.{Some, None, drop, length, slice_get, refl, ap, sym, append_assoc}
use Rattle.std.proofs.Common.{length-append, arith}
use Rattle.std.proofs.lemmas.List.{append-nil}
use Rattle.pt_model.specs.declared.entry.Entry.{Entry}
use Rattle.pt_explain.specs.Entries.{entry_rows, refused_row, refused_text}
use Rattle.pt_explain.specs.Rows.{right, row}

-- no entry is left from an index past the end
pub none_left : (es : List Entry) (i : ℕ) → slice_get es i ≡ None → drop i es ≡ []
none_left [] zero e = refl
none_left [] (suc i) e = refl
none_left (x ∷ xs) zero e = absurd cc
none_left (x ∷ xs) (suc i) e = none_left xs i e

-- the same by the length
pub none_past : (es : List Entry) (i : ℕ) → length es ≤ i → drop i es ≡ []
none_past [] zero le = refl
none_past [] (suc i) le = refl
none_past (x ∷ xs) zero le = absurd (omega arith)
none_past (x ∷ xs) (suc i) le = none_past xs i (omega arith)

-- the entry at an index is the first of those left
pub next_left : (es : List Entry) (i : ℕ) (x : Entry) → slice_get es i ≡ Some x
    → drop i es ≡ x ∷ drop (suc i) es
next_left [] zero x e = absurd cc
next_left [] (suc n) x e = absurd cc
next_left (y ∷ ys) zero x e = cc
next_left (y ∷ ys) (suc n) x e = next_left ys n x e

-- a row, of which the left was appended first
pub row_whole :
    (old mid new text : List ℕ) (width : ℕ) (r : List ℕ × List ℕ) → mid ≡ old ++ text
    → width + length old ≡ length mid → new ≡ mid ++ right width r → new ≡ old ++ row text r
row_whole old mid new text width r left long added =
    let all = ap length left ∙ length-append old text in
    let wide : width ≡ length text = omega (arith, long, all) in
    added
    ∙ ap (λ m. m ++ right width r) left
    ∙ append_assoc old text (right width r)
    ∙ ap (λ n. old ++ (text ++ right n r)) wide

-- if an entry is left, no refusal has a row
pub refused_not : (r : List ℕ × List ℕ) (es : List Entry) (i : ℕ) → i < length es
    → refused_row r (drop i es) ≡ []
refused_not r [] zero lt = absurd (omega arith)
refused_not r [] (suc i) lt = absurd (omega arith)
refused_not r (x ∷ xs) zero lt = refl
refused_not r (x ∷ xs) (suc i) lt = refused_not r xs i (omega arith)

-- the rows of entries, if one is left
pub rows_added :
    (refused : List ℕ × List ℕ) (t : ℕ → Entry → List ℕ) (at : ℕ) (es : List Entry) (i : ℕ)
    (out new : List ℕ) → i < length es → new ≡ out ++ entry_rows t at (drop i es)
    → new ≡ out ++ (refused_row refused (drop i es) ++ entry_rows t at (drop i es))
rows_added refused t at es i out new within added =
    added
    ∙ ap (λ r. out ++ (r ++ entry_rows t at (drop i es))) (sym (refused_not refused es i within))

-- the row of a refusal, if no entry is left
pub rows_refused :
    (refused : List ℕ × List ℕ) (t : ℕ → Entry → List ℕ) (at : ℕ) (es : List Entry) (i : ℕ)
    (out new : List ℕ) → length es ≤ i → new ≡ out ++ row refused_text refused
    → new ≡ out ++ (refused_row refused (drop i es) ++ entry_rows t at (drop i es))
rows_refused refused t at es i out new past added =
    added
    ∙ ap (λ r. out ++ r) (sym (append-nil (row refused_text refused)))
    ∙ ap (λ l. out ++ (refused_row refused l ++ entry_rows t at l)) (sym (none_past es i past))

-- after the line of the entry at a place, the lines from the next place on are left
pub line_next :
    (t : ℕ → Entry → List ℕ)
    (at place : ℕ) (es : List Entry) (x : Entry) (out new text : List ℕ) → at ≤ place
    → slice_get es (place - at) ≡ Some x
    → out ++ entry_rows t place (drop (place - at) es) ≡ text
    → new ≡ out ++ t place x
    → new ++ entry_rows t (place + 1) (drop (place + 1 - at) es) ≡ text
line_next t at place es x out new text le here so added =
    let next : suc (place - at) ≡ place + 1 - at = omega arith in
    let one : suc place ≡ place + 1 = omega arith in
    let rest = drop (place + 1 - at) es in
    let left : drop (place - at) es ≡ x ∷ rest =
    next_left es (place - at) x here ∙ ap (λ n. x ∷ drop n es) next in
    ap (λ xs. xs ++ entry_rows t (place + 1) rest) added
    ∙ append_assoc out (t place x) (entry_rows t (place + 1) rest)
    ∙ ap (λ n. out ++ (t place x ++ entry_rows t n rest)) (sym one)
    ∙ ap (λ l. out ++ entry_rows t place l) (sym left)
    ∙ so

-- without an entry at a place, none is left from the next place on either
pub line_none :
    (t : ℕ → Entry → List ℕ)
    (at place : ℕ) (es : List Entry) (out text : List ℕ) → at ≤ place
    → slice_get es (place - at) ≡ None
    → out ++ entry_rows t place (drop (place - at) es) ≡ text
    → out ++ entry_rows t (place + 1) (drop (place + 1 - at) es) ≡ text
line_none t at place es out text le none so =
    let next : suc (place - at) ≡ place + 1 - at = omega arith in
    let gone : drop (place - at) es ≡ [] = none_left es (place - at) none in
    let gone_on : drop (place + 1 - at) es ≡ [] =
    ap (λ n. drop n es) (sym next) ∙ drop_on es (place - at) gone in
    ap (λ l. out ++ entry_rows t (place + 1) l) gone_on
    ∙ ap (λ l. out ++ entry_rows t place l) (sym gone)
    ∙ so
  where
    drop_on : (xs : List Entry) (i : ℕ) → drop i xs ≡ [] → drop (suc i) xs ≡ []
    drop_on [] zero e = refl
    drop_on [] (suc i) e = refl
    drop_on (y ∷ ys) zero e = absurd cc
    drop_on (y ∷ ys) (suc i) e = drop_on ys i e

-- at the end all lines are there
pub line_end :
    (t : ℕ → Entry → List ℕ)
    (at place : ℕ) (es : List Entry) (out text : List ℕ) → length es ≤ place - at
    → out ++ entry_rows t place (drop (place - at) es) ≡ text → out ≡ text
line_end t at place es out text past so =
    sym (append-nil out)
    ∙ ap (λ l. out ++ entry_rows t place l) (sym (none_past es (place - at) past))
    ∙ so
