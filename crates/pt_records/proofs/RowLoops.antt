-- Loops over the rows of clients, by the index of the row.
use Rattle.std.proofs.Common.{◌≡◌, ℕ, zero, suc, ◌<◌, Bool, true, false, ◌||◌, List, [], ◌∷◌}
use Rattle.std.proofs.Common.{Option, Some, None, refl, ◌∙◌, arith, length, inl, inr}
use Rattle.std.specs.List.{list_any, cons_option}
use Rattle.pt_table.specs.declared.clients.ClientRow.{ClientRow}
use Rattle.pt_table.specs.ClientRows.{nth_value}
use Rattle.pt_model.specs.Searches.{In}
use Rattle.pt_model.specs.Found.{is_some_and}
use Rattle.pt_records.specs.declared.clients.Caller.{Caller}
use Rattle.pt_records.specs.declared.clients.Open.{Open}
use Rattle.pt_records.specs.Callers.{open_in, opens_of}

-- a test passes for some calls if it does for the first, or for one after it
any-first : (q : Open → Bool) (first : Option Open) (os : List Open)
    → list_any q (cons_option first os) ≡ (is_some_and q first || list_any q os)
any-first q None os = refl
any-first q (Some o) os = refl

-- if the second of two tests passes, one does
or_right : (a b : Bool) → b ≡ true → (a || b) ≡ true
or_right true b e = refl
or_right false b e = e

-- neither of two tests passes
or_false : (a b : Bool) → a ≡ false → b ≡ false → (a || b) ≡ false
or_false a b e f = rw e f

-- some row's open call passes
pub any-at : (q : Open → Bool) (rows : List (ClientRow Caller)) (i : ℕ)
    → is_some_and q (open_in (nth_value rows i)) ≡ true → list_any q (opens_of rows) ≡ true
any-at q [] i e = cc
any-at q (x ∷ rows) zero e = any-first q x.value.open (opens_of rows) ∙ rw e refl
any-at q (x ∷ rows) (suc i) e =
    any-first q x.value.open (opens_of rows)
    ∙ or_right (is_some_and q x.value.open) (list_any q (opens_of rows)) (any-at q rows i e)

-- no row's open call passes
pub any-nowhere : (q : Open → Bool) (rows : List (ClientRow Caller))
    → ((k : ℕ) → k < length rows → is_some_and q (open_in (nth_value rows k)) ≡ false)
    → list_any q (opens_of rows) ≡ false
any-nowhere q [] f = refl
any-nowhere q (x ∷ rows) f =
    any-first q x.value.open (opens_of rows)
    ∙ or_false (is_some_and q x.value.open) (list_any q (opens_of rows)) (f 0 (omega arith))
    (any-nowhere q rows (λ k lt. f (suc k) (omega arith)))

-- the open call of some row is one of those in the rows
pub nth-in : (rows : List (ClientRow Caller)) (i : ℕ) (o : Open)
    → open_in (nth_value rows i) ≡ Some o → In o (opens_of rows)
nth-in [] i o e = absurd cc
nth-in (x ∷ rows) zero o e = rw e (inl refl)
nth-in (x ∷ rows) (suc i) o e = go x.value.open (nth-in rows i o e)
  where
    go : (first : Option Open) → In o (opens_of rows) → In o (cons_option first (opens_of rows))
    go None ih = ih
    go (Some first) ih = inr ih
