-- Prefix: the histories of the first entries of a list.
use Rattle.std.proofs.Common.{◌≡◌, ℕ, ◌+◌, ◌<◌, ◌≤◌, List, [], ◌∷◌, ◌++◌, length, length-take-le}
use Rattle.std.proofs.Common.{get_or, take, ap, refl, ◌∙◌, arith}
use Rattle.std.proofs.lemmas.List.{take_more}
use Rattle.pt_model.specs.declared.entry.Entry.{Entry}
use Rattle.pt_model.specs.Starts.{empty_start}
use Rattle.pt_model.specs.Histories.{History, Begin, ◌▷◌, place, append_entries, history}

pub append_entries-append : (h : History) (xs ys : List Entry) → append_entries h (xs ++ ys)
    ≡ append_entries (append_entries h xs) ys
append_entries-append h [] ys = refl
append_entries-append h (x ∷ xs) ys = append_entries-append (h ▷ x) xs ys

-- the history of one more entry
pub history_more :
    (es : List Entry) (i : ℕ) (d : Entry) → i < length es
    → history (take (i + 1) es) ≡ history (take i es) ▷ get_or es i d
history_more es i d lt =
    ap history (take_more es i d lt)
    ∙ append_entries-append (Begin empty_start) (take i es) (get_or es i d ∷ [])

place-append_entries : (h : History) (xs : List Entry) → place (append_entries h xs)
    ≡ place h + length xs
place-append_entries h [] = omega arith
place-append_entries h (x ∷ xs) = omega (arith, place-append_entries (h ▷ x) xs)

-- the place of the next entry is the number of entries
pub place_all : (es : List Entry) → place (history es) ≡ length es
place_all es = omega (arith, place-append_entries (Begin empty_start) es)

-- the same for the first entries
pub place_below : (es : List Entry) (i : ℕ) → i ≤ length es → place (history (take i es)) ≡ i
place_below es i le = place_all (take i es) ∙ length-take-le i es le
