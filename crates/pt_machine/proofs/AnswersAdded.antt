-- AnswersAdded: the answers of the entries that were added to a stored history.
use Rattle.std.proofs.Common.{◌≡◌, List, [], ◌∷◌, ◌++◌, ◌-◌, ap, ◌∙◌, arith, append_assoc, drop}
use Rattle.std.proofs.Common.{length, take}
use Rattle.std.proofs.Math.Seq.{take-append_seam, drop-append_seam}
use Rattle.pt_model.specs.declared.entry.Entry.{Entry}
use Rattle.pt_model.specs.Answers.{replies_from, entry_replies}
use Rattle.pt_model.specs.Histories.{◌▷◌, history_since, place}
use Rattle.pt_model.specs.Queries.{answers_since}
use Rattle.pt_model.specs.StartRows.{start_of_rows}
use Rattle.pt_history.specs.Stored.{Stored, stored_history}
use Rattle.pt_history.proofs.Places.{place_of_next}
use Rattle.pt_state.specs.Adds.{store_with_entry}

-- the answers of two added entries are those of the first, followed by those of the second
pub answers-two : (old mid new : Stored) (e f : Entry) → mid ≡ store_with_entry old e → new
    ≡ store_with_entry mid f
    → answers_since (start_of_rows new.start) (place (stored_history old)) new.entries
    ≡ entry_replies (stored_history old) e ++ (entry_replies (stored_history old ▷ e) f ++ [])
answers-two old mid new e f first second =
    ap (λ (s : Stored). answers_since (start_of_rows s.start) (place
    (stored_history old)) s.entries)
    (second ∙ ap (λ s. store_with_entry s f) first)
    ∙ (ap (answers_since (start_of_rows old.start) (place (stored_history old)))
    (append_assoc old.entries (e ∷ []) (f ∷ []))
    ∙ (ap (λ n. replies_from (history_since (start_of_rows old.start) (take n all))
    (drop n all)) gap
    ∙ (ap (λ es. replies_from (history_since (start_of_rows old.start) es) (drop
    (length old.entries) all))
    (take-append_seam old.entries (e ∷ f ∷ []))
    ∙ ap (replies_from (stored_history old)) (drop-append_seam old.entries (e ∷ f ∷ [])))))
  where
    all : List Entry
    all = old.entries ++ e ∷ f ∷ []

    gap : place (stored_history old) - old.start.at ≡ length old.entries
    gap = omega (arith, place_of_next old)
