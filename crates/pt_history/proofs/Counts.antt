-- The number of outer entries of a stored history.
use Rattle.std.proofs.Common.{ℕ, ◌+◌, ◌≤◌, Bool, true, false, List, [], ◌∷◌, ◌++◌, length}
use Rattle.std.proofs.Common.{if◌then◌else◌, ap, arith}
use Rattle.pt_model.specs.declared.entry.Entry.{Entry}
use Rattle.pt_model.specs.Histories.{History, Begin, ◌▷◌, append_entries, history_since, outer}
use Rattle.pt_model.specs.Histories.{is_forced}
use Rattle.pt_model.specs.StartRows.{StartRows, start_of_rows}
use Rattle.pt_model.proofs.Histories.{behind-push}
use Rattle.pt_history.specs.Stored.{IsCounted}

pub one_most : (forced : Bool) → (if forced then 0 else 1) ≤ 1
one_most true = omega arith
one_most false = omega arith

-- each entry adds at most one
outer-append_entries : (h : History) (es : List Entry) → outer (append_entries h es)
    ≤ outer h + length es
outer-append_entries h [] = omega arith
outer-append_entries h (e ∷ es) = omega (
  arith,
  one_most (is_forced e),
  outer-append_entries
      (h ▷ e) es,
)

-- there are no more outer entries than places
pub outer-most : (s : StartRows) (es : List Entry) → s.outer ≤ s.at
    → outer (history_since (start_of_rows s) es) ≤ s.at + length es
outer-most s es b = omega (arith, outer-append_entries (Begin (start_of_rows s)) es)

-- the count with one more entry
pub counted-push : (s : StartRows) (es : List Entry) (n : ℕ) (e : Entry) → IsCounted s es n
    → IsCounted s (es ++ e ∷ []) (n + (if is_forced e then 0 else 1))
counted-push s es n e c = record {
  before = c.before;
  all = omega (arith, c.all, ap outer (behind-push (start_of_rows s) es e));
}
