-- A history without entries is empty, whatever its limit.
use Rattle.std.proofs.Common.{◌≡◌, ◌≤◌, ℕ, List, [], sym, ap, ◌∙◌, subst}
use Rattle.pt_types.specs.Limits.{max_entries}
use Rattle.pt_model.specs.declared.entry.Entry.{Entry}
use Rattle.pt_model.specs.Starts.{empty_start}
use Rattle.pt_legal.specs.Cores.{IsEmpty, CoreState}

pub is-empty : (k : CoreState) (n : ℕ) → k ≡ record { start = empty_start; entries = []; limit = n }
    → n ≤ max_entries → IsEmpty k
is-empty k n e l =
    let same : k.limit ≡ n = ap (λ (s : CoreState). s.limit) e in
    record {
      nothing_yet = e ∙ ap (λ (m : ℕ). record { start = empty_start; entries = []; limit = m })
          (sym same);
      limit = subst (λ (m : ℕ). m ≤ max_entries) (sym same) l;
    }
