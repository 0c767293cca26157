-- Entries that aren't stored, and change nothing.
use Rattle.std.proofs.Common.{ℕ, ◌≡◌, Option, None, ap, sym, subst, ◌∙◌}
use Rattle.std.specs.Prelude.{Vec}
use Rattle.pt_model.specs.declared.entry.Entry.{Entry}
use Rattle.pt_hints.specs.declared.hints.Hints.{Hints}
use Rattle.pt_history.specs.declared.compact.Compact.{Compact}
use Rattle.pt_history.specs.declared.records.Records.{Records}
use Rattle.pt_history.specs.Records.{ShowsIfSome}

pub shows-none : {A : Type 0} (b : ℕ) (e : Entry) (old new : Records A) (r : Option Compact)
    → r ≡ None → new ≡ old → ShowsIfSome b e old new r
shows-none b e old new r n s =
    subst (λ (o : Option Compact). ShowsIfSome b e old new o) (sym n) s

-- records with the same texts and hints are unchanged
pub texts-kept : {A : Type 0} (old : Records A) (ts : Vec ℕ A) (hs : Hints A)
    → ts ≡ old.texts → hs ≡ old.hints → (record old { texts = ts; hints = hs }) ≡ old
texts-kept {A} old ts hs e f =
    ap (λ (t : Vec ℕ A). record old { texts = t; hints = hs }) e
    ∙ ap (λ (h : Hints A). record old { hints = h }) f
