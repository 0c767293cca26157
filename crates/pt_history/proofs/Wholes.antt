-- Entries that are stored whole, if nothing shorter was stored.
use Rattle.std.proofs.Common.{ℕ, ◌≡◌, ◌≤◌, sym, subst, vec_len}
use Rattle.pt_model.specs.declared.entry.Entry.{Entry}
use Rattle.pt_history.specs.declared.compact.Compact.{Compact}
use Rattle.pt_history.specs.declared.records.Records.{Records}
use Rattle.pt_history.specs.Records.{HasPartsRoom, Shows}

pub room-still : {A : Type 0} (old new : Records A) (n : ℕ) → new ≡ old → HasPartsRoom old n
    → HasPartsRoom new n
room-still {A} old new n e h = subst (λ (r : Records A). HasPartsRoom r n) (sym e) h

pub few-still : {A : Type 0} (old new : Records A) → new ≡ old
    → vec_len old.wholes ≤ 4294967295 → vec_len new.wholes ≤ 4294967295
few-still {A} old new e h =
    subst (λ (r : Records A). vec_len r.wholes ≤ 4294967295) (sym e) h

pub shows-after : {A : Type 0} (b : ℕ) (e : Entry) (old mid new : Records A) (c : Compact)
    → mid ≡ old → Shows b e mid new c → Shows b e old new c
shows-after {A} b e old mid new c same s =
    subst (λ (r : Records A). Shows b e r new c) same s
