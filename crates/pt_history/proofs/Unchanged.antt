-- The invariant of a stored history, step by step.
use Rattle.std.proofs.Common.{ℕ, suc, ◌≡◌, ◌+◌, ◌-◌, ◌<◌, List, [], ◌∷◌, ◌++◌, length, map, ap, sym}
use Rattle.std.proofs.Common.{subst, ◌∙◌, arith, length-append, if◌then◌else◌}
use Rattle.std.proofs.lemmas.List.{length-map}
use Rattle.pt_model.specs.declared.entry.Entry.{Entry}
use Rattle.pt_model.specs.Histories.{is_forced}
use Rattle.pt_model.specs.StartRows.{StartRows}
use Rattle.pt_history.specs.declared.compact.Compact.{Compact}
use Rattle.pt_history.specs.declared.records.Records.{Records}
use Rattle.pt_history.specs.Compact.{Parts, base_of, read_compact}
use Rattle.pt_history.specs.Records.{parts_of, KeepsParts, Shows}
use Rattle.pt_history.specs.Stored.{Stored, IsCounted, IsRecorded, entries_of}
use Rattle.pt_history.proofs.Counts.{counted-push}
use Rattle.pt_history.proofs.Stable.{read_compact-push, stored-push, fewer}

-- what contracts see of these parts
abbrev pub viewed : StartRows → List Entry → ℕ → ℕ → Stored
viewed start es limit room = record { start = start; entries = es; limit = limit; room = room }

-- there are as many entries as stored ones
pub length-entries : {A : Type 0} (at : ℕ) (r : Records A) (cs : List Compact)
    → length (entries_of at r cs) ≡ length cs
length-entries at r cs = length-map cs (read_compact (base_of at) (parts_of r))

-- the count is unchanged while the parts are
pub counted-same : {A : Type 0} (s : StartRows) (at : ℕ) (old new : Records A)
    (cs ds : List Compact) (n : ℕ)
    → ds ≡ cs → parts_of new ≡ parts_of old → IsCounted s (entries_of at old cs) n
    → IsCounted s (entries_of at new ds) n
counted-same s at old new cs ds n e p c =
    let same : entries_of at new ds ≡ entries_of at old cs =
    ap (λ (x : List Compact). entries_of at new x) e
    ∙ ap (λ (x : Parts). map (read_compact (base_of at) x) cs) p in
    subst (λ (es : List Entry). IsCounted s es n) (sym same) c

-- what holds of the records while the parts are unchanged
pub recorded-same : {A : Type 0} (old new : Records A) (cs ds : List Compact) (n : ℕ)
    → ds ≡ cs → KeepsParts old new → IsRecorded old cs n → IsRecorded new ds n
recorded-same old new cs ds n e k r =
    subst (λ (x : List Compact). IsRecorded new x n) (sym e) (record {
      stored = rw k.same r.stored;
      room = k.room n r.room;
      bounded = omega (arith, k.bounded, r.bounded);
    })

-- the entries with one more
pub entries-more : {A : Type 0} (at b : ℕ) (old new : Records A) (cs ds : List Compact)
    (c : Compact) (e : Entry) (room : ℕ)
    → b ≡ base_of at → ds ≡ cs ++ c ∷ [] → Shows b e old new c → IsRecorded old cs room
    → entries_of at new ds ≡ entries_of at old cs ++ e ∷ []
entries-more at b old new cs ds c e room f d h r =
    let same : read_compact (base_of at) (parts_of new) c ≡ e =
    subst (λ (x : ℕ). read_compact x (parts_of new) c ≡ e) f h.same in
    ap (λ (x : List Compact). entries_of at new x) d
    ∙ read_compact-push (base_of at) (parts_of old) (parts_of new) cs c e h.grown r.stored same

-- the count with one more entry
pub counted-more : {A : Type 0} (s : StartRows) (at : ℕ) (old new : Records A)
    (cs ds : List Compact)
    (e : Entry) (n m : ℕ)
    → entries_of at new ds ≡ entries_of at old cs ++ e ∷ [] → m ≡ (if is_forced e then 0 else 1)
    → IsCounted s (entries_of at old cs) n → IsCounted s (entries_of at new ds) (n + m)
counted-more s at old new cs ds e n m all o k =
    subst (λ (es : List Entry). IsCounted s es (n + m)) (sym all)
    (subst (λ (x : ℕ). IsCounted s (entries_of at old cs ++ e ∷ []) (n + x)) (sym o)
    (counted-push s (entries_of at old cs) n e k))

-- the records with one more entry
pub recorded-more : {A : Type 0} (b : ℕ) (old new : Records A) (cs ds : List Compact) (c : Compact)
    (e : Entry) (n : ℕ)
    → ds ≡ cs ++ c ∷ [] → 0 < n → Shows b e old new c → IsRecorded old cs n → IsRecorded new ds
    (n - 1)
recorded-more b old new cs ds c e n d l h r =
    subst (λ (x : List Compact). IsRecorded new x (n - 1)) (sym d) (record {
      stored = stored-push (parts_of old) (parts_of new) cs c h.grown r.stored h.stored;
      room = h.room (n - 1) (fewer old n (suc (n - 1)) r.room (omega arith));
      bounded = omega (arith, h.bounded, r.bounded, length-append cs (c ∷ []));
    })
