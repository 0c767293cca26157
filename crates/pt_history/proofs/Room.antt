-- The room of a stored history, as it is made and used.
use Rattle.std.proofs.Common.{ℕ, ◌≡◌, List, length, map, ap, sym, subst, ◌∙◌}
use Rattle.std.proofs.Common.{false, arith}
use Rattle.std.specs.Prelude.{Result, Ok, Err, OnOk, IfErr, ◌≢◌}
use Rattle.std.specs.Result.{is_err}
use Rattle.std.proofs.lemmas.Result.{IfErr-at_err, IfErr-weaker}
use Rattle.pt_types.specs.declared.outcome.Refusal.{Refusal}
use Rattle.pt_types.specs.declared.outcome.Refusal.TheVariants.{Enomem, Full}
use Rattle.pt_model.specs.declared.entry.Entry.{Entry}
use Rattle.pt_model.specs.StartRows.{StartRows}
use Rattle.pt_history.specs.declared.compact.Compact.{Compact}
use Rattle.pt_history.specs.declared.records.Records.{Records}
use Rattle.pt_history.specs.Compact.{Parts, base_of, read_compact}
use Rattle.pt_history.specs.Records.{parts_of, HasPartsRoom, KeepsParts}
use Rattle.pt_history.specs.Stored.{Stored, IsRecorded, entries_of}
use Rattle.pt_history.proofs.Unchanged.{length-entries, viewed}

-- the entries are unchanged while the parts are
pub entries-same : {A : Type 0} (at : ℕ) (old new : Records A) (cs ds : List Compact)
    → ds ≡ cs → parts_of new ≡ parts_of old → entries_of at new ds ≡ entries_of at old cs
entries-same at old new cs ds e p =
    ap (λ (x : List Compact). entries_of at new x) e
    ∙ ap (λ (x : Parts). map (read_compact (base_of at) x) cs) p

-- what is seen is unchanged while the entries are
pub seen-same : (seen : Stored) (start : StartRows) (es ds : List Entry) (limit room : ℕ)
    → ds ≡ es → viewed start es limit room ≡ seen → viewed start ds limit room ≡ seen
seen-same seen start es ds limit room d v =
    ap (λ (x : List Entry). viewed start x limit room) d ∙ v

-- what is seen with a different room
pub seen-room : (seen : Stored) (start : StartRows) (es ds : List Entry) (limit room other : ℕ)
    → ds ≡ es → viewed start es limit room ≡ seen
    → viewed start ds limit other ≡ (record seen { room = other })
seen-room seen start es ds limit room other d v =
    ap (λ (x : List Entry). viewed start x limit other) d
    ∙ ap (λ (s : Stored). record s { room = other }) v

-- as many entries are seen as are stored
pub seen-length : {A : Type 0} (seen : Stored) (start : StartRows) (at limit room : ℕ)
    (r : Records A) (cs : List Compact)
    → viewed start (entries_of at r cs) limit room ≡ seen → length seen.entries ≡ length cs
seen-length seen start at limit room r cs v =
    ap (λ (s : Stored). length s.entries) (sym v) ∙ length-entries at r cs

-- the records with room for m entries
pub recorded-room : {A : Type 0} (old new : Records A) (cs ds : List Compact) (n m : ℕ)
    → ds ≡ cs → KeepsParts old new → HasPartsRoom new m → IsRecorded old cs n → IsRecorded new ds m
recorded-room old new cs ds n m e k h r =
    subst (λ (x : List Compact). IsRecorded new x m) (sym e) (record {
      stored = rw k.same r.stored;
      room = h;
      bounded = omega (arith, k.bounded, r.bounded);
    })

-- what holds of a success
pub at-ok : {T E : Type 0} (r : Result T E) (P : Type 0) → false ≡ is_err r → OnOk r P → P
at-ok (Ok x) P e h = h
at-ok (Err x) P e h = cc

-- a refusal that is ENOMEM isn't FULL
pub not-full : {T : Type 0} (r : Result T Refusal) (P : Type 0)
    → IfErr r (λ x. x ≡ Enomem) → r ≡ Err Full → P
not-full r P m e = let h : Full ≡ Enomem = IfErr-at_err (λ (x : Refusal). x ≡ Enomem) e m in cc

pub else-memory : {T : Type 0} (r : Result T Refusal) → IfErr r (λ x. x ≡ Enomem)
    → IfErr r (λ x. x ≢ Full → x ≡ Enomem)
else-memory r m =
    IfErr-weaker r (λ (x : Refusal). x ≡ Enomem) (λ (x : Refusal). x ≢ Full → x ≡ Enomem)
    (λ y e n. e) m
