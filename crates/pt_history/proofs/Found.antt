-- What is read off a stored history.
use Rattle.std.proofs.Common.{ℕ, ◌≡◌, ◌+◌, ◌-◌, ◌<◌, ◌≤◌, List, length, take, drop, ap, sym, subst}
use Rattle.std.proofs.Common.{Option, Some, None, ◌∙◌, arith, refl, slice_index_or, slice_get}
use Rattle.std.specs.Option.{option_map}
use Rattle.std.specs.List.{All}
use Rattle.std.proofs.lemmas.Option.{slice_get-map, slice_get_read, slice_get_past}
use Rattle.pt_types.specs.Names.{IsName}
use Rattle.pt_model.specs.declared.entry.Entry.{Entry}
use Rattle.pt_model.specs.StartRows.{StartRows}
use Rattle.pt_history.specs.declared.compact.Compact.{Compact}
use Rattle.pt_history.specs.declared.records.Records.{Records}
use Rattle.pt_history.specs.Compact.{Parts, IsStored, base_of, read_compact, text_at}
use Rattle.pt_history.specs.Records.{parts_of}
use Rattle.pt_history.specs.Stored.{Stored, entries_of}
use Rattle.pt_history.proofs.Unchanged.{length-entries, viewed}

-- the part of the texts that is one text
pub part-text : (seen texts : List ℕ) (from n : ℕ) → seen ≡ texts
    → take ((from + n) - from) (drop from seen) ≡ text_at texts from n
part-text seen texts from n e =
    let count : (from + n) - from ≡ n = omega arith in
    ap (λ (t : List ℕ). take ((from + n) - from) (drop from t)) e
    ∙ ap (λ (m : ℕ). take m (drop from texts)) count

pub part-named : (seen texts : List ℕ) (from n : ℕ) → seen ≡ texts → IsName (text_at texts from n)
    → IsName (take ((from + n) - from) (drop from seen))
part-named seen texts from n e h =
    subst (λ (t : List ℕ). IsName t) (sym (part-text seen texts from n e)) h

-- what a stored entry refers to is stored, if the entry was found
pub stored-at : (p : Parts) (seen items : List Compact) (k : ℕ) (c : Compact) → seen ≡ items
    → k < length seen → c ≡ slice_index_or seen k c → All (IsStored p) items → IsStored p c
stored-at p seen items k c e l f a =
    let within : k < length items = subst (λ (x : List Compact). k < length x) e l in
    let same : c ≡ slice_index_or items k c =
    f ∙ ap (λ (x : List Compact). slice_index_or x k c) e in
    subst (λ (x : Compact). IsStored p x) (sym same) (a k c within)

-- the entry that is seen at a place
pub seen-at : {A : Type 0} (seen : Stored) (start : StartRows) (limit room place base : ℕ)
    (r : Records A) (items now : List Compact) (c : Compact)
    → viewed start (entries_of start.at r items) limit room ≡ seen → base ≡ base_of start.at
    → now ≡ items → place - start.at < length now
    → c ≡ slice_index_or now (place - start.at) c
    → slice_get seen.entries (place - seen.start.at) ≡ Some (read_compact base (parts_of r) c)
seen-at seen start limit room place base r items now c v b e l f =
    let within : place - start.at < length items =
    subst (λ (x : List Compact). place - start.at < length x) e l in
    let same : c ≡ slice_index_or items (place - start.at) c =
    f ∙ ap (λ (x : List Compact). slice_index_or x (place - start.at) c) e in
    ap (λ (s : Stored). slice_get s.entries (place - s.start.at)) (sym v)
    ∙ slice_get-map (read_compact (base_of start.at) (parts_of r)) items (place - start.at)
    ∙ ap (λ (o : Option Compact). option_map (read_compact (base_of start.at) (parts_of r)) o)
    (slice_get_read items (length items) (place - start.at) c refl within same)
    ∙ ap (λ (x : ℕ). Some (read_compact x (parts_of r) c)) (sym b)

-- no entry is seen past the end
pub seen-past : {A : Type 0} (seen : Stored) (start : StartRows) (limit room place : ℕ)
    (r : Records A) (items now : List Compact)
    → viewed start (entries_of start.at r items) limit room ≡ seen
    → now ≡ items → length now ≤ place - start.at
    → slice_get seen.entries (place - seen.start.at) ≡ None
seen-past seen start limit room place r items now v e l =
    ap (λ (s : Stored). slice_get s.entries (place - s.start.at)) (sym v)
    ∙ slice_get_past (entries_of start.at r items) (place - start.at)
    (omega (arith, l, ap length e, length-entries start.at r items))

-- places count from the end of the Start
pub seen-start : (seen : Stored) (start : StartRows) (es : List Entry) (limit room : ℕ)
    → viewed start es limit room ≡ seen → start.at ≡ seen.start.at
seen-start seen start es limit room v = ap (λ (s : Stored). s.start.at) v
