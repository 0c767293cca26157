-- What is seen of a stored history while its fields change, and of an entry that is read again.
use Rattle.std.proofs.Common.{◌≡◌, ℕ, ◌+◌, ◌<◌, ◌≤◌, List, [], length, ap, sym, ◌∙◌}
use Rattle.std.proofs.Common.{Option, Some, None, slice_index_or, subst, arith}
use Rattle.std.proofs.Common.{refl, vec_len}
use Rattle.std.specs.Prelude.{IfSome}
use Rattle.std.proofs.lemmas.List.{get_or_read}
use Rattle.pt_types.specs.declared.call.Call.{Call}
use Rattle.pt_types.specs.declared.outcome.Outcome.{Outcome}
use Rattle.pt_model.specs.declared.entry.Entry.{Entry}
use Rattle.pt_model.specs.declared.entry.Entry.TheVariants.{Call as CallEntry}
use Rattle.pt_model.specs.StartRows.{StartRows, empty_rows}
use Rattle.pt_history.specs.declared.compact.Answer.{Answer}
use Rattle.pt_history.specs.declared.compact.Compact.{Compact}
use Rattle.pt_history.specs.declared.compact.TimeLimit.{TimeLimit}
use Rattle.pt_history.specs.declared.records.Records.{Records}
use Rattle.pt_history.specs.Compact.{Parts, outcome_of_answer, base_of, limit_at}
use Rattle.pt_history.specs.Records.{HasPartsRoom, ShowsIfSome}
use Rattle.pt_history.specs.Stored.{Stored, IsWithin, IsCounted, IsRecorded, empty_store}
use Rattle.pt_history.specs.Stored.{entries_of}
use Rattle.pt_history.proofs.Unchanged.{viewed}

some-none : {X : Type 0} (x : X) → Some x ≡ None → ⊥
some-none x e = absurd cc

-- what follows if there is no value, and what holds of one
pub if-none : {X P : Type 0} (x : X) → Some x ≡ None → P
if-none x e = absurd (some-none x e)

pub none-holds : {X : Type 0} (o : Option X) (P : X → Type 0) → o ≡ None → IfSome o P
none-holds o P e = rw e tt

pub from-zero : (n k : ℕ) → 0 + n ≡ k → n ≡ k
from-zero n k e = omega arith

pub sum-same : (a b n m : ℕ) → a ≡ b → n ≡ m → a + n ≡ b + m
sum-same a b n m e f = omega (arith, e, f)

pub limit-read : (p : Parts) (i : ℕ) (x : TimeLimit) → i < length p.limits
    → x ≡ slice_index_or p.limits i x → x ≡ limit_at p i
limit-read p i x less e = get_or_read p.limits i x less e _

-- entries and room fit into the limit, as contracts see them
pub within-seen : (n len room other limit most : ℕ) → n ≡ len → room ≡ other → limit ≡ most
    → len + room ≤ limit → n + other ≤ most
within-seen n len room other limit most e f g fits = omega (arith, e, f, g, fits)

-- an empty history
pub empty_store-seen : (start : StartRows) (es : List Entry) (limit : ℕ) → start ≡ empty_rows → es
    ≡ []
    → viewed start es limit 0 ≡ empty_store limit
empty_store-seen start es limit e f = rw (e, f)

pub empty_store-within : (at len limit capacity : ℕ) → at ≡ 0 → len ≡ 0
    → IsWithin at len 0 0 limit capacity
empty_store-within at len limit capacity e f = record {
  fits = omega (arith, f);
  enough = omega arith;
  has_capacity = omega (arith, f);
  places = omega (arith, e);
}

pub empty_store-counted : (start : StartRows) (es : List Entry) → start ≡ empty_rows → es ≡ []
    → IsCounted start es 0
empty_store-counted start es e f = rw (e, f) (record { before = omega arith; all = refl })

pub empty_store-recorded : {A : Type 0} (r : Records A) (cs : List Compact) → cs ≡ []
    → HasPartsRoom r 0
    → vec_len r.wholes ≡ 0 → IsRecorded r cs 0
empty_store-recorded r cs e room bounded =
    rw e (record {
      stored = λ k d l. absurd (omega arith);
      room = room;
      bounded = omega (arith, bounded);
    })

pub empty_store-base : (at : ℕ) → at ≡ 0 → 0 ≡ base_of at
empty_store-base at e = omega (arith, e)

-- the client and the outcome of a call, if it was stored
pub told-if : {A : Type 0} (b client who : ℕ) (call : Call) (a : Answer) (outcome : Option Outcome)
    (old new : Records A) (r : Option Compact) → b + client ≡ who → outcome_of_answer a ≡ outcome
    → ShowsIfSome b (CallEntry (b + client) call (outcome_of_answer a)) old new r
    → ShowsIfSome b (CallEntry who call outcome) old new r
told-if b client who call a outcome old new r k o s =
    subst (λ (x : ℕ). ShowsIfSome b (CallEntry x call outcome) old new r) k
    (subst (λ (x : Option Outcome). ShowsIfSome b (CallEntry (b + client) call x) old new r) o s)

-- records that are equal
module _ {A : Type 0} (old new : Records A) (same : new ≡ old) (cs : List Compact) where
  pub seen-kept : (seen : Stored) (start : StartRows) (at limit room : ℕ)
      → viewed start (entries_of at old cs) limit room ≡ seen
      → viewed start (entries_of at new cs) limit room ≡ seen
  seen-kept seen start at limit room v =
      ap (λ (r : Records A). viewed start (entries_of at r cs) limit room) same ∙ v

  pub counted-kept : (s : StartRows) (at n : ℕ) → IsCounted s (entries_of at old cs) n
      → IsCounted s (entries_of at new cs) n
  counted-kept s at n c =
      subst (λ (r : Records A). IsCounted s (entries_of at r cs) n) (sym same) c

  pub recorded-kept : (n : ℕ) → IsRecorded old cs n → IsRecorded new cs n
  recorded-kept n r = subst (λ (x : Records A). IsRecorded x cs n) (sym same) r

-- a history that goes on from another Start
pub seen-sealed : {A : Type 0} (seen : Stored) (s t : StartRows) (es : List Entry)
    (at limit room : ℕ) (r : Records A) (cs : List Compact) → viewed s es limit room ≡ seen
    → cs ≡ []
    → viewed t (entries_of at r cs) limit room ≡ (record seen { start = t; entries = [] })
seen-sealed seen s t es at limit room r cs v e =
    ap (λ (x : List Compact). viewed t (entries_of at r x) limit room) e
    ∙ ap (λ (k : Stored). record k { start = t; entries = [] }) v
