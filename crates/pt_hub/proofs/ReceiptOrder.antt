-- The order of a client's receipts, and what they have seen.
use Rattle.std.proofs.Common.{◌≡◌, ℕ, zero, suc, ◌-◌, ◌<◌, List, [], ◌∷◌, ◌++◌, length}
use Rattle.std.proofs.Common.{slice_get, slice_set, IfSome, Option, Some, None, refl, sym, ap, ◌∙◌, subst, arith}
use Rattle.std.proofs.lemmas.Option.{slice_get-get_or}
use Rattle.pt_types.specs.declared.outcome.Outcome.{Outcome}
use Rattle.pt_types.specs.declared.call.Call.{Call as FunctionCall}
use Rattle.pt_model.specs.declared.entry.Event.TheVariants as event
use Rattle.pt_model.specs.Searches.{Each}
use Rattle.pt_hub.specs.declared.pass.Receipt.{Receipt}
use Rattle.pt_client_events.specs.OwnEvents.{own_event}
use Rattle.pt_hub.specs.Hubs.{receipts_with_answer, last_receipt, with_last}
use Rattle.pt_hub.specs.Passes.{AreReceipts, IsReceiptOf, RisesFrom, last_place}

abbrev pub last_if : ℕ → Option Receipt → ℕ
last_if k None = k
last_if k (Some r) = r.place

-- one more receipt, at a later place
each-push : (c : ℕ) (rs : List Receipt) (r : Receipt) → Each (IsReceiptOf c) rs → IsReceiptOf c r
    → Each (IsReceiptOf c) (rs ++ r ∷ [])
each-push c [] r e i = (i, tt)
each-push c (q ∷ qs) r e i = (e.0, each-push c qs r e.1 i)

rises-push : (k : ℕ) (rs : List Receipt) (r : Receipt) → RisesFrom k rs → last_place k rs < r.place
    → RisesFrom k (rs ++ r ∷ [])
rises-push k [] r s l = (l, tt)
rises-push k (q ∷ qs) r s l = (s.0, rises-push q.place qs r s.1 l)

pub receipts-push : (c : ℕ) (rs : List Receipt) (r : Receipt) → AreReceipts c rs → IsReceiptOf c r
    → last_place c rs < r.place → AreReceipts c (rs ++ r ∷ [])
receipts-push c rs r a i l =
    record { each = each-push c rs r a.each i; rises = rises-push c rs r a.rises l }

-- an answer changes neither places nor what was seen
abbrev Alike : List Receipt → List Receipt → Type 0
Alike [] [] = Unit {0}
Alike [] (r ∷ rs) = ⊥
Alike (q ∷ qs) [] = ⊥
Alike (q ∷ qs) (r ∷ rs) = (q.place ≡ r.place) × (q.call ≡ r.call) × (q.seen ≡ r.seen) × Alike qs rs

alike-same : (rs : List Receipt) → Alike rs rs
alike-same [] = tt
alike-same (r ∷ rs) = (refl, refl, refl, alike-same rs)

alike-set : (rs : List Receipt) (i : ℕ) (r : Receipt) (x : Outcome) → slice_get rs i ≡ Some r
    → Alike rs (slice_set rs i (record r { answer = Some x }))
alike-set [] i r x e = absurd cc
alike-set (q ∷ qs) zero r x e =
    let same : q ≡ r = cc in (
      ap (λ (s : Receipt). s.place) same,
      ap (λ (s : Receipt). s.call) same,
      ap (λ (s : Receipt). s.seen) same,
      alike-same qs,
    )
alike-set (q ∷ qs) (suc i) r x e = (refl, refl, refl, alike-set qs i r x e)

alike-receipts_with_answer : (rs : List Receipt) (x : Outcome)
    → Alike rs (receipts_with_answer rs x)
alike-receipts_with_answer rs x = go (last_receipt rs) refl
  where
    go : (o : Option Receipt) → last_receipt rs ≡ o → Alike rs (with_last rs o x)
    go None e = alike-same rs
    go (Some r) e = alike-set rs (length rs - 1) r x e

each-alike : (c : ℕ) (qs rs : List Receipt) → Alike qs rs → Each (IsReceiptOf c) qs
    → Each (IsReceiptOf c) rs
each-alike c [] [] a e = tt
each-alike c [] (r ∷ rs) a e = absurd a
each-alike c (q ∷ qs) [] a e = absurd a
each-alike c (q ∷ qs) (r ∷ rs) a e = (
  subst (λ o. IfSome o (λ s. (s.place ≡ r.place)
      × (own_event c s.cell.entry ≡ Some (event.Call c r.call)))) a.2
      (subst (λ (k : FunctionCall). IfSome q.seen (λ s. (s.place ≡ r.place)
      × (own_event c s.cell.entry ≡ Some (event.Call c k)))) a.1
      (subst (λ (n : ℕ). IfSome q.seen (λ s. (s.place ≡ n)
      × (own_event c s.cell.entry ≡ Some (event.Call c q.call)))) a.0 e.0)),
  each-alike c qs rs a.3 e.1,
)

rises-alike : (k n : ℕ) (qs rs : List Receipt) → k ≡ n → Alike qs rs → RisesFrom k qs
    → RisesFrom n rs
rises-alike k n [] [] e a s = tt
rises-alike k n [] (r ∷ rs) e a s = absurd a
rises-alike k n (q ∷ qs) [] e a s = absurd a
rises-alike k n (q ∷ qs) (r ∷ rs) e a s =
    (omega (arith, e, a.0, s.0), rises-alike q.place r.place qs rs a.0 a.3 s.1)

pub receipts-receipts_with_answer : (c : ℕ) (rs : List Receipt) (x : Outcome) → AreReceipts c rs
    → AreReceipts c (receipts_with_answer rs x)
receipts-receipts_with_answer c rs x a =
    record {
      each = each-alike c rs (receipts_with_answer rs x) (alike-receipts_with_answer rs x) a.each;
      rises = rises-alike c c rs (receipts_with_answer rs x) refl
          (alike-receipts_with_answer rs x) a.rises;
    }

-- the last of these is at the last place
pub last_here : (k : ℕ) (rs : List Receipt)
    → last_place k rs ≡ last_if k (slice_get rs (length rs - 1))
last_here k [] = refl
last_here k (r ∷ []) = refl
last_here k (r ∷ q ∷ qs) =
    let n = length qs in
    let there = slice_get-get_or (q ∷ qs) n q (omega arith) in
    let here : length (q ∷ qs) - 1 ≡ n = omega arith in
    let next : length (r ∷ q ∷ qs) - 1 ≡ suc n = omega arith in
    last_here r.place (q ∷ qs)
    ∙ (ap (λ i. last_if r.place (slice_get (q ∷ qs) i)) here
    ∙ (ap (last_if r.place) there
    ∙ sym (ap (λ i. last_if k (slice_get (r ∷ q ∷ qs) i)) next ∙ ap (last_if k) there)))

pub last_of : (k : ℕ) (rs : List Receipt) (o : Option Receipt) → o ≡ slice_get rs (length rs - 1)
    → last_if k o ≡ last_place k rs
last_of k rs o e = ap (last_if k) e ∙ sym (last_here k rs)
