-- The call at a place, as a core finds it, and why a forced entry follows.
use Rattle.std.proofs.Common.{◌≡◌, ◌≤◌, ◌<◌, ◌-◌, ◌==◌, ℕ, List, Bool, true, false, Option, None}
use Rattle.std.proofs.Common.{nat_lt, slice_get, refl, ap, arith}
use Rattle.std.specs.Prelude.{if◌then◌else◌}
use Rattle.std.proofs.lemmas.Bool.Decides.{nat_tests}
use Rattle.pt_types.specs.declared.call.Call.{Call}
use Rattle.pt_model.specs.declared.entry.Entry.{Entry}
use Rattle.pt_legal.specs.Cores.{CoreState}
use Rattle.pt_rules.specs.EventRules.{forced_reason}
use Rattle.pt_explain.specs.Entries.{call_at, call_in, follows_by, place_of_call}

less : (n m : ℕ) → nat_lt n m ≡ true → n < m
less n m e = grind (arith, nat_tests)

more : (n m : ℕ) → nat_lt n m ≡ false → m ≤ n
more n m e = grind (arith, nat_tests)

pub call_found :
    (place at : ℕ) (es : List Entry) (found : Option Entry) → (place < at → found ≡ None)
    → (at ≤ place → found ≡ slice_get es (place - at))
    → call_in found ≡ (if nat_lt place at then None else call_in (slice_get es (place - at)))
call_found place at es found before since = go (nat_lt place at) refl
  where
    go : (b : Bool) → nat_lt place at ≡ b
        → call_in found ≡ (if b then None else call_in (slice_get es (place - at)))
    go true e = ap call_in (before (less place at e))
    go false e = ap call_in (since (more place at e))

pub followed :
    (k : CoreState) (place : ℕ) (e : Entry) (of : ℕ) (call : Option Call) (once : Bool)
    → of ≡ place_of_call e → call ≡ call_at k of → once ≡ (place - 1 == of)
    → forced_reason e call once ≡ follows_by k place e
followed k place e of call once eo ec en = rw (en, ec, eo) refl
