-- What is read off an answering core for a client, if each of them is written in two ways.
use Rattle.std.proofs.Common.{◌≡◌, ℕ, ◌+◌, ◌≤◌, true, false, nat_eq, Option, Some, None}
use Rattle.std.proofs.Common.{refl, sym, ap, ◌∙◌, subst}
use Rattle.std.specs.Prelude.{IsSome, IfSome, MatchOption, unwrap_or}
use Rattle.std.specs.Map.{lookup}
use Rattle.pt_types.specs.declared.call.Call.{Call as FunctionCall}
use Rattle.pt_types.specs.declared.outcome.Refusal.{Refusal}
use Rattle.pt_types.specs.declared.outcome.Refusal.TheVariants.{Blocked, Enomem}
use Rattle.pt_types.specs.Limits.{max_entries, max_place}
use Rattle.pt_model.specs.declared.entry.Event.{Event}
use Rattle.pt_model.specs.declared.entry.Event.TheVariants as event
use Rattle.pt_model.specs.Records.{ReplyView}
use Rattle.pt_model.specs.Queries.{answer_of}
use Rattle.pt_model.specs.Room.{refusal_with_seals}
use Rattle.pt_legal.specs.Cores.{history_of}
use Rattle.pt_legal.specs.Applying.{IsOutOfMemory}
use Rattle.pt_hub.specs.declared.account.Account.{Account}
use Rattle.pt_hub.specs.AnsweringCores.{AnsweringCoreView, hub_core, is_client_blocked, next_answer, call_refusal}
use Rattle.pt_hub.specs.AnsweringCores.{IsRefusedAs}
use Rattle.pt_hub.specs.AnsweringCores.{IsAnsweringCore}
use Rattle.pt_hub.proofs.ReadingLemmas.{awaits_in, blocked-awaits, unblocked-refusal}
use Rattle.pt_hub.proofs.ReadingLemmas.{next-blocked, next-free, taker-known, taker-small}

-- an event for which the core knows no other refusal is refused for lack of memory
pub wanted : (known : Option Refusal) (r : Refusal) (e : Event)
    → MatchOption known (IsOutOfMemory e r) (λ x. r ≡ x) → IsRefusedAs known r
wanted None r e w = w.0
wanted (Some x) r e w = w

-- the refusal that is known, or else lack of memory
pub known-or : (known : Option Refusal) → IsRefusedAs known (unwrap_or known Enomem)
known-or None = refl
known-or (Some x) = refl

module _ (d e : AnsweringCoreView) (k : IsAnsweringCore d) (same : d ≡ e) (c b : ℕ) (at : c ≡ b) where
  pub blocked-read : (o : Option Account) → o ≡ lookup (nat_eq c) d.accounts
      → awaits_in o ≡ is_client_blocked e b
  blocked-read o r = rw (← same, ← at) (ap awaits_in r ∙ sym (blocked-awaits d k c))

  pub next-read : (o : Option ReplyView) → o ≡ answer_of (history_of (hub_core d)) c
      → is_client_blocked e b ≡ true → o ≡ next_answer e b
  next-read o r t =
      let here : is_client_blocked d c ≡ true = rw (same, at) t in
      rw (← same, ← at) (r ∙ next-blocked d k c here)

  pub next-read-free : is_client_blocked e b ≡ false → None ≡ next_answer e b
  next-read-free t =
      let here : is_client_blocked d c ≡ false = rw (same, at) t in
      rw (← same, ← at) (sym (next-free d k c here))

  pub caller-blocked : (call : FunctionCall) → is_client_blocked e b ≡ true
      → IsRefusedAs (call_refusal e b call) Blocked
  caller-blocked call t = rw t refl

  -- a caller that isn't blocked is refused as the core refuses it
  pub caller-refused : (call said : FunctionCall) → said ≡ call → (r : Refusal)
      → is_client_blocked e b ≡ false
      → MatchOption (refusal_with_seals (hub_core d).limit (history_of (hub_core d))
      (event.Call c said))
      (IsOutOfMemory (event.Call c said) r) (λ x. r ≡ x)
      → IsRefusedAs (call_refusal e b call) r
  caller-refused call said by r free w =
      let here : is_client_blocked d c ≡ false =
      subst (λ (x : AnsweringCoreView). is_client_blocked x c ≡ false) (sym same)
      (subst (λ n. is_client_blocked e n ≡ false) (sym at) free) in
      subst (λ (x : AnsweringCoreView). IsRefusedAs (call_refusal x b call) r) same
      (subst (λ n. IsRefusedAs (call_refusal d n call) r) at
      (subst (λ (v : FunctionCall). IsRefusedAs (call_refusal d c v) r) by
      (subst (λ (o : Option Refusal). IsRefusedAs o r)
      (sym (unblocked-refusal d k c said here)) (wanted _ r (event.Call c said) w))))

  -- a client that takes an answer has an account, and has taken fewer answers than there are places
  module _ (s : IsSome (next_answer e b)) where
    here : IsSome (next_answer d c)
    here = rw (same, at) s

    pub taker-there : IsSome (lookup (nat_eq c) d.accounts)
    taker-there = go (lookup (nat_eq c) d.accounts) refl
      where
        go : (o : Option Account) → lookup (nat_eq c) d.accounts ≡ o → IsSome o
        go None e = absurd (taker-known d k c here e)
        go (Some a) e = refl

    pub taker-few : IfSome (lookup (nat_eq c) d.accounts)
        (λ (a : Account). a.taken + 1 ≤ max_place + max_entries)
    taker-few = go (lookup (nat_eq c) d.accounts) refl
      where
        go : (o : Option Account) → lookup (nat_eq c) d.accounts ≡ o
            → IfSome o (λ (a : Account). a.taken + 1 ≤ max_place + max_entries)
        go None e = absurd (taker-known d k c here e)
        go (Some a) e = taker-small d k c a e here
