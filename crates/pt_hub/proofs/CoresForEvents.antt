-- An answering core remains an answering core after each event, even if the history is sealed for it first.
use Rattle.std.proofs.Common.{◌≡◌, ℕ, ◌≤◌, Bool, true, false, cond, nat_eq, List, Option, Some}
use Rattle.std.proofs.Common.{None, is_some, refl, sym, ap, ◌∙◌, subst, ◌==◌, arith}
use Rattle.std.proofs.lemmas.Bool.Decides.{nat_tests}
use Rattle.std.specs.Map.{lookup}
use Rattle.std.specs.Prelude.{IsSome, option_map}
use Rattle.pt_types.specs.declared.call.Call.{Call as FunctionCall}
use Rattle.pt_types.specs.declared.time.Clock.{Clock}
use Rattle.pt_types.specs.Limits.{max_place}
use Rattle.pt_model.specs.declared.entry.Event.{Event}
use Rattle.pt_model.specs.declared.entry.Event.TheVariants as event
use Rattle.pt_model.specs.Histories.{place}
use Rattle.pt_model.specs.Queries.{reply_if}
use Rattle.pt_model.specs.Room.{needs_seal}
use Rattle.pt_legal.specs.declared.applied.Applied.{Applied}
use Rattle.pt_legal.specs.Cores.{CoreState, history_of, core_state}
use Rattle.pt_cells.specs.Cells.{Celled}
use Rattle.pt_legal.specs.Applying.{IsApplied, IsEventWritten, core_for_event}
use Rattle.pt_legal.specs.Sealing.{IsSealed, core_after_seal}
use Rattle.pt_hub.specs.declared.account.Account.{Account}
use Rattle.pt_hub.specs.AnsweringCores.{AnsweringCoreView, hub_core, account_of, account_after_call, call_refusal}
use Rattle.pt_hub.specs.AnsweringCores.{new_account, is_client_blocked}
use Rattle.pt_hub.specs.AnsweringCores.{account_for_event, accounts_for_event, account_after_seal}
use Rattle.pt_hub.specs.AnsweringCores.{accounts_after_seal, accounts_after_seal_if}
use Rattle.pt_hub.specs.AnsweringCores.{IsAnsweringCore, IsAnsweringCoreOf, ChangesAccount, awaited_in, next_answer, taken_in}
use Rattle.pt_hub.proofs.CallAnswers.{next-asked}
use Rattle.pt_hub.proofs.AnsweringCoreLemmas.{desk-join, desk-call, desk-moment}
use Rattle.pt_hub.proofs.ReadingLemmas.{caller-known, caller-idle, unblocked-refusal}
use Rattle.pt_hub.proofs.CoresAfterSeal.{lookup-account_after_seal, core_for_event-desk, place-core_for_event, core_after_seal-desk}

-- the account of a caller that awaits no answer, among accounts that may be renewed
record IsIdle (o : Option Account) : Type 0 where
  pub account : Account
  pub there : o ≡ Some account
  pub free : account.awaits ≡ false

idle : (b : Bool) (xs : List (ℕ × Account)) (c : ℕ) (w : Account) → lookup (nat_eq c) xs ≡ Some w
    → w.awaits ≡ false → IsIdle (lookup (nat_eq c) (accounts_after_seal_if b xs))
idle true xs c w e free =
    record {
      account = account_after_seal w;
      there = lookup-account_after_seal c xs ∙ ap (option_map account_after_seal) e;
      free = free;
    }
idle false xs c w e free = record { account = w; there = e; free = free }

-- the event's place is the next one, even after a seal
pub first-core_for_event : (k new : CoreState) (v : Event) (a : Applied) → IsApplied k v new a
    → a.first ≡ place (history_of k)
first-core_for_event k new v a ok = ok.written.first ∙ place-core_for_event k v

-- without a seal, the entries were added to the old ones
pub written-unsealed : (k new : CoreState) (v : Event) (a : Applied) → IsApplied k v new a
    → a.sealed ≡ None → IsEventWritten k v new a
written-unsealed k new v a ok quiet =
    go (needs_seal k.limit (history_of k) v) (sym ok.sealed ∙ quiet) ok.written
  where
    go : (b : Bool) → cond b (Some (place (history_of k))) None ≡ None
        → IsEventWritten (cond b (core_after_seal k) k) v new a → IsEventWritten k v new a
    go true e w = absurd cc
    go false e w = w

module _ (k new : CoreState) (xs zs : List (ℕ × Account)) (v : Event) (a : Applied)
    (ok : IsApplied k v new a) (is : zs ≡ accounts_after_seal_if (is_some a.sealed) xs) where
  needed : is_some a.sealed ≡ needs_seal k.limit (history_of k) v
  needed = ap is_some ok.sealed ∙ go (needs_seal k.limit (history_of k) v)
    where
      go : (b : Bool) → is_some (cond b (Some (place (history_of k))) None) ≡ b
      go true = refl
      go false = refl

  -- the accounts are renewed exactly if the event needs a seal
  pub rows-core_for_event : zs ≡ accounts_after_seal_if (needs_seal k.limit (history_of k) v) xs
  rows-core_for_event = is ∙ ap (λ b. accounts_after_seal_if b xs) needed

  module _ (d : IsAnsweringCoreOf k xs) where
    pub desk-core_for_event : IsAnsweringCoreOf (core_for_event k v) zs
    desk-core_for_event =
        subst (IsAnsweringCoreOf (core_for_event k v)) (sym rows-core_for_event)
        (core_for_event-desk k v xs d ok.accepted)

-- a client joins
module _ (k new : CoreState) (xs made zs ys : List (ℕ × Account)) (p : ℕ) (a : Applied)
    (ok : IsApplied k (event.Join p) new a) (same : made ≡ xs)
    (is : zs ≡ accounts_after_seal_if (is_some a.sealed) made)
    (wrote : ChangesAccount zs ys a.first (Some new_account)) where
  is_of : zs ≡ accounts_after_seal_if (is_some a.sealed) xs
  is_of = is ∙ ap (accounts_after_seal_if (is_some a.sealed)) same

  pub desk-joined : IsAnsweringCoreOf k xs → IsAnsweringCoreOf new ys
  desk-joined d =
      desk-join (core_for_event k (event.Join p)) new zs ys
      (desk-core_for_event k new xs zs (event.Join p) a ok is_of d) p a ok.written a.first
      ok.written.first wrote

  pub wrote-joined : ChangesAccount (accounts_after_seal_if (needs_seal k.limit (history_of k)
      (event.Join p)) xs) ys
      (place (history_of k)) (Some new_account)
  wrote-joined =
      subst (λ es. ChangesAccount es ys (place (history_of k)) (Some new_account))
      (rows-core_for_event k new xs zs (event.Join p) a ok is_of)
      (subst (λ n. ChangesAccount zs ys n (Some new_account))
      (first-core_for_event k new (event.Join p) a ok) wrote)

-- a client that isn't blocked makes a call that isn't refused
module _ (old seen : AnsweringCoreView) (same : old ≡ seen) (d : IsAnsweringCore old) (c b : ℕ)
    (at : c ≡ b) (call said : FunctionCall) (by : said ≡ call)
    (free : is_client_blocked seen b ≡ false) (new : CoreState) (a : Applied)
    (ok : IsApplied (hub_core old) (event.Call b said) new a) (zs : List (ℕ × Account))
    (is : zs ≡ accounts_after_seal_if (is_some a.sealed) old.accounts) where
  ok_of : IsApplied (hub_core old) (event.Call c call) new a
  ok_of =
      subst (λ (x : FunctionCall). IsApplied (hub_core old) (event.Call c x) new a) by
      (subst (λ n. IsApplied (hub_core old) (event.Call n said) new a) (sym at) ok)

  free_of : call_refusal old c call ≡ None
  free_of =
      let here : is_client_blocked old c ≡ false = rw (same, at) free in
      unblocked-refusal old d c call here ∙ ok_of.accepted

  idle_of : IsIdle (lookup (nat_eq c) zs)
  idle_of = subst (λ es. IsIdle (lookup (nat_eq c) es)) (sym is) (go (account_of old c) refl)
    where
      go : (o : Option Account) → account_of old c ≡ o
          → IsIdle (lookup (nat_eq c) (accounts_after_seal_if (is_some a.sealed) old.accounts))
      go None e = absurd (caller-known old d c call free_of e)
      go (Some w) e =
          idle (is_some a.sealed) old.accounts c w e (caller-idle old d c call w free_of e)

  pub caller-there : IsSome (lookup (nat_eq c) zs)
  caller-there = ap is_some idle_of.there

  module _ (ys : List (ℕ × Account)) (wrote : ChangesAccount zs ys c (account_after_call (lookup
      (nat_eq c) zs))) where
    pub desk-called : IsAnsweringCoreOf new ys
    desk-called =
        desk-call (core_for_event (hub_core old) (event.Call c call)) new zs ys
        (desk-core_for_event (hub_core old) new old.accounts zs (event.Call c call) a ok_of is
        d) c call a
        ok_of.written idle_of.account idle_of.there idle_of.free
        (subst (λ o. ChangesAccount zs ys c (account_after_call o)) idle_of.there wrote)

    pub wrote-called : ChangesAccount (accounts_for_event seen (event.Call b call)) ys b
        (account_after_call (account_for_event seen (event.Call b call) b))
    wrote-called =
        subst (λ (x : AnsweringCoreView). ChangesAccount (accounts_for_event x (event.Call b call)) ys b
        (account_after_call (account_for_event x (event.Call b call) b))) same
        (subst (λ n. ChangesAccount (accounts_for_event old (event.Call n call)) ys n
        (account_after_call (account_for_event old (event.Call n call) n))) at
        (subst (λ es. ChangesAccount es ys c (account_after_call (lookup (nat_eq c) es)))
        (rows-core_for_event (hub_core old) new old.accounts zs
        (event.Call c call) a ok_of is) wrote))

    -- the answer that may be taken next is the one to this call
    pub next-called : (core : Celled) → core_state core.core ≡ new
        → next_answer (record { core = core; accounts = ys }) b ≡ reply_if b a.first a.outcome
    next-called core e =
        let wrote_desk : AnsweringCoreView = record { core = core; accounts = ys } in
        let here : (c == c) ≡ true = grind (arith, nat_tests) in
        subst (λ n. next_answer wrote_desk n ≡ reply_if n a.first a.outcome) at
        (next-asked (core_for_event (hub_core old) (event.Call c call)) wrote_desk
        (subst (λ n. IsAnsweringCoreOf n ys) (sym e) desk-called) c call a
        (desk-core_for_event (hub_core old) new old.accounts zs
        (event.Call c call) a ok_of is d).starts
        (subst (λ n. IsEventWritten (core_for_event (hub_core old) (event.Call c call))
        (event.Call c call) n a)
        (sym e) ok_of.written)
        (record {
          awaited = awaited_in (lookup (nat_eq c) zs);
          taken = taken_in (lookup (nat_eq c) zs);
          awaits = true;
        })
        (wrote c ∙ rw here refl) refl)

-- a moment is handed in
module _ (k new : CoreState) (xs zs : List (ℕ × Account)) (z : Clock) (t : ℕ) (a : Applied)
    (ok : IsApplied k (event.Moment z t) new a)
    (is : zs ≡ accounts_after_seal_if (is_some a.sealed) xs) where
  pub desk-ticked : IsAnsweringCoreOf k xs → IsAnsweringCoreOf new zs
  desk-ticked d =
      desk-moment (core_for_event k (event.Moment z t)) new zs zs
      (desk-core_for_event k new xs zs (event.Moment z t) a ok is d) z t a ok.written refl

-- the history is sealed
pub desk-core_after_seal : (k new : CoreState) (xs ys : List (ℕ × Account)) (at : ℕ)
    → IsAnsweringCoreOf k xs
    → IsSealed k new at → ys ≡ accounts_after_seal xs → IsAnsweringCoreOf new ys
desk-core_after_seal k new xs ys at d s is =
    subst (λ (n : CoreState). IsAnsweringCoreOf n ys) (sym s.core)
    (subst (IsAnsweringCoreOf (core_after_seal k)) (sym is)
    (core_after_seal-desk k xs d (subst (λ n. n ≤ max_place) s.next s.within)))
