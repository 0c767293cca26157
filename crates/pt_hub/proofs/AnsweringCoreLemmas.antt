-- An answering core remains an answering core after each event.
use Rattle.std.proofs.Common.{◌≡◌, ℕ, ◌==◌, Bool, true, false, cond, List, [], Option, Some, None}
use Rattle.std.proofs.Common.{◌≤◌, is_some, refl, sym, ap, ◌∙◌, subst, arith}
use Rattle.std.specs.Map.{lookup}
use Rattle.std.specs.Prelude.{nat_eq, IsSome}
use Rattle.std.proofs.lemmas.Bool.Decides.{nat_tests}
use Rattle.pt_types.specs.declared.call.Call.{Call as FunctionCall}
use Rattle.pt_types.specs.declared.time.Clock.{Clock}
use Rattle.pt_types.specs.Limits.{max_entries}
use Rattle.pt_model.specs.declared.entry.Event.{Event}
use Rattle.pt_model.specs.declared.entry.Event.TheVariants as event
use Rattle.pt_model.specs.Starts.{Start}
use Rattle.pt_model.specs.Histories.{place, outer}
use Rattle.pt_model.specs.Clients.{client_priority, is_alive}
use Rattle.pt_model.specs.Queries.{latest_call}
use Rattle.pt_model.specs.Legal.{LegalSince, events_of}
use Rattle.pt_model.specs.Steps.{IsStart, begins}
use Rattle.pt_model.proofs.Histories.{place-history_since}
use Rattle.pt_legal.specs.declared.applied.Applied.{Applied}
use Rattle.pt_legal.specs.Cores.{IsEmpty, CoreState, history_of, core_state}
use Rattle.pt_legal.specs.Applying.{IsEventWritten}
use Rattle.pt_cells.specs.Cells.{Celled}
use Rattle.pt_hub.specs.declared.account.Account.{Account}
use Rattle.pt_hub.specs.AnsweringCores.{AnsweringCoreView, hub_core, account_of, account_after_call, account_after_take}
use Rattle.pt_hub.specs.AnsweringCores.{new_account, next_answer}
use Rattle.pt_hub.specs.AnsweringCores.{IsAccount, IsAnsweringCore, IsAnsweringCoreOf, ChangesAccount}
use Rattle.pt_hub.proofs.AppliedLemmas.{starts-applied, legal-applied, outer-applied, place-applied}
use Rattle.pt_hub.proofs.AppliedLemmas.{within-applied}
use Rattle.pt_hub.proofs.AccountLemmas.{other-account, joined-account, called-account, died-account}
use Rattle.pt_hub.proofs.ReadingLemmas.{taken-account, taker-known}

-- the accounts after one was written
written : (new : CoreState) (xs ys : List (ℕ × Account)) (c : ℕ) (o : Option Account)
    → ChangesAccount xs ys c o → IsAccount new c o
    → ((b : ℕ) → (c == b) ≡ false → IsAccount new b (lookup (nat_eq b) xs))
    → (b : ℕ) → IsAccount new b (lookup (nat_eq b) ys)
written new xs ys c o w mine others b = subst (IsAccount new b) (sym (w b)) (go (c == b) refl)
  where
    go : (t : Bool) → (c == b) ≡ t → IsAccount new b (cond t o (lookup (nat_eq b) xs))
    go true e =
        let same : c ≡ b = grind (arith, nat_tests) in
        subst (λ n. IsAccount new n o) same mine
    go false e = others b e

module _ (old new : CoreState) (xs ys : List (ℕ × Account)) (d : IsAnsweringCoreOf old xs) where
  module _ (v : Event) (a : Applied) (ok : IsEventWritten old v new a) where
    inner : ((b : ℕ) → IsAccount new b (lookup (nat_eq b) ys)) → IsAnsweringCoreOf new ys
    inner accounts =
        record {
          starts = starts-applied old new v d.starts ok.writes;
          legal = legal-applied old new v d.starts ok.writes;
          accounts = accounts;
          limit = subst (λ (n : ℕ). n ≤ max_entries) (sym ok.writes.same_limit) d.limit;
          places = omega (arith, ap (λ (s : Start). s.at) ok.writes.starts, d.places);
          within = omega (
            arith,
            within-applied old new v d.starts ok.writes a ok,
            place-history_since new.start new.entries,
            ap (λ (s : Start). s.at) ok.writes.starts,
            d.places,
            d.limit,
          );
          outer_within = omega (
            arith,
            outer-applied old new v d.starts ok.writes,
            place-applied old new v d.starts ok.writes,
            d.outer_within,
          );
        }

  pub desk-join : (p : ℕ) (a : Applied) → IsEventWritten old (event.Join p) new a
      → (c : ℕ) → c ≡ place (history_of old) → ChangesAccount xs ys c (Some new_account)
      → IsAnsweringCoreOf new ys
  desk-join p a ok c is w =
      inner (event.Join p) a ok
      (written new xs ys c (Some new_account) w
      (joined-account old new p d.starts ok.writes c is)
      (λ b e. other-account old new (event.Join p) d.starts ok.writes b
      (lookup (nat_eq b) xs) refl (newcomer b e) (λ t. t) (d.accounts b)))
    where
      newcomer : (b : ℕ) → (c == b) ≡ false
          → is_some (cond (place (history_of old) == b) (Some p) (client_priority
          (history_of old) b))
          ≡ is_alive (history_of old) b
      newcomer b e =
          let apart : (place (history_of old) == b) ≡ false = sym (ap (λ n. n == b) is) ∙ e in
          rw apart refl

  pub desk-call : (c : ℕ) (call : FunctionCall) (a : Applied)
      → IsEventWritten old (event.Call c call) new a → (w : Account)
      → lookup (nat_eq c) xs ≡ Some w → w.awaits ≡ false
      → ChangesAccount xs ys c (account_after_call (Some w)) → IsAnsweringCoreOf new ys
  desk-call c call a ok w there free wrote =
      inner (event.Call c call) a ok
      (written new xs ys c (account_after_call (Some w)) wrote
      (called-account old new c call d.starts ok.writes w free
      (subst (IsAccount old c) there (d.accounts c)))
      (λ b e. other-account old new (event.Call c call) d.starts ok.writes b
      (lookup (nat_eq b) xs) (rw e refl) refl (later b e) (d.accounts b)))
    where
      later : (b : ℕ) → (c == b) ≡ false → is_some (latest_call (history_of old) b) ≡ true
          → is_some (cond (c == b) (Some (place (history_of old))) (latest_call (history_of old) b))
          ≡ true
      later b e t = rw e t

  pub desk-death : (c : ℕ) (a : Applied) → IsEventWritten old (event.Death c) new a
      → ChangesAccount xs ys c None → IsAnsweringCoreOf new ys
  desk-death c a ok w =
      inner (event.Death c) a ok
      (written new xs ys c None w (died-account old new c d.starts ok.writes)
      (λ b e. other-account old new (event.Death c) d.starts ok.writes b
      (lookup (nat_eq b) xs) refl (rw e refl) (λ t. t) (d.accounts b)))

  pub desk-moment : (k : Clock) (t : ℕ) (a : Applied)
      → IsEventWritten old (event.Moment k t) new a → ys ≡ xs → IsAnsweringCoreOf new ys
  desk-moment k t a ok same =
      inner (event.Moment k t) a ok
      (λ b. subst (IsAccount new b) (sym (ap (lookup (nat_eq b)) same))
      (other-account old new (event.Moment k t) d.starts ok.writes b
      (lookup (nat_eq b) xs) refl refl (λ l. l) (d.accounts b)))

-- only the accounts were written
pub desk-take : (old new : CoreState) (xs ys : List (ℕ × Account)) → IsAnsweringCoreOf old xs
    → (c : ℕ)
    (w : Account) → new ≡ old → IsAccount old c (Some w) → ChangesAccount xs ys c (Some w)
    → IsAnsweringCoreOf new ys
desk-take old new xs ys d c w same mine wrote =
    let there : IsAnsweringCoreOf old ys =
    record {
      starts = d.starts;
      legal = d.legal;
      accounts = written old xs ys c (Some w) wrote mine (λ b e. d.accounts b);
      limit = d.limit;
      places = d.places;
      within = d.within;
      outer_within = d.outer_within;
    } in
    subst (λ (k : CoreState). IsAnsweringCoreOf k ys) (sym same) there

-- the same if a number was read twice
module _ (old : AnsweringCoreView) (new : CoreState) (ys : List (ℕ × Account)) (d : IsAnsweringCore old)
    (c b : ℕ) (at : c ≡ b) where
  pub desk-died : (a : Applied) → IsEventWritten (hub_core old) (event.Death b) new a
      → ChangesAccount old.accounts ys c None → IsAnsweringCoreOf new ys
  desk-died a ok w =
      desk-death (hub_core old) new old.accounts ys d c a
      (subst (λ n. IsEventWritten (hub_core old) (event.Death n) new a) (sym at) ok) w

  pub desk-took : (seen : AnsweringCoreView) → old ≡ seen → IsSome (next_answer seen b) → new
      ≡ hub_core old
      → ChangesAccount old.accounts ys c (account_after_take (account_of old c))
      → IsAnsweringCoreOf new ys
  desk-took seen is s same wrote = go (account_of old c) refl
    where
      untaken : IsSome (next_answer old c)
      untaken = rw (is, at) s

      go : (o : Option Account) → account_of old c ≡ o → IsAnsweringCoreOf new ys
      go None e = absurd (taker-known old d c untaken e)
      go (Some w) e =
          desk-take (hub_core old) new old.accounts ys d c _ same
          (taken-account old d c w e untaken)
          (subst (λ o. ChangesAccount old.accounts ys c (account_after_take o)) e wrote)

-- before the first client
pub desk-new : (k : CoreState) (xs : List (ℕ × Account))
    → IsEmpty k → xs ≡ [] → IsAnsweringCoreOf k xs
desk-new k xs none a =
    let e = none.nothing_yet in
    record {
      starts = subst (λ (s : CoreState). IsStart s.start) (sym e) begins;
      legal = subst (λ (s : CoreState). LegalSince s.start s.entries (events_of s.entries)) (sym e)
          (refl, refl);
      accounts = λ c. subst (λ (o : Option Account). IsAccount k c o)
          (sym (ap (lookup (nat_eq c)) a))
          (ap (λ (s : CoreState). is_alive (history_of s) c) e);
      limit = none.limit;
      places = omega (arith, ap (λ (s : CoreState). s.start.at) e);
      within = omega (arith, ap (λ (s : CoreState). place (history_of s)) e);
      outer_within = omega (
        arith,
        ap (λ (s : CoreState). outer (history_of s)) e,
        ap (λ (s : CoreState). place (history_of s)) e,
      );
    }

-- an answering core that has not changed
module _ (d : AnsweringCoreView) (core : Celled) (rows : List (ℕ × Account)) (same : core ≡ d.core)
    (alike : rows ≡ d.accounts) where
  pub desk-hub_core : IsAnsweringCore d → IsAnsweringCoreOf (core_state core.core) rows
  desk-hub_core k =
      subst (λ (s : Celled). IsAnsweringCoreOf (core_state s.core) rows) (sym same)
      (subst (λ (xs : List (ℕ × Account)). IsAnsweringCoreOf (hub_core d) xs) (sym alike) k)

  pub desk-alike : (e : AnsweringCoreView) → d ≡ e
      → ◌≡◌ {A = AnsweringCoreView} (record { core = core; accounts = rows }) e
  desk-alike e is =
      ap (λ (s : Celled). record { core = s; accounts = rows }) same
      ∙ (ap (λ (xs : List (ℕ × Account)). record { core = d.core; accounts = xs }) alike ∙ is)
