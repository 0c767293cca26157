-- An answering core whose history is sealed.
use Rattle.std.proofs.Common.{◌≡◌, ℕ, ◌+◌, ◌-◌, ◌≤◌, Bool, true, false, cond, not, ◌&&◌, ◌||◌}
use Rattle.std.proofs.Common.{nat_lt, nat_eq, List, Option, Some, None, is_some, refl, sym, ap, ◌∙◌}
use Rattle.std.proofs.Common.{subst, arith}
use Rattle.std.specs.Map.{lookup}
use Rattle.std.specs.Option.{option_or}
use Rattle.std.specs.Prelude.{option_map}
use Rattle.std.proofs.lemmas.Bool.Decides.{nat_tests}
use Rattle.std.proofs.lemmas.Map.Made.{lookup-map_values}
use Rattle.pt_types.specs.declared.outcome.Refusal.{Refusal}
use Rattle.pt_types.specs.declared.outcome.Refusal.TheVariants.{Full}
use Rattle.pt_types.specs.Limits.{max_place}
use Rattle.pt_model.specs.declared.entry.Event.{Event}
use Rattle.pt_model.specs.declared.waiting_call.WaitingCall.{WaitingCall}
use Rattle.pt_model.specs.Histories.{Begin, place, outer}
use Rattle.pt_model.specs.Answers.{open_place, place_of_client}
use Rattle.pt_model.specs.Queries.{latest_call}
use Rattle.pt_model.specs.Forced.{forced}
use Rattle.pt_model.specs.Room.{needs_seal, room_for, refusal, refusal_with_seals}
use Rattle.pt_model.specs.Legal.{LegalSince, events_of}
use Rattle.pt_model.specs.Seals.{seal}
use Rattle.pt_model.specs.SealLaws.{ContinuesAlike}
use Rattle.pt_model.specs.Steps.{IsStart, Follows}
use Rattle.pt_model.proofs.Agreeing.{calls-sealed, seal_agrees}
use Rattle.pt_model.proofs.ContinuesAlike.{agrees_on}
use Rattle.pt_model.proofs.Induction.{start-seal}
use Rattle.pt_model.proofs.Legality.{history_since-follows, history_since-settled}
use Rattle.pt_client_events.specs.Tallies.{open_call_count}
use Rattle.pt_legal.specs.Cores.{CoreState, history_of}
use Rattle.pt_legal.specs.Applying.{core_for_event}
use Rattle.pt_legal.specs.Sealing.{core_after_seal}
use Rattle.pt_hub.specs.declared.account.Account.{Account}
use Rattle.pt_hub.specs.AnsweringCores.{received_count, count_if_true, owed_count, account_after_seal}
use Rattle.pt_hub.specs.AnsweringCores.{accounts_after_seal, accounts_after_seal_if, IsAccount}
use Rattle.pt_hub.specs.AnsweringCores.{IsAnsweringCoreOf, IsBalanced}

-- a client's account after the accounts are renewed
pub lookup-account_after_seal : (c : ℕ) (xs : List (ℕ × Account))
    → lookup (nat_eq c) (accounts_after_seal xs)
    ≡ option_map account_after_seal (lookup (nat_eq c) xs)
lookup-account_after_seal c xs = lookup-map_values account_after_seal (nat_eq c) xs

-- an awaited answer is owed, or its call is open
open_or_owed : (w : Bool) (o : Option ℕ) → (w ≡ false → ◌≡◌ {A = ℕ} (cond (is_some o) 1 0) 0)
    → count_if_true (w && not (is_some o)) + cond (is_some o) 1 0 ≡ count_if_true w
open_or_owed true (Some k) f = refl
open_or_owed true None f = refl
open_or_owed false o f = omega (arith, f refl)

-- an owed answer is one that is not taken
untaken_rest : (told taken n : ℕ) (w : Bool) (o : Option ℕ) → told + n ≡ taken + count_if_true w
    → taken ≤ told → n ≡ cond (is_some o) 1 0 → count_if_true (w && not (is_some o)) ≡ told - taken
untaken_rest told taken n true (Some k) e le is = omega (arith, e, le, is)
untaken_rest told taken n true None e le is = omega (arith, e, le, is)
untaken_rest told taken n false o e le is = omega (arith, e, le)

-- nothing was got or taken since the seal
none_since : (x y z : ℕ) → x + y ≡ z → x + 0 + y ≡ 0 + z
none_since x y z e = omega (arith, e)

none_taken : (x : ℕ) → 0 ≤ x + 0
none_taken x = omega arith

less_taken : (x y z : ℕ) → x + y ≤ z → 0 + y ≤ z
less_taken x y z l = omega (arith, l)

module _ (k : CoreState) (c : ℕ) where
  -- the open calls are the same as before
  open_still : open_call_count (Begin (seal (history_of k))) c ≡ open_call_count (history_of k) c
  open_still =
      ap (λ (ws : List WaitingCall). cond {A = ℕ} (is_some (place_of_client ws c)) 1 0)
      (calls-sealed (history_of k))

  module _ (a : Account) (s : IsBalanced k c a) where
    -- no call is open if no answer is awaited
    none_open : a.awaits ≡ false → open_call_count (Begin (seal (history_of k))) c ≡ 0
    none_open e =
        let idle : count_if_true a.awaits ≡ 0 = rw e refl in
        omega (arith, open_still, s.whole, s.taken, idle)

    pub owed_count-rest : owed_count (seal (history_of k)) c (account_after_seal a)
        ≡ owed_count k.start c a + received_count k c - a.taken
    owed_count-rest =
        untaken_rest (owed_count k.start c a + received_count k c) a.taken (open_call_count
        (history_of k) c) a.awaits
        (open_place (Begin (seal (history_of k))) c) s.whole s.taken (sym open_still)

    renewed_served : IsBalanced (core_after_seal k) c (account_after_seal a)
    renewed_served =
        let all = open_or_owed a.awaits (open_place (Begin (seal (history_of k))) c) none_open in
        record {
          alive = s.alive;
          whole = none_since (owed_count (seal (history_of k)) c (account_after_seal a))
              (open_call_count (Begin (seal (history_of k))) c) (count_if_true a.awaits) all;
          taken = none_taken (owed_count (seal (history_of k)) c (account_after_seal a));
          has_call = λ e. ap (λ b. is_some (cond b (latest_call (history_of k) c) None)) s.alive
              ∙ s.has_call e;
          within = less_taken a.taken (count_if_true a.awaits) (place (history_of k)) s.within;
        }

  pub account_after_seal-account : (o : Option Account) → IsAccount k c o
      → IsAccount (core_after_seal k) c (option_map account_after_seal o)
  account_after_seal-account None dead = dead
  account_after_seal-account (Some a) s = renewed_served a s

module _ (k : CoreState) (xs : List (ℕ × Account)) (d : IsAnsweringCoreOf k xs) where
  follows : Follows (history_of k)
  follows = history_since-follows k.start k.entries (events_of k.entries) d.starts d.legal

  settled : forced (history_of k) ≡ None
  settled = history_since-settled k.start k.entries (events_of k.entries) d.starts d.legal

  alike : ContinuesAlike (history_of k) (Begin (seal (history_of k)))
  alike = agrees_on (history_of k) (Begin (seal (history_of k))) follows (start-seal
      (history_of k) follows)
      (seal_agrees (history_of k) follows)

  -- with its history sealed, it is still an answering core
  pub core_after_seal-desk : place (history_of k) ≤ max_place
      → IsAnsweringCoreOf (core_after_seal k) (accounts_after_seal xs)
  core_after_seal-desk le =
      record {
        starts = start-seal (history_of k) follows;
        legal = (sym alike.forces ∙ settled, refl);
        accounts = λ c. subst (IsAccount (core_after_seal k) c) (sym
            (lookup-account_after_seal c xs))
            (account_after_seal-account k c (lookup (nat_eq c) xs) (d.accounts c));
        limit = d.limit;
        places = le;
        within = d.within;
        outer_within = d.outer_within;
      }

-- if an event is accepted after a seal, the next place is within its limit
numbered : (o : Option Refusal) (over : Bool) (at most : ℕ)
    → option_or o (cond (over || (true && nat_lt most at)) (Some Full) None) ≡ None → at ≤ most
numbered o over at most e = go o over (nat_lt most at) refl e
  where
    go : (o : Option Refusal) (a b : Bool) → nat_lt most at ≡ b
        → option_or o (cond (a || (true && b)) (Some Full) None) ≡ None → at ≤ most
    go (Some r) a b t e = absurd cc
    go None true b t e = absurd cc
    go None false true t e = absurd cc
    go None false false t e = grind (arith, nat_tests)

module _ (k : CoreState) (v : Event) where
  -- places and outer entries are counted on
  pub place-core_for_event : place (history_of (core_for_event k v)) ≡ place (history_of k)
  place-core_for_event = go (needs_seal k.limit (history_of k) v)
    where
      go : (b : Bool) → place (history_of (cond b (core_after_seal k) k)) ≡ place (history_of k)
      go true = refl
      go false = refl

  pub outer-core_for_event : outer (history_of (core_for_event k v)) ≡ outer (history_of k)
  outer-core_for_event = go (needs_seal k.limit (history_of k) v)
    where
      go : (b : Bool) → outer (history_of (cond b (core_after_seal k) k)) ≡ outer (history_of k)
      go true = refl
      go false = refl

  pub starts-core_for_event : IsStart k.start → LegalSince k.start k.entries (events_of k.entries)
      → IsStart (core_for_event k v).start
  starts-core_for_event b legal = go (needs_seal k.limit (history_of k) v)
    where
      go : (t : Bool) → IsStart (cond t (core_after_seal k) k).start
      go true =
          start-seal (history_of k) (history_since-follows k.start k.entries
          (events_of k.entries) b legal)
      go false = b

  places_left : needs_seal k.limit (history_of k) v ≡ true
      → refusal_with_seals k.limit (history_of k) v ≡ None → place (history_of k) ≤ max_place
  places_left needs ok =
      numbered (refusal (history_of k) v) (nat_lt k.limit (room_for (history_of k) v)) (place
      (history_of k))
      max_place
      (subst (λ b. option_or (refusal (history_of k) v)
      (cond (nat_lt k.limit (room_for (history_of k) v) || (b
      && nat_lt max_place (place (history_of k))))
      (Some Full) None) ≡ None) needs ok)

  -- an answering core that is opened for an accepted event is still an answering core
  pub core_for_event-desk : (xs : List (ℕ × Account)) → IsAnsweringCoreOf k xs
      → refusal_with_seals k.limit (history_of k) v ≡ None
      → IsAnsweringCoreOf (core_for_event k v) (accounts_after_seal_if (needs_seal k.limit
      (history_of k) v) xs)
  core_for_event-desk xs d ok = go (needs_seal k.limit (history_of k) v) refl
    where
      go : (b : Bool) → needs_seal k.limit (history_of k) v ≡ b
          → IsAnsweringCoreOf (cond b (core_after_seal k) k) (accounts_after_seal_if b xs)
      go true needs = core_after_seal-desk k xs d (places_left needs ok)
      go false needs = d
