-- AnsweringCores: a history with the accounts of its living clients.
use Rattle.std.specs.Prelude.{ℕ, ◌≡◌, ◌+◌, ◌-◌, ◌≤◌, ◌==◌, ◌⊎◌, Bool, true, false, not, ◌&&◌, ◌||◌}
use Rattle.std.specs.Prelude.{nat_lt, nat_eq, List, map, Option, Some, None, is_some, MatchOption}
use Rattle.std.specs.Prelude.{if◌then◌else◌, IfSome}
use Rattle.std.specs.Map.{lookup}
use Rattle.pt_types.specs.declared.call.Call.{Call as FunctionCall}
use Rattle.pt_types.specs.declared.outcome.Refusal.{Refusal}
use Rattle.pt_types.specs.declared.outcome.Refusal.TheVariants.{Blocked, Enomem}
use Rattle.pt_types.specs.Limits.{max_entries, max_place}
use Rattle.pt_model.specs.declared.entry.Event.{Event}
use Rattle.pt_model.specs.declared.entry.Event.TheVariants as event
use Rattle.pt_model.specs.Records.{ReplyView}
use Rattle.pt_model.specs.Starts.{Start}
use Rattle.pt_model.specs.Histories.{Begin, place, outer}
use Rattle.pt_model.specs.Clients.{is_alive}
use Rattle.pt_model.specs.Answers.{open_place}
use Rattle.pt_model.specs.Queries.{latest_call, answer_of}
use Rattle.pt_model.specs.Room.{needs_seal, refusal_with_seals}
use Rattle.pt_model.specs.Legal.{LegalSince, events_of}
use Rattle.pt_model.specs.Steps.{IsStart}
use Rattle.pt_client_events.specs.Tallies.{reply_count, open_call_count}
use Rattle.pt_legal.specs.Cores.{CoreState, history_of, core_state}
use Rattle.pt_legal.specs.Applying.{place_of_seal}
use Rattle.pt_legal.specs.Sealing.{core_after_seal}
use Rattle.pt_cells.specs.Cells.{SeenView, Celled, Extends, cells_after, seen_at as seen_in}
use Rattle.pt_hub.specs.declared.account.Account.{Account}

-- what is seen of the core with the cells of its entries, and the account of each living client
pub record AnsweringCoreView : Type 0 where
  pub core : Celled
  pub accounts : List (ℕ × Account)

-- what the history begins with, the entries since, and their limit
abbrev pub hub_core : AnsweringCoreView → CoreState
hub_core d = core_state d.core.core

-- what is seen of the entry at a place, with its cell; nothing if the history has no entry there or
-- the entry has no cell
abbrev pub seen_at : AnsweringCoreView → ℕ → Option SeenView
seen_at d j = seen_in d.core j

-- what was seen of the entry at a place, if anything, is that entry with its cell
abbrev pub IsStoredAt : AnsweringCoreView → ℕ → Option SeenView → Type 0
IsStoredAt d j o = IfSome o (λ s. seen_at d j ≡ Some s)

-- what was seen has the entry that the history has at its place, if it is of the cell there
abbrev pub Meets : AnsweringCoreView → SeenView → Type 0
Meets d s =
    IfSome (seen_at d s.place) (λ t. t.cell.name ≡ s.cell.name → t.cell.entry ≡ s.cell.entry)

-- the entries that stay keep their cells, and each new one has a slot for its own; no entry stays
-- if the event needs a seal
abbrev pub GrowsCells : AnsweringCoreView → Event → AnsweringCoreView → Type 0
GrowsCells old v new =
    Extends (cells_after (place_of_seal (hub_core old) v) old.core.cells) new.core.cells

-- the account of a client
abbrev pub account_of : AnsweringCoreView → ℕ → Option Account
account_of d c = lookup (nat_eq c) d.accounts

-- how many answers a client got since the history was sealed
abbrev pub received_count : CoreState → ℕ → ℕ
received_count k c = reply_count k.start k.entries c

-- 1 if this is true, else 0
abbrev pub count_if_true : Bool → ℕ
count_if_true b = if b then 1 else 0

-- the number of answers that a client was owed when the history was sealed: 1 if it awaited an
-- answer and its call wasn't open then, so that the Start has the answer, else 0
abbrev pub owed_count : Start → ℕ → Account → ℕ
owed_count s c a = count_if_true (a.awaited && not (is_some (open_place (Begin s) c)))

-- the number of answers that a client was owed when the history was sealed, 0 if it has no account
abbrev pub owed_count_in : Start → ℕ → Option Account → ℕ
owed_count_in s c None = 0
owed_count_in s c (Some a) = owed_count s c a

-- whether a client awaited an answer when the history was sealed, false if it has no account
abbrev pub awaited_in : Option Account → Bool
awaited_in None = false
awaited_in (Some a) = a.awaited

-- how many answers a client has taken since the history was sealed, 0 if it has no account
abbrev pub taken_in : Option Account → ℕ
taken_in None = 0
taken_in (Some a) = a.taken

-- the account after a call is made, whose answer it awaits
abbrev pub account_after_call : Option Account → Option Account
account_after_call o = Some (record { awaited = awaited_in o; taken = taken_in o; awaits = true })

-- the account after one more answer is taken
abbrev pub account_after_take : Option Account → Option Account
account_after_take o =
    Some (record { awaited = awaited_in o; taken = taken_in o + 1; awaits = false })

-- the account of a client that joins
abbrev pub new_account : Account
new_account = record { awaited = false; taken = 0; awaits = false }

-- an account after the history is sealed: it awaited an answer then exactly if it awaits one now,
-- and it has taken none since
abbrev pub account_after_seal : Account → Account
account_after_seal a = record { awaited = a.awaits; taken = 0; awaits = a.awaits }

-- all accounts after the history is sealed
abbrev pub accounts_after_seal : List (ℕ × Account) → List (ℕ × Account)
accounts_after_seal xs = map (λ e. (e.0, account_after_seal e.1)) xs

-- the accounts, renewed if the history is sealed
abbrev pub accounts_after_seal_if : Bool → List (ℕ × Account) → List (ℕ × Account)
accounts_after_seal_if b xs = if b then accounts_after_seal xs else xs

-- the accounts to which that of an accepted event is added: renewed, if the event needs a seal
abbrev pub accounts_for_event : AnsweringCoreView → Event → List (ℕ × Account)
accounts_for_event d event =
    accounts_after_seal_if (needs_seal (hub_core d).limit (history_of
    (hub_core d)) event) d.accounts

-- the account of a client among these
abbrev pub account_for_event : AnsweringCoreView → Event → ℕ → Option Account
account_for_event d event c = lookup (nat_eq c) (accounts_for_event d event)

-- whether a client with this account has an answer that it hasn't taken
abbrev pub has_untaken_answer_in : CoreState → ℕ → Option Account → Bool
has_untaken_answer_in k c None = false
has_untaken_answer_in k c (Some a) = nat_lt a.taken (owed_count k.start c a + received_count k c)

-- whether a client has an answer that it hasn't taken
abbrev pub has_untaken_answer : AnsweringCoreView → ℕ → Bool
has_untaken_answer d c = has_untaken_answer_in (hub_core d) c (account_of d c)

-- whether a client's last call is open or its answer isn't taken
abbrev pub is_client_blocked : AnsweringCoreView → ℕ → Bool
is_client_blocked d c = is_some (open_place (history_of (hub_core d)) c) || has_untaken_answer d c

-- the answer that a client hasn't taken
abbrev pub next_answer : AnsweringCoreView → ℕ → Option ReplyView
next_answer d c = if has_untaken_answer d c then answer_of (history_of (hub_core d)) c else None

-- a client has taken all answers that it was owed at the seal and has got since, or all but one
abbrev pub IsTakenButOne : AnsweringCoreView → ℕ → Type 0
IsTakenButOne d c =
    (owed_count_in (hub_core d).start c (account_of d c) + received_count (hub_core d) c
    ≡ taken_in (account_of d c))
    ⊎ (owed_count_in (hub_core d).start c (account_of d c) + received_count (hub_core d) c
    ≡ taken_in (account_of d c) + 1)

-- if the history is sealed, a client is owed what it has not taken
abbrev pub IsOwedTheRest : AnsweringCoreView → ℕ → Type 0
IsOwedTheRest d c =
    owed_count_in (core_after_seal (hub_core d)).start c (lookup (nat_eq c)
    (accounts_after_seal d.accounts))
    ≡ owed_count_in (hub_core d).start c (account_of d c) + received_count (hub_core d) c - taken_in
    (account_of d c)

-- the account is that of a living client, which has taken all its answers but one at most
pub record IsBalanced (k : CoreState) (c : ℕ) (a : Account) : Type 0 where
  pub alive : is_alive (history_of k) c ≡ true
  pub whole : owed_count k.start c a + received_count k c + open_call_count (history_of k) c
      ≡ a.taken + count_if_true a.awaits
  pub taken : a.taken ≤ owed_count k.start c a + received_count k c
  pub has_call : a.awaits ≡ true → is_some (latest_call (history_of k) c) ≡ true
  pub within : a.taken + count_if_true a.awaits ≤ place (history_of k)

-- a client has an account exactly while it lives
abbrev pub IsAccount : CoreState → ℕ → Option Account → Type 0
IsAccount k c None = is_alive (history_of k) c ≡ false
IsAccount k c (Some a) = IsBalanced k c a

-- this is a legal history within its limits, with the accounts of its living clients
pub record IsAnsweringCoreOf (k : CoreState) (rows : List (ℕ × Account)) : Type 0 where
  pub starts : IsStart k.start
  pub legal : LegalSince k.start k.entries (events_of k.entries)
  pub accounts : (c : ℕ) → IsAccount k c (lookup (nat_eq c) rows)
  pub limit : k.limit ≤ max_entries
  pub places : k.start.at ≤ max_place
  pub within : place (history_of k) ≤ max_place + max_entries
  pub outer_within : outer (history_of k) ≤ place (history_of k)

-- what always holds of an answering core
abbrev pub IsAnsweringCore : AnsweringCoreView → Type 0
IsAnsweringCore d = IsAnsweringCoreOf (hub_core d) d.accounts

-- the call of an event, or none if the event is not a call
abbrev pub call_of_event : Event → Option FunctionCall
call_of_event (event.Call c call) = Some call
call_of_event _ = None

-- the reason why a call is refused, other than lack of memory  [profile]
abbrev pub call_refusal : AnsweringCoreView → ℕ → FunctionCall → Option Refusal
call_refusal d c call =
    if is_client_blocked d c then Some Blocked
    else refusal_with_seals (hub_core d).limit (history_of (hub_core d)) (event.Call c call)

-- the refusal is the one that applies, or ENOMEM if none does  [profile]
abbrev pub IsRefusedAs : Option Refusal → Refusal → Type 0
IsRefusedAs reason r = MatchOption reason (r ≡ Enomem) (λ x. r ≡ x)

-- a client's account is now this one, or it has none, and the others are unchanged
abbrev pub ChangesAccount : List (ℕ × Account) → List (ℕ × Account) → ℕ → Option Account → Type 0
ChangesAccount old new c o = (d : ℕ) → lookup (nat_eq d) new
    ≡ if c == d then o else lookup (nat_eq d) old
