-- What the rows say about open calls is what the definitions say.
use Rattle.std.proofs.Common.{◌≡◌, ℕ, Bool, true, false, ◌&&◌, ◌==◌, cond, not, List, [], ◌∷◌}
use Rattle.std.proofs.Common.{Option, Some, None, is_some, refl, sym, ap, ◌∙◌}
use Rattle.std.specs.Prelude.{option_map}
use Rattle.std.specs.Option.{option_and_then}
use Rattle.std.specs.List.{list_any}
use Rattle.pt_table.specs.declared.clients.ClientRow.{ClientRow}
use Rattle.pt_table.specs.ClientRows.{client_value}
use Rattle.pt_types.specs.MutexTable.{is_some_number}
use Rattle.pt_types.specs.declared.outcome.Refusal.TheVariants.{Blocked}
use Rattle.pt_model.specs.Searches.{In}
use Rattle.pt_model.specs.Histories.{History}
use Rattle.pt_model.specs.Clients.{client_priority}
use Rattle.pt_model.specs.Room.{unless_alive, refusal_of_unknown}
use Rattle.pt_model.specs.declared.waiting_call.WaitingCall.{WaitingCall}
use Rattle.pt_model.specs.declared.waiting_call.Move.{Move}
use Rattle.pt_model.specs.Answers.{open_calls, open_place, place_of_client}
use Rattle.pt_model.specs.Moves.{wait_move}
use Rattle.pt_model.specs.Verdicts.{returns_to_mutex, mutex_of_wait}
use Rattle.pt_model.specs.Steps.{Follows}
use Rattle.pt_records.specs.declared.clients.Caller.{Caller}
use Rattle.pt_records.specs.declared.clients.Open.{Open}
use Rattle.pt_records.specs.Callers.{AreCallers, call_of, open_in, opens_of}
use Rattle.pt_records.specs.OpenRows.{returns_to}
use Rattle.pt_records.proofs.OpenRows.{any-opens, call_of-in}

-- what is stored of a wait says, as the history does, whether it will return to a mutex
returns_kept : (h : History) (m : ℕ) (o : Open) → o.moved
    ≡ wait_move h o.call.place → returns_to m o ≡ returns_to_mutex h m o.call
returns_kept h m o e =
    ap (λ (v : Option Move). is_some_number (mutex_of_wait o.call.role) m && not (is_some v)) e

-- a wait will return to a mutex by the rows exactly if it will by the history
pub returning : (h : History) (rows : List (ClientRow Caller)) → Follows h → AreCallers h rows
    → (m : ℕ) → list_any (returns_to m) (opens_of rows)
    ≡ list_any (returns_to_mutex h m) (open_calls h)
returning h rows f a m =
    any-opens h rows f a (returns_to_mutex h m) (returns_to m) (λ o i e. returns_kept h m o e)

-- the place of the first of a client's calls is read off that call
place_of_client-call : (ws : List WaitingCall) (c : ℕ)
    → option_map (λ (w : WaitingCall). w.place) (call_of ws c) ≡ place_of_client ws c
place_of_client-call [] c = refl
place_of_client-call (w ∷ ws) c = go (w.client == c) (place_of_client-call ws c)
  where
    go : (b : Bool) → option_map (λ (v : WaitingCall). v.place) (call_of ws c)
        ≡ place_of_client ws c
        → option_map (λ (v : WaitingCall). v.place) (cond b (Some w) (call_of ws c))
        ≡ cond b (Some w.place) (place_of_client ws c)
    go true ih = refl
    go false ih = ih

-- the place of a client's open call in its row is that in the history
pub open_place-kept : (h : History) (rows : List (ClientRow Caller)) → AreCallers h rows → (c : ℕ)
    → option_map (λ (o : Open). o.call.place) (open_in (client_value rows c)) ≡ open_place h c
open_place-kept h rows a c =
    go (open_in (client_value rows c))
    ∙ ap (option_map (λ (w : WaitingCall). w.place)) (a.look.calls c)
    ∙ place_of_client-call (open_calls h) c
  where
    go : (o : Option Open) → option_map (λ (v : Open). v.call.place) o
        ≡ option_map (λ (w : WaitingCall). w.place) (option_map (λ (v : Open). v.call) o)
    go None = refl
    go (Some o) = refl

-- why a call of a client that has a row is refused
pub refused-by : (h : History) (rows : List (ClientRow Caller)) → AreCallers h rows → (c : ℕ)
    (v : Caller) → client_value rows c ≡ Some v
    → cond (is_some v.open) (Some Blocked) None
    ≡ unless_alive h c (cond (is_some (open_place h c)) (Some Blocked) None)
refused-by h rows a c v e =
    let alive : Some v.priority ≡ client_priority h c =
    ap (option_map (λ (x : Caller). x.priority)) (sym e) ∙ a.look.living c in
    let place : option_map (λ (o : Open). o.call.place) v.open ≡ open_place h c =
    ap (λ k. option_map (λ (o : Open). o.call.place) (open_in k)) (sym e)
    ∙ open_place-kept h rows a c in
    ap (λ b. cond b (Some Blocked) None) (mapped v.open)
    ∙ (ap (λ k. cond (is_some k) (Some Blocked) None) place
    ∙ ap (λ k. cond (is_some k) (cond (is_some (open_place h c)) (Some Blocked) None)
    (Some (refusal_of_unknown h c))) alive)
  where
    mapped : (o : Option Open) → is_some o ≡ is_some (option_map (λ (v : Open). v.call.place) o)
    mapped None = refl
    mapped (Some o) = refl

-- the open call in a client's row is open, is the client's, and is stored with its move
pub open_of-kept : (h : History) (rows : List (ClientRow Caller)) → AreCallers h rows → (c : ℕ)
    (o : Open) → open_in (client_value rows c) ≡ Some o
    → In o.call (open_calls h) × (o.call.client ≡ c)
    × (o.moved ≡ wait_move h o.call.place)
open_of-kept h rows a c o e =
    let call : call_of (open_calls h) c ≡ Some o.call =
    sym (a.look.calls c) ∙ ap (option_map (λ (v : Open). v.call)) e in
    let there = call_of-in (open_calls h) c o.call call in
    let move = ap (λ k. option_and_then (λ (v : Open). v.moved) k) (sym e) in
    (there.0, there.1, move ∙ a.look.moves c o.call call)
