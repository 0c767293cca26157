-- WaitingReads: the open call in a client's row says where the call waits, and its turn there.
use Rattle.std.proofs.Common.{◌≡◌, ℕ, cond, ◌==◌, List, [], ◌∷◌, Option, Some, None, option_map}
use Rattle.std.proofs.Common.{refl, sym, ap, ◌∙◌}
use Rattle.std.specs.Option.{option_and_then}
use Rattle.pt_model.specs.Histories.{History}
use Rattle.pt_model.specs.declared.waiting_call.Move.{Move}
use Rattle.pt_model.specs.declared.waiting_call.WaitingCall.{WaitingCall}
use Rattle.pt_model.specs.Answers.{open_calls}
use Rattle.pt_model.specs.Moves.{call_key_by, wait_move, wait_object_by}
use Rattle.pt_records.specs.declared.clients.Caller.{Caller}
use Rattle.pt_records.specs.declared.clients.Open.{Open}
use Rattle.pt_records.specs.Callers.{call_in, call_of, move_in, open_in, CallersLook}
use Rattle.pt_readable.specs.declared.waiting.Waiting.{Waiting}
use Rattle.pt_readable.specs.Reading.{call_by, turn_of, waiting_of}

-- a call's turn, if this is its move
abbrev pub turn_by : Option Move → WaitingCall → Waiting
turn_by move w =
    record { object = wait_object_by w.role move w.object; key = call_key_by (λ j. move) w }

call_same : (ws : List WaitingCall) (c : ℕ) → call_of ws c ≡ call_by ws c
call_same [] c = refl
call_same (w ∷ ws) c = ap (λ r. cond (w.client == c) (Some w) r) (call_same ws c)

-- a client's open call, as its row has it, is read off the history
pub waiting_kept : (h : History) (look : ℕ → Option Caller) → CallersLook h look → (c : ℕ)
    → option_map (λ (o : Open). turn_by o.moved o.call) (open_in (look c)) ≡ waiting_of h c
waiting_kept h look valid_store c = go (open_in (look c)) refl
  where
    go : (o : Option Open) → open_in (look c) ≡ o
        → option_map (λ (o : Open). turn_by o.moved o.call) o ≡ waiting_of h c
    go None is =
        let none : call_in (look c) ≡ None = ap (option_map (λ (o : Open). o.call)) is in
        ap (option_map (turn_of h)) (sym none ∙ valid_store.calls c ∙ call_same (open_calls h) c)
    go (Some o) is =
        let its : call_in (look c) ≡ Some o.call = ap (option_map (λ (o : Open). o.call)) is in
        let found : call_of (open_calls h) c ≡ Some o.call = sym (valid_store.calls c) ∙ its in
        let move : o.moved ≡ wait_move h o.call.place =
        sym (ap (option_and_then (λ (o : Open). o.moved)) is) ∙ valid_store.moves c o.call found in
        ap (λ m. Some (turn_by m o.call)) move
        ∙ ap (option_map (turn_of h)) (sym found ∙ call_same (open_calls h) c)
