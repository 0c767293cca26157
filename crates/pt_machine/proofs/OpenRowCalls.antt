-- OpenRowCalls: the open call in a client's row, as it is found by its client.
use Rattle.std.proofs.Common.{◌≡◌, ℕ, List, Option, Some, None, option_map, refl, sym, ap, ◌∙◌}
use Rattle.pt_table.specs.declared.clients.ClientRow.{ClientRow}
use Rattle.pt_table.specs.ClientRows.{client_value}
use Rattle.pt_model.specs.Searches.{In}
use Rattle.pt_model.specs.Histories.{History}
use Rattle.pt_model.specs.declared.waiting_call.WaitingCall.{WaitingCall}
use Rattle.pt_model.specs.WaitingCall.{call_at_place, waiting_calls}
use Rattle.pt_model.specs.Answers.{open_calls}
use Rattle.pt_model.specs.Moves.{wait_object}
use Rattle.pt_model.specs.Steps.{Follows}
use Rattle.pt_model.proofs.Found.{found_open}
use Rattle.pt_next_grant.specs.Touched.{goal, goal_if, object_if, open_call_of}
use Rattle.pt_next_grant.proofs.ClientCalls.{open_call-found, open_call-is}
use Rattle.pt_records.specs.declared.clients.Caller.{Caller}
use Rattle.pt_records.specs.declared.clients.Open.{Open}
use Rattle.pt_records.specs.Callers.{AreCallers, call_of, open_in, opens_of}
use Rattle.pt_records.specs.OpenRows.{object_of}
use Rattle.pt_state.specs.Serving.{call_of_open}
use Rattle.pt_state.proofs.CallerFinds.{call_of-in, call_of-none}
use Rattle.pt_state.proofs.ServingFinds.{are-open}
use Rattle.pt_state.proofs.ServingOrders.{object-same}
use Rattle.pt_machine.proofs.QueueFirsts.{found-known}

module _ (h : History) (rows : List (ClientRow Caller)) (f : Follows h) (a : AreCallers h rows)
  where
    -- a client's first open call is the one that is found by its place
    call-same : (c : ℕ) → call_of (open_calls h) c ≡ open_call_of h c
    call-same c = go (call_of (open_calls h) c) refl
      where
        nothing : (x : Option WaitingCall) → open_call_of h c ≡ x
            → call_of (open_calls h) c ≡ None → None ≡ x
        nothing None e s = refl
        nothing (Some w) e s =
            let i = open_call-is h f w c e in absurd (call_of-none (open_calls h) c s w i.0 i.1)

        go : (x : Option WaitingCall) → call_of (open_calls h) c ≡ x → x ≡ open_call_of h c
        go None e = nothing (open_call_of h c) refl e
        go (Some w) e =
            let i = call_of-in (open_calls h) c w e in sym (open_call-found h f w c i.0 i.1)

    -- the call in a client's row is its open call
    pub row-call : (c : ℕ) (found : Option Open) → found ≡ open_in (client_value rows c)
        → option_map call_of_open found ≡ open_call_of h c
    row-call c found e = ap (option_map call_of_open) e ∙ (a.look.calls c ∙ call-same c)

    -- an open call waits at the object that its row gives
    pub row-object : (o : Open) → In o (opens_of rows) → object_of o
        ≡ wait_object h (call_of_open o)
    row-object o i = object-same h o ((are-open h rows f a).has_call o i).1

    -- the object at which the call in a client's row waits
    pub row-waits : (c : ℕ) (found : Option Open) → found ≡ open_in (client_value rows c)
        → option_map object_of found ≡ object_if h (open_call_of h c)
    row-waits c None e = ap (object_if h) (row-call c None e)
    row-waits c (Some o) e =
        ap Some (row-object o (found-known rows c (Some o) e))
        ∙ ap (object_if h) (row-call c (Some o) e)

    -- the object that a call in the rows is for in the end
    pub row-goal : (o : Open) → In o (opens_of rows)
        → Some (goal (call_of_open o).role o.call.object)
        ≡ goal_if (call_at_place o.call.place (waiting_calls h))
    row-goal o i = sym (ap goal_if (found_open h f (call_of_open o)
        ((are-open h rows f a).has_call o i).0))
