-- What holds of each answer that an entry gives.
use Rattle.std.proofs.Common.{ℕ, ◌==◌, Bool, true, false, ◌&&◌, List, [], ◌∷◌, Option, Some, None}
use Rattle.std.proofs.Common.{sym, subst}
use Rattle.pt_types.specs.declared.call.Call.{Call as FunctionCall}
use Rattle.pt_types.specs.declared.outcome.Outcome.{Outcome}
use Rattle.pt_types.specs.Tables.{reply}
use Rattle.pt_model.specs.declared.entry.Entry.{Entry}
use Rattle.pt_model.specs.declared.entry.Entry.TheVariants.{Call}
use Rattle.pt_model.specs.Searches.{In, Each}
use Rattle.pt_model.specs.Histories.{History, place}
use Rattle.pt_model.specs.Records.{ReplyView}
use Rattle.pt_model.specs.declared.waiting_call.WaitingCall.{WaitingCall}
use Rattle.pt_model.specs.WaitingCall.{call_at_place, waiting_calls, is_barrier_wait}
use Rattle.pt_model.specs.WaitingCall.{is_cond_wait_if}
use Rattle.pt_model.specs.Answers.{at_barrier, client_or_zero, entry_replies, trip_replies}
use Rattle.pt_model.specs.Answers.{expiry_replies}
use Rattle.pt_model.specs.Answers.{entry_replies_by, open_calls}
use Rattle.pt_model.specs.Verdicts.{verdict}
use Rattle.pt_model.specs.Steps.{Step, calls, grants, trips, expires, Follows}
use Rattle.pt_model.proofs.Found.{found_open}
use Rattle.pt_model.proofs.Lists.{Each-from_in, In-filter}

-- what holds of the calls that an entry may answer, by their places and clients: of its own call if
-- it is a call, and otherwise of all open calls
abbrev pub IsForAnswered : (ℕ → ℕ → Type 0) → History → Entry → Type 0
IsForAnswered P h (Call c call r) = P (place h) c
IsForAnswered P h _ = (w : WaitingCall) → In w (open_calls h) → P w.place w.client

module _ (P : ℕ → ℕ → Type 0) where
  -- the statement about the call of an answer
  abbrev pub IsOfCall : ReplyView → Type 0
  IsOfCall t = P t.place t.client

  replied : (h : History) (c : ℕ) (call : FunctionCall) (r : Option Outcome) (ws : List WaitingCall)
      → P (place h) c → Each IsOfCall (entry_replies_by h ws (Call c call r))
  replied h c call None ws own = tt
  replied h c call (Some x) ws own = (own, tt)

  found : (h : History) → Follows h → (w : WaitingCall) → In w (open_calls h) → P w.place w.client
      → P w.place (client_or_zero (call_at_place w.place (waiting_calls h)))
  found h f w i is = subst (λ o. P w.place (client_or_zero o)) (sym (found_open h f w i)) is

  tripped : (ws : List WaitingCall) → Each (λ w. P w.place w.client) ws
      → Each IsOfCall (trip_replies ws)
  tripped [] all = tt
  tripped (w ∷ ws) all = (all.0, tripped ws all.1)

  expired : (j : ℕ) (call : Option WaitingCall) (waits : Bool) → P j (client_or_zero call)
      → Each IsOfCall (expiry_replies j call waits)
  expired j call true is = tt
  expired j call false is = (is, tt)

  -- what holds of the calls holds of their answers
  pub told_each : (h : History) (e : Entry) → Follows h → Step h e → IsForAnswered P h e
      → Each IsOfCall (entry_replies h e)
  told_each h _ f (calls c call n a o) is =
      replied h c call (reply (verdict h c call)) (open_calls h) is
  told_each h _ f (grants w s i g) is = (found h f w i (is w i), tt)
  told_each h _ f (trips w s i t) is =
      tripped (at_barrier w.object (open_calls h))
      (Each-from_in (λ v. P v.place v.client) (at_barrier w.object (open_calls h))
      (λ v j. is v
      (In-filter (λ u. is_barrier_wait u.role && (u.object == w.object)) (open_calls h) v j).0))
  told_each h _ f (expires w s i t) is =
      expired w.place (call_at_place w.place (waiting_calls h)) (is_cond_wait_if
      (call_at_place w.place (waiting_calls h)))
      (found h f w i (is w i))
  told_each h _ f _ is = tt
