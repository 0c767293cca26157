-- The answer that a client may take after it has made a call.
use Rattle.std.proofs.Common.{◌≡◌, ℕ, ◌==◌, true, Some, refl, sym, ap, ◌∙◌, subst, arith}
use Rattle.std.proofs.lemmas.Bool.Decides.{nat_tests}
use Rattle.pt_types.specs.declared.call.Call.{Call as FunctionCall}
use Rattle.pt_model.specs.declared.entry.Event.TheVariants as event
use Rattle.pt_model.specs.Histories.{◌▷◌, place}
use Rattle.pt_model.specs.Clients.{is_alive}
use Rattle.pt_model.specs.Queries.{latest_call, reply_to_call, reply_if}
use Rattle.pt_model.specs.Room.{entry_for}
use Rattle.pt_model.specs.Steps.{IsStart}
use Rattle.pt_legal.specs.declared.applied.Applied.{Applied}
use Rattle.pt_legal.specs.Cores.{CoreState, history_of}
use Rattle.pt_legal.specs.Applying.{IsEventWritten}
use Rattle.pt_hub.specs.declared.account.Account.{Account}
use Rattle.pt_hub.specs.AnsweringCores.{AnsweringCoreView, IsAccount, IsAnsweringCore, account_of, is_client_blocked, hub_core}
use Rattle.pt_hub.specs.AnsweringCores.{next_answer}
use Rattle.pt_hub.proofs.AppliedLemmas.{latest_call-applied}
use Rattle.pt_hub.proofs.ReadingLemmas.{awaits_in, blocked-awaits, next-blocked}

-- the call is the client's latest, so the answer that may be taken is the one to it, if it has one
module _ (old : CoreState) (d : AnsweringCoreView) (k : IsAnsweringCore d) (c : ℕ) (call : FunctionCall)
    (a : Applied)
    (b : IsStart old.start) (ok : IsEventWritten old (event.Call c call) (hub_core d) a)
    (w : Account)
    (mine : account_of d c ≡ Some w) (waits : w.awaits ≡ true) where
  alive : is_alive (history_of (hub_core d)) c ≡ true
  alive = (subst (IsAccount (hub_core d) c) mine (k.accounts c)).alive

  late : latest_call (history_of (hub_core d)) c ≡ Some a.first
  late =
      let here : (c == c) ≡ true = grind (arith, nat_tests) in
      let new : latest_call (history_of old ▷ entry_for (history_of old) (event.Call c call)) c
      ≡ Some (place (history_of old)) = rw here refl in
      latest_call-applied old (hub_core d) (event.Call c call) b ok.writes c ∙ (new
      ∙ ap Some (sym ok.first))

  blocked : is_client_blocked d c ≡ true
  blocked = blocked-awaits d k c ∙ (ap awaits_in mine ∙ waits)

  pub next-asked : next_answer d c ≡ reply_if c a.first a.outcome
  next-asked =
      sym (next-blocked d k c blocked)
      ∙ (rw alive (ap (reply_to_call (history_of (hub_core d)) c) late
      ∙ ap (reply_if c a.first) (sym ok.replies)))
