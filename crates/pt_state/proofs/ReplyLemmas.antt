-- What each entry answers.
use Rattle.std.proofs.Common.{◌≡◌, true, false, List, [], ◌∷◌, ◌++◌, Some, map, refl, ap, ◌∙◌}
use Rattle.pt_types.specs.declared.outcome.Outcome.{Outcome}
use Rattle.pt_types.specs.declared.outcome.Outcome.TheVariants.{Etimedout}
use Rattle.pt_model.specs.declared.entry.Entry.{Entry}
use Rattle.pt_model.specs.declared.entry.Entry.TheVariants.{Grant, Expire}
use Rattle.pt_model.specs.Searches.{In}
use Rattle.pt_model.specs.Histories.{History, ◌▷◌, place}
use Rattle.pt_model.specs.Records.{ReplyView}
use Rattle.pt_model.specs.declared.waiting_call.WaitingCall.{WaitingCall}
use Rattle.pt_model.specs.WaitingCall.{is_cond_wait, is_cond_wait_if}
use Rattle.pt_model.specs.Answers.{entry_replies, expiry_replies, open_calls}
use Rattle.pt_model.specs.Steps.{Follows}
use Rattle.pt_model.proofs.Found.{found_open}
use Rattle.pt_records.specs.declared.answers.Answered.{Answered}
use Rattle.pt_records.specs.Logs.{log_entry, replies_with_place, log}

-- an answer to an open call
abbrev pub answer_to : WaitingCall → Outcome → ReplyView
answer_to w x = record { client = w.client; place = w.place; outcome = x }

pub entry_replies-grant : (h : History) (w : WaitingCall) (x : Outcome) → Follows h
    → In w (open_calls h)
    → entry_replies h (Grant w.place x) ≡ answer_to w x ∷ []
entry_replies-grant h w x f i = rw (found_open h f w i) refl

expired : (h : History) (w : WaitingCall) → Follows h → In w (open_calls h)
    → entry_replies h (Expire w.place) ≡ expiry_replies w.place (Some w) (is_cond_wait w.role)
expired h w f i =
    ap (λ o. expiry_replies w.place o (is_cond_wait_if o)) (found_open h f w i)

-- the Expire of a wait answers nothing: the wait goes on to its mutex
pub entry_replies-expire_wait : (h : History) (w : WaitingCall) → Follows h → In w (open_calls h)
    → is_cond_wait w.role ≡ true → entry_replies h (Expire w.place) ≡ []
entry_replies-expire_wait h w f i waits = expired h w f i
    ∙ ap (expiry_replies w.place (Some w)) waits

-- the Expire of any other call answers it ETIMEDOUT
pub entry_replies-expire : (h : History) (w : WaitingCall) → Follows h → In w (open_calls h)
    → is_cond_wait w.role ≡ false → entry_replies h (Expire w.place) ≡ answer_to w Etimedout ∷ []
entry_replies-expire h w f i other = expired h w f i ∙ ap (expiry_replies w.place (Some w)) other

-- the logged answers after an entry whose answers were added
pub kept-more : (h : History) (e : Entry) (old new : List Answered) → map log_entry old ≡ log h
    → map log_entry new ≡ map log_entry old ++ replies_with_place (place h) (entry_replies h e)
    → map log_entry new ≡ log (h ▷ e)
kept-more h e old new k added = added ∙ ap (λ ps. ps
    ++ replies_with_place (place h) (entry_replies h e)) k
