-- PlainReplies: the answers that an entry gives, by the places of their calls.
use Rattle.std.specs.Prelude.{ℕ, ◌==◌, List, [], ◌∷◌, Option, Some, None, if◌then◌else◌}
use Rattle.pt_model.specs.declared.entry.Entry.{Entry}
use Rattle.pt_model.specs.declared.entry.Entry.TheVariants.{Call}
use Rattle.pt_model.specs.Histories.{History}
use Rattle.pt_model.specs.Records.{ReplyView}
use Rattle.pt_model.specs.WaitingCall.{waiting_calls, call_at_place}
use Rattle.pt_model.specs.Answers.{client_or_zero}
use Rattle.pt_reference.specs.declared.queries.PlainReply.{PlainReply}

-- an answer in the model's terms
abbrev pub plain_reply_view : PlainReply → ReplyView
plain_reply_view t = record { client = t.client; place = t.place; outcome = t.outcome }

-- the first of these answers that is to the call at place j
abbrev pub reply_at_place : ℕ → List ReplyView → Option ReplyView
reply_at_place j [] = None
reply_at_place j (t ∷ ts) = if t.place == j then Some t else reply_at_place j ts

-- the client that gets the answer which an entry gives to the call at place j
abbrev pub client_of_reply : History → Entry → ℕ → ℕ
client_of_reply h (Call c call answer) j = c
client_of_reply h _ j = client_or_zero (call_at_place j (waiting_calls h))
