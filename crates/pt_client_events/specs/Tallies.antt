-- Tallies: a client's answers and its open call, as numbers.
use Rattle.std.specs.Prelude.{ℕ, ◌==◌, List, length, is_some, if◌then◌else◌}
use Rattle.pt_model.specs.declared.entry.Entry.{Entry}
use Rattle.pt_model.specs.declared.entry.Entry.TheVariants.{Call}
use Rattle.pt_model.specs.Starts.{Start}
use Rattle.pt_model.specs.Histories.{History}
use Rattle.pt_model.specs.Records.{ReplyView}
use Rattle.pt_model.specs.Answers.{replies_since, replies_to, open_place}

-- the number of these answers that go to a client
abbrev pub reply_count_in : ℕ → List ReplyView → ℕ
reply_count_in c ts = length (replies_to c ts)

-- the number of answers that a client got since a Start
abbrev pub reply_count : Start → List Entry → ℕ → ℕ
reply_count s es c = reply_count_in c (replies_since s es)

-- 1 if a client has an open call, else 0
abbrev pub open_call_count : History → ℕ → ℕ
open_call_count h c = if is_some (open_place h c) then 1 else 0

-- 1 if an entry is a call of the client, else 0
abbrev pub own_call_count : ℕ → Entry → ℕ
own_call_count c (Call d call reply) = if d == c then 1 else 0
own_call_count c _ = 0
