-- EntryTexts: the text of an entry: its name, and in parentheses what it says, with the whole call.
use Rattle.std.specs.Prelude.{ℕ, ◌++◌, ◌/◌, ◌%◌, List, [], ◌∷◌, Option, None, Some, codes, decimal}
use Rattle.std.specs.Prelude.{drop, length, min}
use Rattle.pt_types.specs.Limits.{nanoseconds_per_second}
use Rattle.pt_types.specs.Words.{outcome_word}
use Rattle.pt_types.specs.declared.time.Clock.{Clock}
use Rattle.pt_types.specs.declared.time.Clock.TheVariants.{Real, Mono}
use Rattle.pt_types.specs.declared.outcome.Outcome.{Outcome}
use Rattle.pt_model.specs.declared.entry.Entry.{Entry}
use Rattle.pt_model.specs.declared.entry.Entry.TheVariants.{Join, Call, Death, Moment, Grant}
use Rattle.pt_model.specs.declared.entry.Entry.TheVariants.{Trip, Yield, Expire}
use Rattle.pt_entries.specs.CallTexts.{call_text}

-- words separated by a comma and a space
abbrev pub listed : List ℕ → List (List ℕ) → List ℕ
listed word [] = word
listed word (next ∷ more) = word ++ codes ", " ++ listed next more

-- a name with its arguments in parentheses
abbrev pub applied : List ℕ → List ℕ → List (List ℕ) → List ℕ
applied name first more = name ++ codes "(" ++ listed first more ++ codes ")"

-- the word of a clock in an entry  [XBD time.h, CLOCK_REALTIME and CLOCK_MONOTONIC; profile]
abbrev pub clock_word : Clock → List ℕ
clock_word Real = codes "Real"
clock_word Mono = codes "Mono"

-- the answer that a call got at once, or `none`
abbrev pub reply_word : Option Outcome → List ℕ
reply_word None = codes "none"
reply_word (Some x) = outcome_word x

-- the text of an entry  [profile]
abbrev pub entry_text : Entry → List ℕ
entry_text (Join c p) = applied (codes "Join") (decimal c) (decimal p ∷ [])
entry_text (Call c call x) =
    applied (codes "Call") (decimal c) (call_text call ∷ reply_word x ∷ [])
entry_text (Death c) = applied (codes "Death") (decimal c) []
entry_text (Moment k t) =
    applied (codes "Moment") (clock_word k) (decimal (t / nanoseconds_per_second) ∷ decimal (t % nanoseconds_per_second) ∷ [])
entry_text (Grant j x) = applied (codes "Grant") (decimal j) (outcome_word x ∷ [])
entry_text (Trip b) = applied (codes "Trip") (decimal b) []
entry_text (Yield m) = applied (codes "Yield") (decimal m) []
entry_text (Expire j) = applied (codes "Expire") (decimal j) []

-- a number, after spaces to a width of 4
abbrev pub aligned : ℕ → List ℕ
aligned n = drop (min (length (decimal n)) 4) (codes "    ") ++ decimal n

-- an entry with its place: a space, the place, two spaces, and its text. A trace reads a line that
-- begins with a space as a remark  [profile]
abbrev pub placed_entry : ℕ → Entry → List ℕ
placed_entry place e = 32 ∷ aligned place ++ codes "  " ++ entry_text e
