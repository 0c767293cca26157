-- Entries are read back from their texts, so no two entries share a text.
use Rattle.std.proofs.Common.{◌≡◌, ℕ, ◌<◌, ◌≤◌, ◌+◌, ◌*◌, ◌/◌, ◌%◌, ◌^◌, ◌∙◌, cond, List, [], ◌∷◌}
use Rattle.std.proofs.Common.{◌++◌, drop, decimal, Option, Some, None, Result, Ok, Err, refl, sym}
use Rattle.std.proofs.Common.{ap, arith}
use Rattle.std.proofs.Math.Nat.{div-add-mod, div-le_self}
use Rattle.std.proofs.lemmas.Fmt.{decimal_is_IsNumeral}
use Rattle.std.specs.Prelude.{codes}
use Rattle.std.specs.Option.{option_map}
use Rattle.std.specs.Str.{bytes_eq}
use Rattle.std.specs.Str.Parse.{digits_value}
use Rattle.pt_types.specs.Limits.{nanoseconds_per_second}
use Rattle.pt_types.specs.Words.{outcome_word}
use Rattle.pt_types.specs.declared.time.Clock.{Clock}
use Rattle.pt_types.specs.declared.time.Clock.TheVariants.{Real, Mono}
use Rattle.pt_types.specs.declared.call.Call.{Call as FunctionCall}
use Rattle.pt_types.specs.declared.outcome.Outcome.{Outcome}
use Rattle.pt_types.specs.declared.outcome.Outcome.TheVariants.{Done, Serial, Eperm, Einval, Ebusy}
use Rattle.pt_types.specs.declared.outcome.Outcome.TheVariants.{Eagain, Edeadlk, Etimedout}
use Rattle.pt_types.specs.declared.outcome.Outcome.TheVariants.{Eownerdead, Enotrecoverable}
use Rattle.pt_types.specs.declared.outcome.Refusal.{Refusal}
use Rattle.pt_grammar.specs.declared.call_line.CallLine.{CallLine}
use Rattle.pt_grammar.specs.declared.call_line.CallLine.TheVariants.{Ask}
use Rattle.pt_grammar.specs.Reading.{call_read}
use Rattle.pt_model.specs.declared.entry.Entry.{Entry}
use Rattle.pt_model.specs.declared.entry.Entry.TheVariants.{Join, Call, Death, Moment, Grant}
use Rattle.pt_model.specs.declared.entry.Entry.TheVariants.{Trip, Yield, Expire}
use Rattle.pt_entries.specs.CallTexts.{call_text}
use Rattle.pt_entries.specs.EntryTexts.{clock_word, entry_text, reply_word}
use Rattle.pt_entries.specs.Laws.{EntryTextsDiffer, IsLineCall, IsLineEntry}
use Rattle.pt_entries.proofs.Commas.{no_comma, number, number_closed}
use Rattle.pt_entries.proofs.Cutting.{Avoids, first_of_two, past, rest_of_two, second_of_two, upto}
use Rattle.pt_entries.proofs.Cutting.{upto_first}
use Rattle.pt_entries.proofs.Spelled.{texts_are_read}

-- the number that digits write
abbrev number_in : List ℕ → ℕ
number_in digits = digits_value 10 digits

-- the answer of this word, if there is one
abbrev reply_in : List ℕ → Option Outcome
reply_in word =
    cond (bytes_eq word (codes "0")) (Some Done)
    (cond (bytes_eq word (codes "SERIAL")) (Some Serial)
    (cond (bytes_eq word (codes "EPERM")) (Some Eperm)
    (cond (bytes_eq word (codes "EINVAL")) (Some Einval)
    (cond (bytes_eq word (codes "EBUSY")) (Some Ebusy)
    (cond (bytes_eq word (codes "EAGAIN")) (Some Eagain)
    (cond (bytes_eq word (codes "EDEADLK")) (Some Edeadlk)
    (cond (bytes_eq word (codes "ETIMEDOUT")) (Some Etimedout)
    (cond (bytes_eq word (codes "EOWNERDEAD")) (Some Eownerdead)
    (cond (bytes_eq word (codes "ENOTRECOVERABLE")) (Some Enotrecoverable) None)))))))))

reply_back : (x : Option Outcome) → reply_in (reply_word x) ≡ x
reply_back None = refl
reply_back (Some Done) = refl
reply_back (Some Serial) = refl
reply_back (Some Eperm) = refl
reply_back (Some Einval) = refl
reply_back (Some Ebusy) = refl
reply_back (Some Eagain) = refl
reply_back (Some Edeadlk) = refl
reply_back (Some Etimedout) = refl
reply_back (Some Eownerdead) = refl
reply_back (Some Enotrecoverable) = refl

reply_closed : (x : Option Outcome) → Avoids 41 (reply_word x)
reply_closed None = refl
reply_closed (Some Done) = refl
reply_closed (Some Serial) = refl
reply_closed (Some Eperm) = refl
reply_closed (Some Einval) = refl
reply_closed (Some Ebusy) = refl
reply_closed (Some Eagain) = refl
reply_closed (Some Edeadlk) = refl
reply_closed (Some Etimedout) = refl
reply_closed (Some Eownerdead) = refl
reply_closed (Some Enotrecoverable) = refl

abbrev clock_in : List ℕ → Clock
clock_in word = cond (bytes_eq word (codes "Real")) Real Mono

clock_back : (k : Clock) → clock_in (clock_word k) ≡ k
clock_back Real = refl
clock_back Mono = refl

clock_plain : (k : Clock) → Avoids 44 (clock_word k)
clock_plain Real = refl
clock_plain Mono = refl

-- the arguments of an entry, from what is behind the first parenthesis
abbrev only_argument : List ℕ → List ℕ
only_argument args = upto 41 args

abbrev first_argument : List ℕ → List ℕ
first_argument args = upto 44 args

abbrev later_arguments : List ℕ → List ℕ
later_arguments args = drop 1 (past 44 args)

abbrev call_entry : ℕ → Result CallLine Refusal → Option Outcome → Option Entry
call_entry c (Ok (Ask call)) x = Some (Call c call x)
call_entry c _ x = None

abbrev grant_entry : ℕ → Option Outcome → Option Entry
grant_entry j None = None
grant_entry j (Some x) = Some (Grant j x)

-- the entry with this name and these arguments
abbrev named_entry : List ℕ → List ℕ → Option Entry
named_entry name args =
    let n = number_in (only_argument args) in
    let first = number_in (first_argument args) in
    let later = later_arguments args in
    cond (bytes_eq name (codes "Join")) (Some (Join first (number_in (only_argument later))))
    (cond (bytes_eq name (codes "Call"))
    (call_entry first (call_read (first_argument later))
    (reply_in (only_argument (later_arguments later))))
    (cond (bytes_eq name (codes "Moment"))
    (Some (Moment (clock_in (first_argument args))
    (nanoseconds_per_second * number_in (first_argument later)
    + number_in (only_argument (later_arguments later)))))
    (cond (bytes_eq name (codes "Grant")) (grant_entry first (reply_in (only_argument later)))
    (cond (bytes_eq name (codes "Death")) (Some (Death n))
    (cond (bytes_eq name (codes "Trip")) (Some (Trip n))
    (cond (bytes_eq name (codes "Yield")) (Some (Yield n))
    (cond (bytes_eq name (codes "Expire")) (Some (Expire n)) None)))))))

-- the entry with this text
abbrev entry_in : List ℕ → Option Entry
entry_in text = named_entry (upto 40 text) (past 40 text)

-- numbers among the arguments
value : (n : ℕ) → n < 2 ^ 64 → number_in (decimal n) ≡ n
value n h = (decimal_is_IsNumeral n h).1

only_number : (n : ℕ) → n < 2 ^ 64 → number_in (upto 41 (decimal n ++ codes ")")) ≡ n
only_number n h =
    ap number_in (upto_first 41 (decimal n) [] refl (number_closed n h)) ∙ value n h

first_number : (n : ℕ) (more : List ℕ) → n < 2 ^ 64
    → number_in (upto 44 ((decimal n ++ codes ", " ++ more) ++ codes ")")) ≡ n
first_number n more h = ap number_in (first_of_two (decimal n) more (number n h)) ∙ value n h

-- what is behind the first argument
later : (n : ℕ) (more : List ℕ) → n < 2 ^ 64
    → drop 1 (past 44 ((decimal n ++ codes ", " ++ more) ++ codes ")")) ≡ more ++ codes ")"
later n more h = rest_of_two (decimal n) more (number n h)

join_back : (c p : ℕ) → c < 2 ^ 64 → p < 2 ^ 64
    → entry_in (entry_text (Join c p)) ≡ Some (Join c p)
join_back c p hc hp =
    let one = first_number c (decimal p) hc in
    let two = ap (λ t. number_in (upto 41 t)) (later c (decimal p) hc) ∙ only_number p hp in
    ap (λ a. Some (Join a (number_in (upto 41
    (drop 1 (past 44 ((decimal c ++ codes ", " ++ decimal p) ++ codes ")"))))))) one
    ∙ ap (λ b. Some (Join c b)) two

call_back : (c : ℕ) (call : FunctionCall) (x : Option Outcome) → c < 2 ^ 64 → IsLineCall call
    → entry_in (entry_text (Call c call x)) ≡ Some (Call c call x)
call_back c call x hc hcall =
    let text = call_text call in
    let more = text ++ codes ", " ++ reply_word x in
    let args = (decimal c ++ codes ", " ++ more) ++ codes ")" in
    let plain = no_comma call hcall in
    let one = first_number c more hc in
    let behind = later c more hc in
    let read =
    ap (λ t. call_read (upto 44 t)) behind
    ∙ ap call_read (first_of_two text (reply_word x) plain)
    ∙ texts_are_read call hcall in
    let answered =
    ap (λ t. reply_in (upto 41 (drop 1 (past 44 t)))) behind
    ∙ ap reply_in (second_of_two text (reply_word x) plain (reply_closed x))
    ∙ reply_back x in
    ap (λ n. call_entry n (call_read (upto 44 (drop 1 (past 44 args))))
    (reply_in (upto 41 (drop 1 (past 44 (drop 1 (past 44 args))))))) one
    ∙ ap (λ r. call_entry c r (reply_in (upto 41 (drop 1 (past 44 (drop 1 (past 44 args))))))) read
    ∙ ap (λ r. Some (Call c call r)) answered

moment_back : (k : Clock) (t : ℕ) → t < 2 ^ 64
    → entry_in (entry_text (Moment k t)) ≡ Some (Moment k t)
moment_back k t h =
    let seconds = t / nanoseconds_per_second in
    let rest = t % nanoseconds_per_second in
    let split = div-add-mod t nanoseconds_per_second in
    let high : seconds < 2 ^ 64 = omega (arith, div-le_self t nanoseconds_per_second, h) in
    let low : rest < 2 ^ 64 = omega (arith, split, h) in
    let more = decimal seconds ++ codes ", " ++ decimal rest in
    let args = (clock_word k ++ codes ", " ++ more) ++ codes ")" in
    let one = ap clock_in (first_of_two (clock_word k) more (clock_plain k)) ∙ clock_back k in
    let behind = rest_of_two (clock_word k) more (clock_plain k) in
    let two =
    ap (λ l. number_in (upto 44 l)) behind ∙ first_number seconds (decimal rest) high in
    let three =
    ap (λ l. number_in (upto 41 (drop 1 (past 44 l)))) behind
    ∙ ap (λ l. number_in (upto 41 l)) (later seconds (decimal rest) high)
    ∙ only_number rest low in
    ap (λ a. Some (Moment a (nanoseconds_per_second * number_in (upto 44 (drop 1 (past 44 args)))
    + number_in (upto 41 (drop 1 (past 44 (drop 1 (past 44 args)))))))) one
    ∙ ap (λ n. Some (Moment k (nanoseconds_per_second * n
    + number_in (upto 41 (drop 1 (past 44 (drop 1 (past 44 args)))))))) two
    ∙ ap (λ n. Some (Moment k (nanoseconds_per_second * seconds + n))) three
    ∙ ap (λ n. Some (Moment k n)) split

grant_back : (j : ℕ) (x : Outcome) → j < 2 ^ 64
    → entry_in (entry_text (Grant j x)) ≡ Some (Grant j x)
grant_back j x h =
    let args = (decimal j ++ codes ", " ++ outcome_word x) ++ codes ")" in
    let one = first_number j (outcome_word x) h in
    let two =
    ap reply_in (second_of_two (decimal j) (outcome_word x) (number j h) (reply_closed (Some x)))
    ∙ reply_back (Some x) in
    ap (λ n. grant_entry n (reply_in (upto 41 (drop 1 (past 44 args))))) one
    ∙ ap (grant_entry j) two

-- each entry is read back
back : (e : Entry) → IsLineEntry e → entry_in (entry_text e) ≡ Some e
back (Join c p) h = join_back c p h.0 h.1
back (Call c call x) h = call_back c call x h.0 h.1
back (Moment k t) h = moment_back k t h
back (Grant j x) h = grant_back j x h
back (Death c) h = ap (λ n. Some (Death n)) (only_number c h)
back (Trip b) h = ap (λ n. Some (Trip n)) (only_number b h)
back (Yield m) h = ap (λ n. Some (Yield n)) (only_number m h)
back (Expire j) h = ap (λ n. Some (Expire n)) (only_number j h)

pub texts_differ : EntryTextsDiffer
texts_differ e other he ho same =
    let equal : ◌≡◌ {A = Option Entry} (Some e) (Some other) =
    sym (back e he) ∙ ap entry_in same ∙ back other ho in
    cc
