-- The line that made a call is found at its place after it is noted.
use Rattle.std.proofs.Common.{◌≡◌, ℕ, true, cond, List, Some, None, nat_eq, ap, ◌∙◌, arith}
use Rattle.std.proofs.lemmas.Bool.Decides.{nat_tests}
use Rattle.std.specs.Option.{option_or}
use Rattle.pt_types.specs.declared.call.Call.{Call as FunctionCall}
use Rattle.pt_model.specs.declared.entry.Event.{Event}
use Rattle.pt_model.specs.declared.entry.Event.TheVariants as event
use Rattle.pt_engine.specs.declared.line_id.LineId.{LineId}
use Rattle.pt_engine.specs.Scripts.{calls_with, line_at}
use Rattle.pt_engine.proofs.Counted.{lookup_push}

-- a line is still found after more are noted
pub line_on : (v : Event) (line found : LineId) (place j : ℕ) (calls : List (ℕ × LineId))
    → line_at calls j ≡ Some found → line_at (calls_with v line place calls) j ≡ Some found
line_on (event.Call c call) line found place j calls is =
    lookup_push (nat_eq j) calls place line
    ∙ ap (λ o. option_or o (cond (nat_eq j place) (Some line) None)) is
line_on _ line found place j calls is = is

-- the line that is noted last is found
pub line_here : (c : ℕ) (call : FunctionCall) (line : LineId) (place : ℕ) (calls : List (ℕ × LineId))
    → line_at calls place ≡ None
    → line_at (calls_with (event.Call c call) line place calls) place ≡ Some line
line_here c call line place calls none =
    let same : nat_eq place place ≡ true = grind (arith, nat_tests) in
    lookup_push (nat_eq place) calls place line
    ∙ ap (λ o. option_or o (cond (nat_eq place place) (Some line) None)) none
    ∙ ap (λ b. cond b (Some line) None) same
