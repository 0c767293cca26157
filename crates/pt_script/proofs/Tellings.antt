-- What was answered is told so.
use Rattle.std.proofs.Common.{ℕ, List}
use Rattle.pt_grammar.specs.declared.cut.Cut.{Cut}
use Rattle.pt_grammar.specs.Lines.{CutterView}
use Rattle.pt_engine.specs.Scripts.{Script}
use Rattle.pt_engine.specs.Engines.{AnswersBetween, AnswersCuts}
use Rattle.pt_script.specs.Tellings.{TellsBetween, TellsCuts, answers}

pub tells_answers : (s : Script) (cuts : List Cut) (old : List ℕ) (last : Script) (new : List ℕ)
    → AnswersCuts s cuts old last new → TellsCuts answers s cuts old last new
tells_answers s cuts old last new a = record { text = a.text; tells = a.says; grows = a.grows }

pub all_tells_answers : (held : CutterView) (s : Script) (old : List ℕ) (next : CutterView)
    (last : Script)
    (new : List ℕ) → AnswersBetween held s old next last new
    → TellsBetween answers held s old next last new
all_tells_answers held s old next last new a = record {
  cuts = a.cuts;
  given = a.given;
  appends = tells_answers s a.cuts old last new a.answered;
}
