use Rattle.std.proofs.Common.{◌∙◌, List, ℕ, ap}
use Rattle.pt_legal.specs.Cores.{core_state}
use Rattle.pt_explain.proofs.CallsFound.{followed}
use Rattle.pt_explain.proofs.entries.follow_reason.Goals as goal

pub returns-clause-words : goal.returns-clause-words
returns-clause-words g c =
    c.forced_reason.ensures.words
    ∙ ap (λ (r : List ℕ × List ℕ). r.0)
    (followed (core_state (g.C.LegalHistory.seen c.args.core.now)) c.args.place c.args.entry.now
    c.place_of_call-of.result c.call_at.result c.is_next.result c.place_of_call-of.ensures
    c.call_at.ensures c.is_next.ensures)

pub returns-clause-source : goal.returns-clause-source
returns-clause-source g c =
    c.forced_reason.ensures.source
    ∙ ap (λ (r : List ℕ × List ℕ). r.1)
    (followed (core_state (g.C.LegalHistory.seen c.args.core.now)) c.args.place c.args.entry.now
    c.place_of_call-of.result c.call_at.result c.is_next.result c.place_of_call-of.ensures
    c.call_at.ensures c.is_next.ensures)
