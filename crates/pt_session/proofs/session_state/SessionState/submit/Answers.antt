use Rattle.std.proofs.Common.{◌++◌, [], ◌∷◌, ap, ◌∙◌}
use Rattle.pt_session.specs.Transcripts.{SessionState, all_answered}
use Rattle.pt_session.proofs.SessionStateLemmas.{dealt}
use Rattle.pt_session.proofs.session_state.SessionState.submit.Goals as goal

pub invariant_of-self : goal.invariant_of-self
invariant_of-self g c =
    let d : SessionState = record {
      retention = c.self.inside.retention;
      pass = c.self.inside.pass;
      clock = c.self.inside.clock;
      exchanges = c.self.inside.transcript;
    } in
    let all = ap (λ v. all_answered v.exchanges) (c.self.view_is ∙ c.settle.ensures) ∙ c.requires in
    let word = c.handle_line-word.result in
    dealt d c.args.line word c.handle_line-word.new.pass c.handle_line-word.new.clock
    c.and-self-inside.result c.self.invariant all c.handle_line-word.ensures.deals
    (c.and-self-inside.ensures
    ∙ ap (λ line. d.exchanges ++ (line, word) ∷ []) c.of-noted.ensures)

pub returns-clause-exchanges : goal.returns-clause-exchanges
returns-clause-exchanges g c =
    let word = c.handle_line-word.result in
    let before = c.self.inside.transcript in
    c.and-self-inside.ensures
    ∙ ap (λ line. before ++ (line, word) ∷ []) c.of-noted.ensures
    ∙ ap (λ (d : SessionState). d.exchanges ++ (c.args.line, word) ∷ [])
    (c.self.view_is ∙ c.settle.ensures)
