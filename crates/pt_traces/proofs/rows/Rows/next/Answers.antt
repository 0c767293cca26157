use Rattle.std.proofs.Common.{◌≡◌, ◌∙◌, ◌+◌, ◌∷◌, [], ap, sym, take, length, arith}
use Rattle.std.proofs.lemmas.Grind.{common_steps}
use Rattle.pt_traces.specs.Rows.{rows}
use Rattle.pt_traces.proofs.RowLemmas.{rows-found, rows-none, to_end, none_left}
use Rattle.pt_traces.proofs.rows.Rows.next.Goals as goal

pub returns-in-Some : goal.returns-in-Some
returns-in-Some c =
    let text = c.self.inside.rest.now in
    sym c.self.view_is
    ∙ rows-found text c.in-Some.end c.in-Some.ensures
    ∙ ap (λ rest. take c.in-Some.end text ∷ rows rest) (sym (to_end (c.in-Some.end + 1) text))

pub returns-in-None : goal.returns-in-None
returns-in-None c =
    let text = c.self.inside.rest.now in
    sym c.self.view_is
    ∙ rows-none text (grind (arith, common_steps)) c.in-None.ensures
    ∙ ap (λ rest. text ∷ rows rest) (sym (none_left text))
