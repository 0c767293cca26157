use Rattle.std.proofs.Common.{◌≡◌, ◌<◌, ◌∙◌, ap, length, arith, ◌≤◌, subst, sym}
use Rattle.std.proofs.lemmas.Grind.{common_steps}
use Rattle.pt_grammar.specs.Lines.{CutterView}
use Rattle.pt_lines.proofs.CutLemmas.{at_end}
use Rattle.pt_lines.proofs.FrontLemmas.{nothing_held}
use Rattle.pt_lines.proofs.cutter.Cutter.finish.Goals as goal

pub returns : goal.returns
returns g c =
    let rest : c.self.inside.buffer.items ≡ c.args.self.rest =
    ap (λ (h : CutterView). h.rest) c.self.view_is in
    let some : 0 < length c.args.self.rest = rw (← rest) (grind (arith, common_steps)) in
    at_end c.args.self c.requires some c.line_of.result.items
    (c.line_of.ensures ∙ c.as_slice.ensures ∙ rest)

pub line_of-requires : goal.line_of-requires
line_of-requires g c =
    subst (λ xs. length xs ≤ 128)
    (sym (c.as_slice.ensures ∙ ap (λ (h : CutterView). h.rest) c.self.view_is)) c.requires.short

pub returns-then-is_empty : goal.returns-then-is_empty
returns-then-is_empty g c =
    nothing_held c.self.inside.buffer.items c.args.self c.if-is_empty.ensures
    (ap (λ (h : CutterView). h.rest) c.self.view_is)
