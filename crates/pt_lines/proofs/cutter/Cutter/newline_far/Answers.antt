use Rattle.std.proofs.Common.{◌≡◌, ◌∙◌, ap, subst, take, arith}
use Rattle.memchr.specs.Find.{IsFirstByte, is_byte}
use Rattle.pt_grammar.specs.Lines.{CutterView}
use Rattle.pt_lines.proofs.CutLemmas.{front_of}
use Rattle.pt_lines.proofs.cutter.Cutter.newline_far.Goals as goal

pub returns : goal.returns
returns g c =
    let rest : c.self.inside.buffer.items ≡ c.args.self.now.rest =
    ap (λ (h : CutterView). h.rest) c.self.view_is in
    front_of c.args.self.now 64 c.newline_in_long.result c.requires (omega arith)
    (subst (λ xs. IsFirstByte (is_byte 10) xs c.newline_in_long.result)
    (c.in_ok-block.ensures.cases.same ∙ ap (take 64) (c.as_slice.ensures ∙ rest))
    c.newline_in_long.ensures)
