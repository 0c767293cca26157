use Rattle.std.proofs.Common.{◌≡◌, ◌∙◌, ap, subst, take, arith}
use Rattle.memchr.specs.Find.{IsFirstByte, is_byte}
use Rattle.pt_grammar.specs.Lines.{CutterView}
use Rattle.pt_lines.proofs.CutLemmas.{front_of}
use Rattle.pt_lines.proofs.cutter.Cutter.newline_near.Goals as goal

pub returns-in-Some : goal.returns-in-Some
returns-in-Some g c =
    let rest : c.self.inside.buffer.items ≡ c.args.self.now.rest =
    ap (λ (h : CutterView). h.rest) c.self.view_is in
    front_of c.args.self.now 32 c.newline_in.result c.requires (omega arith)
    (subst (λ xs. IsFirstByte (is_byte 10) xs c.newline_in.result)
    (c.in-Some.ensures.cases.same ∙ ap (take 32) (c.as_slice.ensures ∙ rest))
    c.newline_in.ensures)
