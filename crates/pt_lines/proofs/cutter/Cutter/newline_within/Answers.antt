use Rattle.std.proofs.Common.{◌≡◌, ◌∙◌, ap, subst, take, arith, length, min, refl}
use Rattle.memchr.specs.Find.{IsFirstByte, is_byte}
use Rattle.pt_grammar.specs.Lines.{CutterView}
use Rattle.pt_lines.proofs.CutLemmas.{front_of}
use Rattle.pt_lines.proofs.FrontLemmas.{front_within, least_within}
use Rattle.pt_lines.proofs.cutter.Cutter.newline_within.Goals as goal

pub returns : goal.returns
returns g c =
    let rest : c.self.inside.buffer.items ≡ c.args.self.now.rest =
    ap (λ (h : CutterView). h.rest) c.self.view_is in
    front_of c.args.self.now c.min-count.result c.memchr.result c.requires.valid (omega arith)
    (subst (λ xs. IsFirstByte (is_byte 10) (take c.min-count.result xs) c.memchr.result)
    (c.as_slice-text.ensures ∙ rest) c.memchr.ensures)

pub slice_bounds-memchr-end : goal.slice_bounds-memchr-end
slice_bounds-memchr-end g c =
    front_within c.min-count.result (length c.self.inside.buffer.items) c.as_slice-text.result.now
    c.self.inside.buffer.items c.as_slice-text.ensures refl
    (least_within c.min-count.result (length c.self.inside.buffer.items) c.args.limit
    (c.min-count.ensures ∙ ap (λ n. min n c.args.limit) c.len.ensures.value))
