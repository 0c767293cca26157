use Rattle.std.proofs.Common.{◌≡◌, ◌∙◌, ◌+◌, ℕ, List, length, take, drop, ap, sym, subst, refl, ◌<◌}
use Rattle.std.proofs.Common.{arith}
use Rattle.std.proofs.lemmas.List.{length-take-le}
use Rattle.pt_grammar.specs.Lines.{CutterView, after_line}
use Rattle.pt_grammar.specs.Script.{IsNextScriptLine, short_read}
use Rattle.pt_lines.proofs.CutLemmas.{read_in_place, short_is_read}
use Rattle.pt_lines.proofs.FrontLemmas.{front_before}
use Rattle.pt_lines.proofs.cutter.Cutter.front_text.Goals as goal

pub returns-clause-line : goal.returns-clause-line
returns-clause-line g c =
    let end = c.in_ok-end.end in
    let held = c.args.self.now in
    let rest : c.self.inside.buffer.items ≡ held.rest =
    ap (λ (h : CutterView). h.rest) c.self.view_is in
    let text = ap (take end) (c.as_slice.ensures ∙ rest) in
    let within = c.in_ok-end.ensures.within in
    let len : length (take end held.rest) ≡ end =
    length-take-le end held.rest (omega (arith, within)) in
    subst
    (λ (xs : List ℕ). IsNextScriptLine held (short_read xs) (after_line held (length xs)))
    (sym text)
    (subst
    (λ n. IsNextScriptLine held (short_read (take end held.rest)) (after_line held n))
    (sym len)
    (read_in_place held (drop (end + 1) held.rest) held.dropping end
    (short_read (take end held.rest)) c.in_ok-end.ensures
    (short_is_read end held.rest c.in_ok-end.ensures.short) refl refl))

pub slice_bounds-result-end : goal.slice_bounds-result-end
slice_bounds-result-end g c =
    let within =
    subst (λ (h : CutterView). c.in_ok-end.end < length h.rest) (sym c.self.view_is)
    c.in_ok-end.ensures.within in
    front_before c.in_ok-end.end c.as_slice.result.now c.self.inside.buffer.items c.as_slice.ensures
    within
