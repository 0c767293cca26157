use Rattle.std.proofs.Common.{◌≡◌, ◌+◌, ◌∙◌, ap, take, drop, ◌<◌, length, subst, sym}
use Rattle.pt_grammar.specs.Lines.{CutterView}
use Rattle.pt_grammar.specs.Script.{short_read}
use Rattle.pt_lines.proofs.CutLemmas.{front_dropped, read_in_place, short_is_read}
use Rattle.pt_lines.proofs.FrontLemmas.{one_more, front_before}
use Rattle.pt_lines.proofs.cutter.Cutter.next_script_line.Goals as goal

pub returns-clause-some : goal.returns-clause-some
returns-clause-some g c =
    let end = c.in-Some.end in
    let rest : c.self.inside.buffer.items ≡ c.args.self.now.rest =
    ap (λ (h : CutterView). h.rest) c.self.view_is in
    let text = c.as_slice-text.ensures ∙ rest in
    read_in_place c.args.self.now c.advance.new.self.items c.self.inside.dropping end
    c.read_short-line.result c.in-Some.ensures
    (c.read_short-line.ensures ∙ ap (λ xs. short_read (take end xs)) text
    ∙ short_is_read end c.args.self.now.rest c.in-Some.ensures.short)
    (c.advance.ensures.items ∙ ap (λ xs. drop (end + 1) xs) rest)
    (ap (λ (h : CutterView). h.dropping) c.self.view_is)

pub returns-clause-fewer : goal.returns-clause-fewer
returns-clause-fewer g c =
    (front_dropped _ c.args.self.now c.advance.new.self.items c.in-Some.end c.self.view_is
    c.in-Some.ensures c.advance.ensures.items).1

pub returns-in_default : goal.returns-in_default
returns-in_default g c = record {
  some = record {
    cut = c.in_ok-cut.cut;
    read = c.of.ensures.value;
    given = c.in_ok-cut.ensures.given;
  };
  none = tt;
  unchanged = tt;
  fewer = c.in_ok-cut.ensures.fewer;
}

pub returns-in_err-cut : goal.returns-in_err-cut
returns-in_err-cut g c =
    rw c.from_residual.ensures
    (record {
      some = tt;
      none = c.in_err-cut.ensures.none;
      unchanged = c.in_err-cut.ensures.given;
      fewer = tt;
    })

pub advance-requires : goal.advance-requires
advance-requires g c =
    let within =
    subst (λ (h : CutterView). c.in-Some.end < length h.rest) (sym c.self.view_is)
    c.in-Some.ensures.within in
    one_more c.in-Some.end (length c.self.inside.buffer.items) within

pub slice_bounds-read_short-end : goal.slice_bounds-read_short-end
slice_bounds-read_short-end g c =
    let within =
    subst (λ (h : CutterView). c.in-Some.end < length h.rest) (sym c.self.view_is)
    c.in-Some.ensures.within in
    front_before c.in-Some.end c.as_slice-text.result.now c.self.inside.buffer.items
    c.as_slice-text.ensures within
