use Rattle.std.proofs.Common.{◌≡◌, ◌≤◌, ◌<◌, ℕ, List, ap, arith, length, take, drop, length-drop}
use Rattle.std.proofs.Common.{subst, refl}
use Rattle.pt_lines.proofs.CutLemmas.{first_in_front, first_line, none_at, too_long}
use Rattle.pt_grammar.specs.Lines.{NoNewline}
use Rattle.pt_lines.proofs.FrontLemmas.{few_held, front_before, front_within, least_within}
use Rattle.pt_lines.proofs.FrontLemmas.{left_less, one_more, short_front}
use Rattle.pt_lines.proofs.cutter.take_line.Goals as goal

pub returns-in-Some-clause-some : goal.returns-in-Some-clause-some
returns-in-Some-clause-some g c =
    let held = c.args.buffer.now.items in
    let found =
    first_in_front held c.min-count.result c.in-Some.end
    (rw c.as_slice-text.ensures at c.in-Some.ensures) in
    let text = rw c.as_slice-text.ensures at c.line_of-line.ensures in
    rw c.advance.ensures.items
    (first_line held c.in-Some.end found.0 (omega (arith, found.1))
    c.line_of-line.result.items text)

pub returns-in-None-clause-some : goal.returns-in-None-clause-some
returns-in-None-clause-some g c =
    let held = c.args.buffer.now.items in
    let none =
    none_at (take c.min-count.result held)
    (rw c.as_slice-text.ensures at c.in-None.ensures) in
    let count : c.min-count.result ≡ 129 = omega arith in
    too_long c.min-count.result held c.advance-in-None.new.self.items count (omega arith) none
    c.advance-in-None.ensures.items

shorter :
    (n : ℕ) (xs ys : List ℕ) → ys ≡ drop n xs → 0 < n → n ≤ length xs
    → length ys < length xs
shorter n xs ys e pos le = omega (arith, ap length e, length-drop n xs)

pub returns-in-None-clause-fewer : goal.returns-in-None-clause-fewer
returns-in-None-clause-fewer g c =
    shorter 129 c.args.buffer.now.items c.advance-in-None.new.self.items
    c.advance-in-None.ensures.items (omega arith) (omega arith)

pub returns-in-Some-clause-fewer : goal.returns-in-Some-clause-fewer
returns-in-Some-clause-fewer g c =
    let held = c.args.buffer.now.items in
    let found =
    first_in_front held c.min-count.result c.in-Some.end
    (rw c.as_slice-text.ensures at c.in-Some.ensures) in
    left_less c.in-Some.end held c.advance.new.self.items c.advance.ensures.items found.0.within

pub advance-requires : goal.advance-requires
advance-requires g c =
    let held = c.args.buffer.now.items in
    let found =
    first_in_front held c.min-count.result c.in-Some.end
    (rw c.as_slice-text.ensures at c.in-Some.ensures) in
    one_more c.in-Some.end (length held) found.0.within

pub slice_bounds-line_of-end : goal.slice_bounds-line_of-end
slice_bounds-line_of-end g c =
    let held = c.args.buffer.now.items in
    let found =
    first_in_front held c.min-count.result c.in-Some.end
    (rw c.as_slice-text.ensures at c.in-Some.ensures) in
    front_before c.in-Some.end c.as_slice-text.result.now held c.as_slice-text.ensures
    found.0.within

pub line_of-line-requires : goal.line_of-line-requires
line_of-line-requires g c =
    let held = c.args.buffer.now.items in
    let found =
    first_in_front held c.min-count.result c.in-Some.end
    (rw c.as_slice-text.ensures at c.in-Some.ensures) in
    short_front c.in-Some.end c.min-count.result c.len.result c.as_slice-text.result.now held
    c.as_slice-text.ensures found.0.within found.1 c.min-count.ensures

pub slice_bounds-memchr-end : goal.slice_bounds-memchr-end
slice_bounds-memchr-end g c =
    front_within c.min-count.result c.len.result c.as_slice-text.result.now
    c.args.buffer.now.items c.as_slice-text.ensures c.len.ensures.value
    (least_within c.min-count.result c.len.result 129 c.min-count.ensures)

pub returns-in-None-2-clause-none : goal.returns-in-None-2-clause-none
returns-in-None-2-clause-none g c =
    let held = c.args.buffer.now.items in
    let few =
    few_held c.min-count.result c.len.result held c.min-count.ensures c.len.ensures.value
    c.if-count-gt-MAX_LINE_LENGTH.false in (
      subst NoNewline few.1
          (none_at (take c.min-count.result held)
          (rw c.as_slice-text.ensures at c.in-None-2.ensures)),
      few.0,
      refl,
    )
