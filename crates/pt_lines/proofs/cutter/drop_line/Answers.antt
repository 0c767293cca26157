use Rattle.pt_lines.proofs.CutLemmas.{first_at, past_first, none_at, lines_after_newline-append}
use Rattle.std.proofs.Common.{◌+◌}
use Rattle.pt_lines.proofs.FrontLemmas.{left_no_more, left_none}
use Rattle.pt_lines.proofs.cutter.drop_line.Goals as goal

pub returns-in-Some-clause-found : goal.returns-in-Some-clause-found
returns-in-Some-clause-found g c =
    let held = c.args.buffer.now.items in
    let found = first_at held c.in-Some.end (rw c.as_slice.ensures at c.in-Some.ensures) in
    rw c.advance.ensures.items (past_first held c.in-Some.end found)

pub returns-in-None-clause-none : goal.returns-in-None-clause-none
returns-in-None-clause-none g c =
    let held = c.args.buffer.now.items in
    let none = none_at held (rw c.as_slice.ensures at c.in-None.ensures) in
    λ more. lines_after_newline-append held more none

pub returns-in-Some-clause-fewer : goal.returns-in-Some-clause-fewer
returns-in-Some-clause-fewer g c =
    left_no_more (c.in-Some.end + 1) c.args.buffer.now.items c.advance.new.self.items
    c.advance.ensures.items

pub returns-in-None-clause-fewer : goal.returns-in-None-clause-fewer
returns-in-None-clause-fewer g c =
    left_none c.args.buffer.now.items c.clear.new.self.items c.clear.ensures.items
