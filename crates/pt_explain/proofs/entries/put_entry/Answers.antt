use Rattle.std.proofs.Common.{◌-◌, ap, length, length-append, arith}
use Rattle.pt_entries.specs.EntryTexts.{placed_entry}
use Rattle.pt_explain.proofs.EntryLines.{row_whole}
use Rattle.pt_explain.proofs.Saying.{on_ok}
use Rattle.pt_explain.proofs.entries.put_entry.Goals as goal

pub returns-clause-ok : goal.returns-clause-ok
returns-clause-ok g c =
    let reason = c.args.reason.now in
    let old = c.args.out.now.items in
    let mid = c.put_left.new.out.items in
    let text = placed_entry c.args.place c.args.entry.now in
    on_ok c.put_reason.result c.put_reason.ensures.ok
    (row_whole old mid c.put_reason.new.out.items text (c.len.result - c.len-start.result)
    (reason.words.now, reason.source.now) c.in_ok-put_left.ensures.ok
    (omega (
      arith,
      c.len-start.ensures,
      c.len.ensures,
      c.args.out.now.ok.0,
      c.put_left.new.out.ok.0,
      ap length c.in_ok-put_left.ensures.ok,
      length-append old text,
    )))
