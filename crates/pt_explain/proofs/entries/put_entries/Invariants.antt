use Rattle.std.proofs.Common.{◌≡◌, ◌≤◌, ◌++◌}
use Rattle.pt_legal.specs.Cores.{core_state}
use Rattle.pt_explain.specs.Entries.{entries_from, entry_row, entry_rows}
use Rattle.pt_explain.proofs.entries.put_entries.Given as goal

abbrev pub invariant-loop-place : goal.invariant-loop-place
invariant-loop-place g l = record {
  since : (core_state (g.C.LegalHistory.seen l.fn.core)).start.at ≤ l.place;
  text :
      l.out.items
      ++ entry_rows (entry_row (l.fn.own.words.now, l.fn.own.source.now) l.fn.from
      (core_state (g.C.LegalHistory.seen l.fn.core))) l.place
      (entries_from (g.C.LegalHistory.seen l.fn.core) l.place)
      ≡ l.fn.out.items
      ++ entry_rows (entry_row (l.fn.own.words.now, l.fn.own.source.now) l.fn.from
      (core_state (g.C.LegalHistory.seen l.fn.core))) l.fn.from
      (entries_from (g.C.LegalHistory.seen l.fn.core) l.fn.from);
}
