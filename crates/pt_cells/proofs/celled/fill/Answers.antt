use Rattle.std.proofs.Common.{arith, sym, ◌∙◌}
use Rattle.pt_legal.specs.Cores.{core_state}
use Rattle.pt_model.proofs.Histories.{place-history_since}
use Rattle.pt_cells.proofs.Firsts.{at-index, filled, index-within, some-is, there}
use Rattle.pt_cells.proofs.celled.fill.Goals as goal

pub overflow_sub-entry_count : goal.overflow_sub-entry_count
overflow_sub-entry_count g c =
    let k = core_state (g.C.LegalHistory.seen c.args.core.now) in
    omega (arith, c.len.ensures.value, c.first-first.ensures, place-history_since k.start k.entries)

pub unwrap-requires : goal.unwrap-requires
unwrap-requires g c =
    let k = core_state (g.C.LegalHistory.seen c.args.core.now) in
    let i = c.loop-index.index in
    let entry = there k.entries i (index-within k.entries _ _ k.start.at _ i c.len.ensures.value
    (place-history_since k.start k.entries) c.first-first.ensures c.loop-index-test.true) in
    some-is c.entry.result entry.0
    (at-index k.entries c.first-first.result k.start.at i c.entry.result c.first-first.ensures
    c.entry.ensures.since ∙ entry.1)

pub push-requires : goal.push-requires
push-requires g c =
    let k = core_state (g.C.LegalHistory.seen c.args.core.now) in
    let i = c.loop-index.index in
    let within = index-within k.entries _ _ k.start.at _ i c.len.ensures.value
    (place-history_since k.start k.entries) c.first-first.ensures c.loop-index-test.true in
    omega (arith, within, c.loop-index.invariant.2, c.loop-index.invariant.3, c.requires.room)

pub returns-clause-cells : goal.returns-clause-cells
returns-clause-cells g c =
    let k = core_state (g.C.LegalHistory.seen c.args.core.now) in
    record {
      first = c.loop-index.invariant.0;
      all = omega (
        arith,
        c.loop-index.invariant.2,
        c.loop-index-test.false,
        c.loop-index.auto.index,
        c.len-index.ensures,
        c.requires.within,
        c.len.ensures.value,
        place-history_since k.start k.entries,
        c.first-first.ensures,
      );
    }

pub loop-index-preserved : goal.loop-index-preserved
loop-index-preserved g c =
    let k = core_state (g.C.LegalHistory.seen c.args.core.now) in
    let i = c.loop-index.index in
    filled k.entries c.args.slots.now.cells c.loop-index.slots.cells c.push.new.self.cells
    c.unwrap.result i i i c.args.slots.now.room c.loop-index.slots.room c.push.new.self.room
    c.loop-index.invariant.0 c.loop-index.invariant.1 c.loop-index.invariant.2
    c.loop-index.invariant.3
    (sym (at-index k.entries c.first-first.result k.start.at i c.entry.result c.first-first.ensures
    c.entry.ensures.since) ∙ c.unwrap.ensures)
    c.push.ensures.cells c.push.ensures.room
