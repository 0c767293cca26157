use Rattle.std.proofs.Common.{length, sym, ap, subst, arith}
use Rattle.pt_legal.specs.Cores.{core_state}
use Rattle.pt_cells.specs.Cells.{AreCells, AreFirst}
use Rattle.pt_cells.proofs.Applied.{fits}
use Rattle.pt_cells.proofs.celled.apply_celled.Goals as goal

pub fill-requires-clause-first : goal.fill-requires-clause-first
fill-requires-clause-first g c =
    let old = core_state (g.C.LegalHistory.seen c.args.core.now) in
    let new = core_state (g.C.LegalHistory.seen c.apply.new.self) in
    let cs = c.make_room.new.slots.cells in
    let are = subst (AreCells old.entries) (sym c.make_room.ensures.cells) c.requires.each in
    let fit = fits old new c.args.event.now c.in-Ok.applied c.len.ensures.starts c.len.ensures.legal
    c.in-Ok.ensures.ok cs are in
    subst (AreFirst new.entries) (sym c.clear_if.ensures.0) fit.first

pub fill-requires-clause-room : goal.fill-requires-clause-room
fill-requires-clause-room g c =
    let old = core_state (g.C.LegalHistory.seen c.args.core.now) in
    let new = core_state (g.C.LegalHistory.seen c.apply.new.self) in
    let cs = c.make_room.new.slots.cells in
    let are = subst (AreCells old.entries) (sym c.make_room.ensures.cells) c.requires.each in
    let fit = fits old new c.args.event.now c.in-Ok.applied c.len.ensures.starts c.len.ensures.legal
    c.in-Ok.ensures.ok cs are in
    omega (
      arith,
      fit.room,
      ap length c.clear_if.ensures.0,
      c.clear_if.ensures.1,
      c.in_default.ensures.ok,
    )

pub returns-in-Ok-clause-celled : goal.returns-in-Ok-clause-celled
returns-in-Ok-clause-celled g c =
    let old = core_state (g.C.LegalHistory.seen c.args.core.now) in
    let new = core_state (g.C.LegalHistory.seen c.apply.new.self) in
    let cs = c.make_room.new.slots.cells in
    let are = subst (AreCells old.entries) (sym c.make_room.ensures.cells) c.requires.each in
    let fit = fits old new c.args.event.now c.in-Ok.applied c.len.ensures.starts c.len.ensures.legal
    c.in-Ok.ensures.ok cs are in
    record {
      each = c.fill.ensures.cells;
      enough = omega (
        arith,
        fit.room,
        ap length c.clear_if.ensures.0,
        c.clear_if.ensures.1,
        c.in_default.ensures.ok,
        c.fill.ensures.room,
        c.fill.ensures.cells.all,
      );
    }
