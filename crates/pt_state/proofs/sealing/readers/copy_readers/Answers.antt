use Rattle.std.proofs.Common.{◌+◌, ◌++◌, drop, ap, refl, sym, ◌∙◌}
use Rattle.std.specs.Prelude.{option_copied}
use Rattle.pt_state.specs.Copies.{readers_at, readers_in}
use Rattle.pt_state.proofs.Walks.{walked-on, walked-past, walked-through}
use Rattle.pt_state.proofs.sealing.readers.copy_readers.Goals.{in-Some+in_ok-add_readers}
use Rattle.pt_state.proofs.sealing.readers.copy_readers.Goals.{in_default}
use Rattle.pt_state.proofs.sealing.readers.copy_readers.Goals as goal

pub loop-i-preserved : goal.loop-i-preserved
loop-i-preserved g c =
    let items = c.args.objects.now in
    elim c.match-row.branch [
      | in-Some+in_ok-add_readers w ↦
          walked-on readers_in (λ row. readers_at row.number row.value) (λ row rows. refl) items
          c.loop-i.i w.in-Some.row.now c.loop-i.rows.items c.match-row.rows.items (readers_in items)
          (sym c.row.ensures ∙ ap option_copied w.in-Some.is) c.loop-i.invariant
          (ap (λ v. v.items) w.rows-is ∙ w.in_ok-add_readers.ensures)
      | in_default w ↦
          ap (λ v. v.items ++ readers_in (drop (c.loop-i.i + 1) items)) w.rows-is
          ∙ walked-past readers_in items c.loop-i.i c.loop-i.rows.items (readers_in items)
          (sym c.row.ensures ∙ ap option_copied w.in_default.is) c.loop-i.invariant
    ]

pub returns : goal.returns
returns g c = walked-through readers_in refl c.args.objects.now c.loop-i.i
    c.len-i-end.result c.loop-i.rows.items (readers_in c.args.objects.now)
    c.len-i-end.ensures.len c.loop-i-test.false c.loop-i.invariant
