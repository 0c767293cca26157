use Rattle.std.proofs.Common.{◌+◌, ◌++◌, ◌∷◌, [], drop, map, ap, refl, sym, ◌∙◌}
use Rattle.std.specs.Prelude.{option_copied}
use Rattle.pt_state.specs.Copies.{object_start}
use Rattle.pt_state.proofs.Walks.{walked-on, walked-past, walked-through}
use Rattle.pt_state.proofs.sealing.objects.copy_objects.Goals.{in-Some+in_ok-add_object, in_default}
use Rattle.pt_state.proofs.sealing.objects.copy_objects.Goals as goal

pub loop-i-preserved : goal.loop-i-preserved
loop-i-preserved g c =
    let items = c.args.objects.now in
    elim c.match-row.branch [
      | in-Some+in_ok-add_object w ↦
          walked-on (map object_start) (λ row. object_start row ∷ []) (λ row rows. refl) items
          c.loop-i.i w.in-Some.row.now c.loop-i.rows.items c.match-row.rows.items
          (map object_start items) (sym c.row.ensures ∙ ap option_copied w.in-Some.is)
          c.loop-i.invariant (ap (λ v. v.items) w.rows-is ∙ w.in_ok-add_object.ensures)
      | in_default w ↦
          ap (λ v. v.items ++ map object_start (drop (c.loop-i.i + 1) items)) w.rows-is
          ∙ walked-past (map object_start) items c.loop-i.i c.loop-i.rows.items
          (map object_start items) (sym c.row.ensures ∙ ap option_copied w.in_default.is)
          c.loop-i.invariant
    ]

pub returns : goal.returns
returns g c = walked-through (map object_start) refl c.args.objects.now c.loop-i.i
    c.len-i-end.result c.loop-i.rows.items (map object_start c.args.objects.now)
    c.len-i-end.ensures.len c.loop-i-test.false c.loop-i.invariant
