use Rattle.std.proofs.Common.{◌+◌, ◌++◌, ◌∷◌, [], drop, map, ap, refl, sym, ◌∙◌}
use Rattle.std.specs.Prelude.{option_copied}
use Rattle.pt_state.specs.Copies.{client_start}
use Rattle.pt_state.proofs.Walks.{walked-on, walked-past, walked-through}
use Rattle.pt_state.proofs.sealing.clients.copy_clients.Goals.{in-Some+in_ok-add_client, in_default}
use Rattle.pt_state.proofs.sealing.clients.copy_clients.Goals as goal

pub loop-i-preserved : goal.loop-i-preserved
loop-i-preserved g c =
    let items = c.args.clients.now in
    elim c.match-row.branch [
      | in-Some+in_ok-add_client w ↦
          walked-on (map client_start) (λ row. client_start row ∷ []) (λ row rows. refl) items
          c.loop-i.i w.in-Some.row.now c.loop-i.rows.items c.match-row.rows.items
          (map client_start items) (sym c.row.ensures ∙ ap option_copied w.in-Some.is)
          c.loop-i.invariant (ap (λ v. v.items) w.rows-is ∙ w.in_ok-add_client.ensures)
      | in_default w ↦
          ap (λ v. v.items ++ map client_start (drop (c.loop-i.i + 1) items)) w.rows-is
          ∙ walked-past (map client_start) items c.loop-i.i c.loop-i.rows.items
          (map client_start items) (sym c.row.ensures ∙ ap option_copied w.in_default.is)
          c.loop-i.invariant
    ]

pub returns : goal.returns
returns g c = walked-through (map client_start) refl c.args.clients.now c.loop-i.i
    c.len-i-end.result c.loop-i.rows.items (map client_start c.args.clients.now)
    c.len-i-end.ensures.len c.loop-i-test.false c.loop-i.invariant
