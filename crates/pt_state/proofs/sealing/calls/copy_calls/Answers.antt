use Rattle.std.proofs.Common.{◌+◌, ◌++◌, drop, map, ap, sym, ◌∙◌, refl}
use Rattle.std.specs.Prelude.{option_to_list, option_copied}
use Rattle.pt_records.specs.Callers.{opens_of}
use Rattle.pt_state.specs.Copies.{call_start}
use Rattle.pt_state.proofs.Walks.{cons-listed, walked-on, walked-past, walked-through}
use Rattle.pt_state.proofs.sealing.calls.copy_calls.Goals.{in-Some+in_ok-add_call, in_default}
use Rattle.pt_state.proofs.sealing.calls.copy_calls.Goals as goal

pub loop-i-preserved : goal.loop-i-preserved
loop-i-preserved g c =
    let clients = c.args.clients.now in
    let all = map call_start (opens_of clients) in
    elim c.match-row.branch [
      | in-Some+in_ok-add_call w ↦
          walked-on (λ rows. map call_start (opens_of rows))
          (λ row. map call_start (option_to_list row.value.open))
          (λ row rows. cons-listed call_start row.value.open (opens_of rows)) clients c.loop-i.i
          w.in-Some.row.now c.loop-i.rows.items c.match-row.rows.items all
          (sym c.row.ensures ∙ ap option_copied w.in-Some.is) c.loop-i.invariant
          (ap (λ v. v.items) w.rows-is ∙ w.in_ok-add_call.ensures)
      | in_default w ↦
          ap (λ v. v.items ++ map call_start (opens_of (drop (c.loop-i.i + 1) clients))) w.rows-is
          ∙ walked-past (λ rows. map call_start (opens_of rows)) clients c.loop-i.i
          c.loop-i.rows.items all (sym c.row.ensures ∙ ap option_copied w.in_default.is)
          c.loop-i.invariant
    ]

pub returns : goal.returns
returns g c =
    walked-through (λ rows. map call_start (opens_of rows)) refl c.args.clients.now c.loop-i.i
    c.len-i-end.result c.loop-i.rows.items (map call_start (opens_of c.args.clients.now))
    c.len-i-end.ensures.len c.loop-i-test.false c.loop-i.invariant
