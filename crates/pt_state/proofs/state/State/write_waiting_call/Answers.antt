use Rattle.std.proofs.Common.{None, Some, refl, sym, ◌∙◌, subst, append-nil, arith}
use Rattle.pt_model.specs.declared.entry.Entry.TheVariants as entry
use Rattle.pt_state.specs.Adds.{history_of}
use Rattle.pt_records.specs.Callers.{caller_after_call}
use Rattle.pt_records.specs.Writes.{WritesCaller}
use Rattle.pt_records.specs.Logs.{log}
use Rattle.pt_records.proofs.CallerWrites.{client-there}
use Rattle.pt_records.proofs.Chaining.{chained-caller}
use Rattle.pt_state.proofs.AddLemmas.{adds}
use Rattle.pt_state.proofs.state.State.write_waiting_call.Goals as goal
use Rattle.pt_history.proofs.Places.{place_of_next}

pub open_waiting_call-requires : goal.open_waiting_call-requires
open_waiting_call-requires g c =
    client-there c.args.self.now.clients c.args.c c.requires.there.0 c.requires.there.1

pub returns : goal.returns
returns g c =
    let e = entry.Call c.args.c c.args.call.now None in
    let place_is = c.len-place.ensures ∙ sym (place_of_next c.args.self.now.stored) in
    adds c.args.self.now e (c.requires.follows, c.requires.step) _
    c.push_entry.ensures
    (c.requires.callers c.open_waiting_call.new.clients c.requires.there.0 c.requires.there.1
    (subst (λ k. WritesCaller c.args.self.now.clients c.open_waiting_call.new.clients c.args.c
    (record (caller_after_call k None c.requires.there.0) { «open» = Some c.args.open })) place_is
    (c.open_waiting_call.ensures c.requires.there.0 c.requires.there.1)))
    c.requires.objects
    (chained-caller c.args.self.now.clients c.open_waiting_call.new.clients c.args.self.now.objects
    c.args.self.now.orphans c.requires.chained c.args.c c.requires.there.0
    (record (caller_after_call c.len-place.result None c.requires.there.0) {
      «open» = Some
          c.args.open;
    })
    c.requires.there.1 (c.open_waiting_call.ensures c.requires.there.0 c.requires.there.1) refl)
    c.requires.clocks
    (c.requires.answers ∙ sym (append-nil (log (history_of c.args.self.now))))
    refl (omega arith)
