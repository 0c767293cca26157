use Rattle.std.proofs.Common.{Some, refl, sym, ap, ◌∙◌, subst, arith, length, length-append}
use Rattle.pt_model.specs.declared.entry.Entry.TheVariants as entry
use Rattle.pt_state.specs.Adds.{history_of}
use Rattle.pt_records.specs.Callers.{caller_after_call}
use Rattle.pt_records.specs.Writes.{WritesCaller}
use Rattle.pt_records.proofs.CallerWrites.{client-there}
use Rattle.pt_records.proofs.Chaining.{chained-caller}
use Rattle.pt_state.proofs.AddLemmas.{adds, log_entry-one}
use Rattle.pt_state.proofs.state.State.finish_long.Goals as goal
use Rattle.pt_history.proofs.Places.{place_of_next}

pub note_call-requires : goal.note_call-requires
note_call-requires g c =
    client-there c.args.self.now.clients c.args.c c.requires.there.0 c.requires.there.1

pub push-requires : goal.push-requires
push-requires g c = omega (arith, c.requires.spare)

pub returns : goal.returns
returns g c =
    let e = entry.Call c.args.c c.args.call.now (Some c.args.outcome) in
    let place_is = c.len-place.ensures ∙ sym (place_of_next c.args.self.now.stored) in
    adds c.args.self.now e (c.requires.follows, c.requires.step) _
    c.push_call.ensures
    (c.requires.callers c.note_call.new.clients c.requires.there.0 c.requires.there.1
    (subst (λ k. WritesCaller c.args.self.now.clients c.note_call.new.clients c.args.c
    (caller_after_call k
    (Some c.args.outcome) c.requires.there.0)) place_is
    (c.note_call.ensures c.requires.there.0 c.requires.there.1)))
    c.requires.objects
    (chained-caller c.args.self.now.clients c.note_call.new.clients c.args.self.now.objects
    c.args.self.now.orphans c.requires.chained c.args.c c.requires.there.0 (caller_after_call
    c.len-place.result (Some c.args.outcome) c.requires.there.0) c.requires.there.1
    (c.note_call.ensures c.requires.there.0 c.requires.there.1) refl)
    c.requires.clocks
    (log_entry-one c.args.self.now.answers.items c.push.new.self.items _ (history_of
    c.args.self.now) c.args.c c.args.outcome place_is c.push.ensures.items
    c.requires.answers)
    c.push.ensures.capacity
    (ap length c.push.ensures.items ∙ length-append c.args.self.now.answers.items _)
