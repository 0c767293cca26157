use Rattle.std.proofs.Common.{ℕ, sym, ◌∙◌, subst}
use Rattle.pt_history.proofs.Places.{place_of_next}
use Rattle.pt_records.specs.declared.objects.Object.{Object}
use Rattle.pt_records.specs.Objects.{Rising}
use Rattle.pt_records.specs.Writes.{AddsObject, new_object}
use Rattle.pt_state.proofs.CallObjects.{make-new, make-room, make-nearly}
use Rattle.pt_state.proofs.Handing.{stays-objects}
use Rattle.pt_state.proofs.state.State.push_created.Goals as goal

pub add-requires-clause-new : goal.add-requires-clause-new
add-requires-clause-new g c =
    make-new c.args.self.now c.args.c c.args.call.now c.requires.has_room c.args.n.now c.args.kind
    c.requires.operation c.len-place.result
    (c.len-place.ensures ∙ sym (place_of_next c.args.self.now.stored))

pub add-requires-clause-room : goal.add-requires-clause-room
add-requires-clause-room g c =
    make-room c.args.self.now c.args.c c.args.call.now c.requires.has_room c.args.n.now c.args.kind
    c.requires.operation

pub add-requires-clause-rising : goal.add-requires-clause-rising
add-requires-clause-rising g c =
    subst (λ (k : ℕ). Rising c.args.self.now.objects k)
    (place_of_next c.args.self.now.stored ∙ sym c.len-place.ensures)
    c.requires.has_room.read.object_rows.rising

pub finish_long-requires : goal.finish_long-requires
finish_long-requires g c =
    let place_is = c.len-place.ensures ∙ sym (place_of_next c.args.self.now.stored) in
    make-nearly c.args.self.now c.args.c c.args.call.now c.requires.has_room c.args.n.now
    c.args.kind
    c.requires.operation c.add.new.objects
    (subst (λ (k : ℕ). AddsObject c.args.self.now.objects c.add.new.objects k c.args.n.now
    (new_object c.args.kind)) place_is
    (subst (λ (x : Object g.row.A.Denot). AddsObject c.args.self.now.objects c.add.new.objects
    c.len-place.result c.args.n.now x) c.make.ensures c.in-Ok.ensures.ok))

pub returns-in-Err-clause-unchanged : goal.returns-in-Err-clause-unchanged
returns-in-Err-clause-unchanged g c =
    stays-objects c.args.self.now c.add.new.objects c.requires.has_room.read c.in-Err.ensures.unchanged

pub returns-in-Err-clause-err : goal.returns-in-Err-clause-err
returns-in-Err-clause-err g c = c.in-Err.ensures.err

pub returns-in-Ok-clause-ok : goal.returns-in-Ok-clause-ok
returns-in-Ok-clause-ok g c =
    let a = c.finish_long.ensures in
    record { stored = a.stored; read = a.read; has_capacity = a.has_capacity; replies = a.replies }
