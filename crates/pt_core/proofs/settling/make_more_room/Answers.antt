use Rattle.std.proofs.Common.{◌≡◌, ◌+◌, length, sym, ap, ◌∙◌, subst, arith}
use Rattle.std.specs.Prelude.{Result, Ok, Err, IfErr, OnOk}
use Rattle.pt_types.specs.declared.outcome.Refusal.{Refusal}
use Rattle.pt_types.specs.declared.outcome.Refusal.TheVariants.{Enomem}
use Rattle.pt_core.specs.Stores.{store_core, store_view}
use Rattle.pt_legal.specs.Applying.{IsRefusalWithoutSeal}
use Rattle.pt_core.specs.ValidStates.{IsValidState}
use Rattle.pt_core.proofs.OpenLemmas.{refused-room, memory-room, made-within}
use Rattle.pt_core.proofs.OpenLemmas.{whole-made, room-made}
use Rattle.pt_core.proofs.settling.make_more_room.Goals as goal

pub returns-in-Err-clause-err : goal.returns-in-Err-clause-err
returns-in-Err-clause-err g c =
    let s = c.args.body.now in
    let makes_room = c.room_to_make-room.ensures in
    subst (λ a. IfErr a (IsRefusalWithoutSeal (store_core s.stored) c.args.event.now)) c.in-Err.is
    (refused-room s.stored c.args.event.now c.room_to_make-room.result c.reserve_for.result
    c.requires.accepted c.requires.lives (omega (arith, makes_room.covers, c.requires.need))
    (λ fits. makes_room.within (omega (arith, fits, c.requires.need)))
    c.reserve_for.ensures.full c.reserve_for.ensures.err)

wants_memory : {X : Type 0} (P : Refusal → Type 0) (answer : Result X Refusal)
    → IfErr answer (λ refusal. refusal ≡ Enomem) → P Enomem → IfErr answer P
wants_memory P (Ok x) e p = tt
wants_memory P (Err x) e p = subst P (sym e) p

pub returns-clause-err : goal.returns-clause-err
returns-clause-err g c =
    let s = c.args.body.now in
    wants_memory (IsRefusalWithoutSeal
    (store_core s.stored) c.args.event.now) c.reserve_answers.result
    c.reserve_answers.ensures.err
    (memory-room s.stored c.args.event.now c.room_to_make-room.result c.reserve_for.result
    c.in_default.field-0 c.requires.accepted c.requires.lives
    (omega (arith, c.room_to_make-room.ensures.covers, c.requires.need))
    c.reserve_for.ensures.full c.in_default.is)

pub returns-in-Err-clause-valid : goal.returns-in-Err-clause-valid
returns-in-Err-clause-valid g c = subst IsValidState (sym c.in-Err.ensures.unchanged) c.requires.valid

pub returns-in-Err-clause-unchanged : goal.returns-in-Err-clause-unchanged
returns-in-Err-clause-unchanged g c = ap (λ s. store_view s.stored) c.in-Err.ensures.unchanged

pub returns-clause-unchanged : goal.returns-clause-unchanged
returns-clause-unchanged g c =
    ap (λ s. store_view s.stored) c.reserve_answers.ensures.unchanged
    ∙ ap (λ s. store_view s.stored) c.in_default.ensures.ok

pub returns-clause-valid : goal.returns-clause-valid
returns-clause-valid g c =
    let s = c.args.body.now in
    let n = c.room_to_make-room.result in
    let makes_room = c.room_to_make-room.ensures in
    let more = c.reserve_answers.ensures in
    whole-made s c.reserve_for.new.self c.reserve_answers.new.self c.args.event.now n
    c.requires.valid (omega (arith, makes_room.covers, c.requires.need)) makes_room.more
    (made-within s.stored.limit (length s.stored.entries + n) c.reserve_for.result
    c.in_default.field-0 c.reserve_for.ensures.full c.in_default.is)
    c.in_default.ensures.ok more.unchanged more.replies more.capacity

on_ok : {X : Type 0} {P Q : Type 0} (answer : Result X Refusal) → (P → Q) → OnOk answer P
    → OnOk answer Q
on_ok (Ok x) f p = f p
on_ok (Err x) f p = tt

pub returns-clause-ok : goal.returns-clause-ok
returns-clause-ok g c =
    let s = c.args.body.now in
    let n = c.room_to_make-room.result in
    let makes_room = c.room_to_make-room.ensures in
    let more = c.reserve_answers.ensures in
    on_ok c.reserve_answers.result
    (room-made s c.reserve_for.new.self c.reserve_answers.new.self c.args.event.now n
    c.requires.valid (omega (arith, makes_room.covers, c.requires.need)) makes_room.more
    (made-within s.stored.limit (length s.stored.entries + n) c.reserve_for.result
    c.in_default.field-0 c.reserve_for.ensures.full c.in_default.is)
    c.in_default.ensures.ok more.unchanged more.replies)
    more.ok
