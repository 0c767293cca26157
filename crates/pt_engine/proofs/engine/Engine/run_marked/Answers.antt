use Rattle.std.proofs.Common.{refl, sym, ap, subst, ◌<◌, ◌∙◌}
use Rattle.pt_legal.specs.Cores.{core_state}
use Rattle.pt_engine.specs.Engines.{StoresPendingLine, as_script, EngineView}
use Rattle.pt_engine.proofs.Accepted.{accepted, refused}
use Rattle.pt_engine.proofs.CallerOnly.{answers_alone, answers_only}
use Rattle.pt_engine.proofs.PendingLineLemmas.{kept_lines, told_alike}
use Rattle.pt_engine.specs.Scripts.{lines_of_who, number_of_who}
use Rattle.pt_engine.proofs.Stays.{stays_sound}
use Rattle.pt_engine.proofs.engine.Engine.run_marked.Goals as goal

pub invariant_of-self-in_err-note-in-Ok : goal.invariant_of-self-in_err-note-in-Ok
invariant_of-self-in_err-note-in-Ok g c =
    kept_lines (core_state (g.C.LegalHistory.seen c.self.inside.core)) _ c.args.event.now
    c.in-Ok.done c.self.invariant.0 c.in-Ok.ensures.ok c.self.inside.pending.entries
    c.note.new.pending.entries c.self.inside.calls.items c.note.new.calls.items
    c.args.line.now c.args.mark.now c.self.invariant.1 c.requires.mark
    (subst
    (λ rows. StoresPendingLine c.in-Ok.done.outcome c.args.mark.now c.args.line.now rows
    c.note.new.pending.entries)
    c.reserve.ensures.entries c.note.ensures.pending)
    c.note.ensures.calls

pub invariant_of-self-in_err-greet-in-Ok : goal.invariant_of-self-in_err-greet-in-Ok
invariant_of-self-in_err-greet-in-Ok g c =
    kept_lines (core_state (g.C.LegalHistory.seen c.self.inside.core)) _ c.args.event.now
    c.in-Ok.done c.self.invariant.0 c.in-Ok.ensures.ok c.self.inside.pending.entries
    c.note.new.pending.entries c.self.inside.calls.items c.note.new.calls.items
    c.args.line.now c.args.mark.now c.self.invariant.1 c.requires.mark
    (subst
    (λ rows. StoresPendingLine c.in-Ok.done.outcome c.args.mark.now c.args.line.now rows
    c.note.new.pending.entries)
    c.reserve.ensures.entries c.note.ensures.pending)
    c.note.ensures.calls

pub invariant_of-self-in_err-write_replies_from-in-Ok :
    goal.invariant_of-self-in_err-write_replies_from-in-Ok
invariant_of-self-in_err-write_replies_from-in-Ok g c =
    kept_lines (core_state (g.C.LegalHistory.seen c.self.inside.core)) _ c.args.event.now
    c.in-Ok.done c.self.invariant.0 c.in-Ok.ensures.ok c.self.inside.pending.entries
    c.note.new.pending.entries c.self.inside.calls.items c.note.new.calls.items
    c.args.line.now c.args.mark.now c.self.invariant.1 c.requires.mark
    (subst
    (λ rows. StoresPendingLine c.in-Ok.done.outcome c.args.mark.now c.args.line.now rows
    c.note.new.pending.entries)
    c.reserve.ensures.entries c.note.ensures.pending)
    c.note.ensures.calls

pub invariant_of-self-in-Ok : goal.invariant_of-self-in-Ok
invariant_of-self-in-Ok g c =
    kept_lines (core_state (g.C.LegalHistory.seen c.self.inside.core)) _ c.args.event.now
    c.in-Ok.done c.self.invariant.0 c.in-Ok.ensures.ok c.self.inside.pending.entries
    c.note.new.pending.entries c.self.inside.calls.items c.note.new.calls.items
    c.args.line.now c.args.mark.now c.self.invariant.1 c.requires.mark
    (subst
    (λ rows. StoresPendingLine c.in-Ok.done.outcome c.args.mark.now c.args.line.now rows
    c.note.new.pending.entries)
    c.reserve.ensures.entries c.note.ensures.pending)
    c.note.ensures.calls

pub write_replies_from-requires : goal.write_replies_from-requires
write_replies_from-requires g c = record {
  only = λ same.
      answers_only (core_state (g.C.LegalHistory.seen c.self.inside.core)) _ c.args.event.now
      c.in-Ok.done c.args.mark.now c.in-Ok.ensures.ok c.requires.mark same;
  only_entry = λ same.
      answers_alone (core_state (g.C.LegalHistory.seen c.self.inside.core)) _ c.args.event.now
      c.in-Ok.done c.args.mark.now c.self.invariant.0 c.in-Ok.ensures.ok c.requires.mark same;
}

pub returns-in_ok-write_replies_from-in-Ok-clause-ok :
    goal.returns-in_ok-write_replies_from-in-Ok-clause-ok
returns-in_ok-write_replies_from-in-Ok-clause-ok g c =
    let sets =
    subst
    (λ rows. StoresPendingLine c.in-Ok.done.outcome c.args.mark.now c.args.line.now rows
    c.note.new.pending.entries)
    c.reserve.ensures.entries c.note.ensures.pending in
    accepted (as_script c.args.self.now) (core_state (g.C.LegalHistory.seen c.self.inside.core))
    _ c.self.inside.names
    c.note.new.names c.self.inside.calls.items c.note.new.calls.items c.args.event.now
    c.args.line.now c.in-Ok.done c.args.mark.now c.args.out.now.items
    c.greet.new.out.items c.write_replies_from.new.out.items (ap as_script (sym c.self.view_is))
    c.self.invariant.0.limit
    c.requires.mark c.in-Ok.ensures.ok c.in_ok-note-in-Ok.ensures.names c.note.ensures.calls
    c.in_ok-greet-in-Ok.ensures.ok
    (told_alike (core_state (g.C.LegalHistory.seen c.self.inside.core)) _ c.args.event.now
    c.in-Ok.done
    c.self.invariant.0 c.in-Ok.ensures.ok c.self.inside.pending.entries
    c.note.new.pending.entries c.self.inside.calls.items c.note.new.calls.items
    c.args.line.now c.args.mark.now c.self.invariant.1 c.requires.mark
    sets c.note.ensures.calls c.greet.new.out.items c.write_replies_from.new.out.items
    c.in_ok-write_replies_from-in-Ok.ensures.ok)

pub returns-in_ok-refuse-in-Err-clause-ok : goal.returns-in_ok-refuse-in-Err-clause-ok
returns-in_ok-refuse-in-Err-clause-ok g c =
    refused (as_script c.args.self.now) (core_state (g.C.LegalHistory.seen c.self.inside.core))
    _ c.self.inside.names
    c.self.inside.calls.items c.self.inside.calls.items c.args.event.now c.args.line.now
    c.in-Err.refusal c.args.out.now.items c.refuse.new.out.items (ap as_script (sym c.self.view_is))
    c.self.invariant.0.limit (ap core_state c.in-Err.ensures.unchanged) refl c.in-Err.ensures.err
    c.in_ok-refuse-in-Err.ensures.ok

pub invariant_of-self : goal.invariant_of-self
invariant_of-self g c =
    stays_sound (g.C.LegalHistory.seen c.self.inside.core)
    (g.C.LegalHistory.seen c.self.inside.core) c.self.inside.pending.entries
    c.reserve.new.self.entries c.self.inside.calls.items refl c.reserve.ensures.entries
    c.self.invariant

pub invariant_of-self-in-Err : goal.invariant_of-self-in-Err
invariant_of-self-in-Err g c =
    stays_sound _ _ c.self.inside.pending.entries
    c.reserve.new.self.entries c.self.inside.calls.items c.in-Err.ensures.unchanged
    c.reserve.ensures.entries c.self.invariant

pub invariant_of-self-in_err-refuse-in-Err : goal.invariant_of-self-in_err-refuse-in-Err
invariant_of-self-in_err-refuse-in-Err g c =
    stays_sound _ _ c.self.inside.pending.entries
    c.reserve.new.self.entries c.self.inside.calls.items c.in-Err.ensures.unchanged
    c.reserve.ensures.entries c.self.invariant

pub note-requires-clause-room : goal.note-requires-clause-room
note-requires-clause-room g c = c.in_ok-reserve.ensures.room

pub note-requires-clause-counted : goal.note-requires-clause-counted
note-requires-clause-counted g c =
    subst (λ (h : EngineView). 0 < lines_of_who h.seen c.args.line.now.who) (sym c.self.view_is)
    c.requires.counted

pub note-requires-clause-first : goal.note-requires-clause-first
note-requires-clause-first g c = λ is.
    ap (λ (h : EngineView). number_of_who h.clients c.args.line.now.who) c.self.view_is
    ∙ c.requires.first is
