use Rattle.std.proofs.Common.{refl, sym, ap, ◌∙◌}
use Rattle.pt_model.specs.Forced.{forced}
use Rattle.pt_model.specs.Room.{entry_for}
use Rattle.pt_model.specs.Histories.{place}
use Rattle.pt_history.proofs.Places.{place_of_next}
use Rattle.pt_state.specs.Adds.{history_of}
use Rattle.pt_machine.proofs.SettledCallLemmas.{rests-planned}
use Rattle.pt_core.proofs.CallerOnlyEntries.{alone-entry}
use Rattle.pt_core.proofs.AnswersStay.{entry_replies-still}
use Rattle.pt_core.proofs.ValidStateLemmas.{ready-outer, begins-outer, history_of-added}
use Rattle.pt_core.proofs.settling.push_entry.Goals as goal

pub push_outer-requires-clause-has_room : goal.push_outer-requires-clause-has_room
push_outer-requires-clause-has_room g c =
    ready-outer c.args.body.now c.args.event.now c.requires.open c.requires.accepted

pub returns : goal.returns
returns g c =
    let s = c.args.body.now in
    let e = entry_for (history_of s) c.args.event.now in
    let ready = ready-outer s c.args.event.now c.requires.open c.requires.accepted in
    let adds = c.in_ok-push_outer.ensures.ok in
    let begins = begins-outer s c.args.event.now c.requires.open c.requires.accepted
    c.push_outer.new.self adds in
    record {
      ok = begins;
      replies = λ u st. entry_replies-still s.stored u c.args.event.now c.requires.open.makes_room.ready
          c.requires.accepted (begins.enters u st) c.args.plan.now.answer (place (history_of s))
          c.requires.planned.enters (place_of_next s.stored);
      rests = λ rests. ap forced (history_of-added s c.push_outer.new.self e adds)
          ∙ rests-planned (history_of s) c.args.event.now c.args.plan.now ready.read.follows
          ready.step
          c.requires.planned (sym c.is_settled_after-rests.ensures ∙ rests);
      only_caller = λ rests. alone-entry s c.push_outer.new.self c.args.event.now ready.read.follows
          adds;
      err = tt;
      reason = tt;
      enough = λ small. refl;
    }
