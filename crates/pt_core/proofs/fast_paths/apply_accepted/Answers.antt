use Rattle.std.proofs.Common.{true, false, Some, None, refl, sym, ap, ◌∙◌}
use Rattle.std.proofs.lemmas.Bool.{false≢true}
use Rattle.pt_legal.specs.Applying.{is_death}
use Rattle.pt_history.proofs.Places.{place_of_next}
use Rattle.pt_core.proofs.ApplyingLemmas.{applied-at, refused-unsealed, wrote-some}
use Rattle.pt_core.proofs.fast_paths.apply_accepted.Goals as goal

pub applied-requires : goal.applied-requires
applied-requires g c =
    wrote-some c.args.body.now c.args.event.now c.try_by_kind.new.body (Some c.in-OnlyCaller.outcome)
    true c.in-OnlyCaller.ensures

pub applied-requires-in-Answered : goal.applied-requires-in-Answered
applied-requires-in-Answered g c =
    wrote-some c.args.body.now c.args.event.now c.try_by_kind.new.body
    (Some c.in-Answered.outcome) false c.in-Answered.ensures

pub applied-requires-in-Unanswered : goal.applied-requires-in-Unanswered
applied-requires-in-Unanswered g c =
    wrote-some c.args.body.now c.args.event.now c.try_by_kind.new.body None false
    c.in-Unanswered.ensures

pub returns-in-OnlyCaller : goal.returns-in-OnlyCaller
returns-in-OnlyCaller g c =
    let old = c.args.body.now in
    let new = c.try_by_kind.new.body in
    record {
      whole = c.in-OnlyCaller.ensures.whole;
      ok = applied-at old c.args.event.now new (Some c.in-OnlyCaller.outcome) true c.in-OnlyCaller.ensures
          c.len-first.result (c.len-first.ensures ∙ sym (place_of_next old.stored))
          c.applied.result c.applied.ensures.first
          (c.applied.ensures.last ∙ sym (place_of_next new.stored))
          c.applied.ensures.outcome c.applied.ensures.unsealed
          c.applied.ensures.answers_only_caller;
      err = tt;
      unchanged = tt;
      death = λ d is alive. refl;
      unsealed = λ d is. c.applied.ensures.unsealed;
    }

pub returns-in-Answered : goal.returns-in-Answered
returns-in-Answered g c =
    let old = c.args.body.now in
    let new = c.try_by_kind.new.body in
    record {
      whole = c.in-Answered.ensures.whole;
      ok = applied-at old c.args.event.now new (Some c.in-Answered.outcome) false
          c.in-Answered.ensures c.len-first.result
          (c.len-first.ensures ∙ sym (place_of_next old.stored))
          c.applied-in-Answered.result c.applied-in-Answered.ensures.first
          (c.applied-in-Answered.ensures.last ∙ sym (place_of_next new.stored))
          c.applied-in-Answered.ensures.outcome c.applied-in-Answered.ensures.unsealed
          c.applied-in-Answered.ensures.answers_only_caller;
      err = tt;
      unchanged = tt;
      death = λ d is alive. refl;
      unsealed = λ d is. c.applied-in-Answered.ensures.unsealed;
    }

pub returns-in-Unanswered : goal.returns-in-Unanswered
returns-in-Unanswered g c =
    let old = c.args.body.now in
    let new = c.try_by_kind.new.body in
    record {
      whole = c.in-Unanswered.ensures.whole;
      ok = applied-at old c.args.event.now new None false c.in-Unanswered.ensures
          c.len-first.result (c.len-first.ensures ∙ sym (place_of_next old.stored))
          c.applied-in-Unanswered.result c.applied-in-Unanswered.ensures.first
          (c.applied-in-Unanswered.ensures.last ∙ sym (place_of_next new.stored))
          c.applied-in-Unanswered.ensures.outcome c.applied-in-Unanswered.ensures.unsealed
          c.applied-in-Unanswered.ensures.answers_only_caller;
      err = tt;
      unchanged = tt;
      death = λ d is alive. refl;
      unsealed = λ d is. c.applied-in-Unanswered.ensures.unsealed;
    }

pub returns-in-Refused : goal.returns-in-Refused
returns-in-Refused g c =
    record {
      whole = c.in-Refused.ensures.whole;
      ok = tt;
      err = refused-unsealed c.args.body.now.stored c.args.event.now c.in-Refused.ensures.unsealed
          c.in-Refused.refusal c.in-Refused.ensures.why;
      unchanged = c.in-Refused.ensures.unchanged;
      death = λ d is alive.
          absurd (false≢true (sym c.in-Refused.ensures.other ∙ ap is_death is));
      unsealed = λ d is. tt;
    }
