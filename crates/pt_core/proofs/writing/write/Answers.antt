use Rattle.std.proofs.Common.{◌≡◌, false, None, refl, sym, ap, ◌∙◌, subst}
use Rattle.std.specs.Prelude.{IsOk}
use Rattle.pt_model.specs.Histories.{History}
use Rattle.pt_model.specs.Room.{entry_for, refusal}
use Rattle.pt_machine.specs.Memory.{needs_memory}
use Rattle.pt_machine.specs.Plans.{IsPlanned}
use Rattle.pt_history.specs.Stored.{stored_history}
use Rattle.pt_history.proofs.Places.{place_of_next}
use Rattle.pt_legal.specs.Applying.{KeepsOutcome}
use Rattle.pt_core.specs.Stores.{store_view}
use Rattle.pt_core.proofs.AcceptingLemmas.{same-past}
use Rattle.pt_core.proofs.WritingLemmas.{alone-at, entered-some, entered-written}
use Rattle.pt_core.proofs.OpenLemmas.{memory-open, open-made, open-within}
use Rattle.pt_core.proofs.ValidStateLemmas.{whole-entered, whole-stays}
use Rattle.pt_core.proofs.writing.write.Goals as goal

-- only room was made, so the plan is still right
pub enter-requires : goal.enter-requires
enter-requires g c =
    let makes_room = c.in_default.ensures.ok.makes_room in
    let same = same-past c.args.body.now.stored c.make_room.new.body.stored makes_room.same_start
    makes_room.same_entries in
    record {
      «open» = open-made c.args.body.now c.make_room.new.body c.args.event.now
          c.in_default.ensures.ok;
      accepted = ap (λ h. refusal h c.args.event.now) same ∙ c.requires.accepted;
      planned = subst (λ (h : History). IsPlanned h c.args.event.now c.args.plan.now) (sym same)
          c.requires.planned;
    }

-- a call that was answered as it came still has its answer
pub outcome_by_answer-outcome-requires-clause-still :
    goal.outcome_by_answer-outcome-requires-clause-still
outcome_by_answer-outcome-requires-clause-still g c =
    let makes_room = c.make_room.new.body.stored in
    subst
    (λ n. KeepsOutcome c.args.event.now c.in-Ok.pushed.answer
    (stored_history c.enter.new.body.stored) n)
    (sym (c.len-first.ensures ∙ sym (place_of_next makes_room))) c.in-Ok.ensures.replies

-- an entry was added
pub outcome_by_answer-outcome-requires-clause-some :
    goal.outcome_by_answer-outcome-requires-clause-some
outcome_by_answer-outcome-requires-clause-some g c =
    entered-some c.make_room.new.body.stored c.enter.new.body.stored c.args.event.now
    c.in-Ok.ensures.ok _ refl

pub overflow_sub-result : goal.overflow_sub-result
overflow_sub-result g c =
    entered-some c.make_room.new.body.stored c.enter.new.body.stored c.args.event.now
    c.in-Ok.ensures.ok c.len.result c.len.ensures

pub returns-in-Err : goal.returns-in-Err
returns-in-Err g c = record {
  whole = c.make_room.ensures.valid;
  ok = tt;
  unsealed = tt;
  err = c.in-Err.ensures.err;
  unchanged = c.make_room.ensures.unchanged;
  death = λ dies. subst (λ a. IsOk a) c.in-Err.is (c.make_room.ensures.death dies);
  enough = λ there small. subst (λ a. IsOk a) c.in-Err.is (c.make_room.ensures.succeeds_if there);
}

pub returns-in-Err-enter : goal.returns-in-Err-enter
returns-in-Err-enter g c = record {
  whole = whole-stays c.make_room.new.body c.enter.new.body c.in-Err-enter.ensures.unchanged
      c.make_room.ensures.valid;
  ok = tt;
  unsealed = tt;
  err = memory-open c.args.body.now c.make_room.new.body c.args.event.now
      c.in_default.ensures.ok c.requires.accepted c.enter.result c.in-Err-enter.refusal
      c.in-Err-enter.is c.in-Err-enter.ensures.err c.enter.ensures.death;
  unchanged = ap store_view c.in-Err-enter.ensures.unchanged.stored ∙ c.make_room.ensures.unchanged;
  death = λ dies. subst (λ a. IsOk a) c.in-Err-enter.is (c.enter.ensures.death dies);
  enough = λ there small.
      let makes_room = c.in_default.ensures.ok.makes_room in
      subst (λ a. IsOk a) c.in-Err-enter.is (c.enter.ensures.succeeds_if
      (subst (λ (h : History). needs_memory (entry_for h c.args.event.now) ≡ false)
      (sym (same-past c.args.body.now.stored c.make_room.new.body.stored makes_room.same_start
      makes_room.same_entries)) small));
}

pub returns : goal.returns
returns g c =
    let o = c.in_default.ensures.ok in
    record {
      whole = whole-entered c.make_room.new.body c.enter.new.body c.args.event.now o.makes_room.ready
          (ap (λ h. refusal h c.args.event.now)
          (same-past c.args.body.now.stored c.make_room.new.body.stored o.makes_room.same_start
          o.makes_room.same_entries)
          ∙ c.requires.accepted)
          c.in-Ok.ensures.ok c.in-Ok.ensures.room;
      ok = entered-written c.args.body.now.stored c.make_room.new.body.stored
          c.enter.new.body.stored c.args.event.now o.makes_room c.in-Ok.ensures.ok
          (open-within c.args.body.now c.make_room.new.body c.args.event.now o
          c.requires.accepted)
          c.len-first.result c.len.result c.outcome_by_answer-outcome.result None
          c.in-Ok.pushed.rests c.len-first.ensures c.len.ensures
          c.outcome_by_answer-outcome.ensures
          (λ rests. alone-at c.enter.new.body.stored c.args.event.now c.len-first.result
          (c.len-first.ensures ∙ sym (place_of_next c.make_room.new.body.stored))
          c.outcome_by_answer-outcome.result c.outcome_by_answer-outcome.ensures
          (c.in-Ok.ensures.answers_only_caller rests));
      unsealed = refl;
      err = tt;
      unchanged = tt;
      death = λ dies. refl;
      enough = λ there small. refl;
    }
