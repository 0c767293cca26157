use Rattle.std.proofs.Common.{◌≡◌, ℕ, ◌+◌, ◌-◌, ◌≤◌, arith, sym, ap, ◌∙◌, subst}
use Rattle.pt_model.specs.declared.entry.Entry.{Entry}
use Rattle.pt_model.specs.Room.{need}
use Rattle.pt_model.specs.Steps.{Step}
use Rattle.pt_next_grant.specs.Touched.{service_object_by}
use Rattle.pt_state.specs.Adds.{history_of}
use Rattle.pt_state.specs.Needed.{added_by, unreserved_by}
use Rattle.pt_machine.proofs.NeedLimits.{need-most}
use Rattle.pt_machine.proofs.NeedSteps.{need-event}
use Rattle.pt_machine.proofs.machine.Machine.plan.Goals as goal

-- the need after an entry, by what it adds and uses
needs-next : (now before added used a u next : ℕ) → now ≡ before → added ≡ a → used ≡ u
    → next + u ≡ before + a → now + added - used ≡ next
needs-next now before added used a u next same adds uses step = omega arith

-- it uses no more than is reserved
uses-less : (now before added used a u next : ℕ) → now ≡ before → added ≡ a → used ≡ u
    → next + u ≡ before + a → used ≤ now + added
uses-less now before added used a u next same adds uses step = omega arith

-- and the need stays within its limit
needs-few : (now before added used : ℕ) → now ≡ before → before ≤ 8192 → added ≤ 3
    → now + added - used ≤ 8195
needs-few now before added used same most small = omega arith

pub change_by-change-requires-clause-step : goal.change_by-change-requires-clause-step
change_by-change-requires-clause-step g c =
    let h = history_of c.args.self.now in
    subst (λ (e : Entry). Step h e) (sym c.answer_at_once-answer.ensures) c.requires.step

pub overflow_add-result : goal.overflow_add-result
overflow_add-result g c =
    let s = c.args.self.now in
    let before : c.self.inside.need ≡ need (history_of s) =
    c.self.invariant.3.needs ∙ ap (λ s. need (history_of s)) c.self.view_is in
    omega (arith, before, need-most s c.requires.tables, c.change_by-change.ensures.within)

pub overflow_sub-result : goal.overflow_sub-result
overflow_sub-result g c =
    let h = history_of c.args.self.now in
    let enters = c.answer_at_once-answer.ensures in
    let before : c.self.inside.need ≡ need h =
    c.self.invariant.3.needs ∙ ap (λ s. need (history_of s)) c.self.view_is in
    uses-less _ _ _ _ _ _ _ before (c.change_by-change.ensures.adds ∙ ap added_by enters)
    (c.change_by-change.ensures.uses ∙ ap (unreserved_by h) enters)
    (need-event h c.args.event.now c.requires.tables.follows c.requires.step)

pub returns : goal.returns
returns g c = record {
  planned = let h = history_of c.args.self.now in
      let enters = c.answer_at_once-answer.ensures in
      let before : c.self.inside.need ≡ need h =
      c.self.invariant.3.needs ∙ ap (λ s. need (history_of s)) c.self.view_is in
      record {
        has_request = c.request-request.ensures;
        enters = enters;
        needs = needs-next _ _ _ _ _ _ _ before
            (c.change_by-change.ensures.adds ∙ ap added_by enters)
            (c.change_by-change.ensures.uses ∙ ap (unreserved_by h) enters)
            (need-event h c.args.event.now c.requires.tables.follows c.requires.step);
        touches = c.change_by-change.ensures.touches ∙ ap (service_object_by h) enters;
        at_once = c.is_at_once.ensures.granted;
        unopposed = c.is_at_once.ensures.unopposed;
      };
  within = let s = c.args.self.now in
      let before : c.self.inside.need ≡ need (history_of s) =
      c.self.invariant.3.needs ∙ ap (λ s. need (history_of s)) c.self.view_is in
      needs-few _ _ _ _ before (need-most s c.requires.tables) c.change_by-change.ensures.within;
}
