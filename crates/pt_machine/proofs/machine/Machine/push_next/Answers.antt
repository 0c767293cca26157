use Rattle.std.proofs.Common.{◌≡◌, ℕ, Option, Some, None, filter, sym, ap}
use Rattle.std.proofs.Common.{refl, ◌∙◌, subst}
use Rattle.std.specs.Option.{option_or}
use Rattle.pt_model.specs.Answers.{open_calls}
use Rattle.pt_model.specs.declared.entry.Entry.TheVariants.{Expire, Yield}
use Rattle.pt_model.specs.Forced.{forced_expire, forced_yield, is_orphan, service, service_if}
use Rattle.pt_model.specs.Forced.{expire_if, forced, can_be_served, is_served_before, yield_if}
use Rattle.pt_model.specs.Histories.{History, place}
use Rattle.pt_model.specs.declared.waiting_call.WaitingCall.{WaitingCall}
use Rattle.pt_model.specs.Searches.{first_below, least}
use Rattle.pt_state.specs.Adds.{history_of}
use Rattle.pt_machine.specs.Services.{IsService}
use Rattle.pt_machine.specs.CallDeadlines.{IsFirstOverdue}
use Rattle.pt_machine.proofs.OpenPlaces.{place-in}
use Rattle.std.proofs.lemmas.Bool.{false≢true}
use Rattle.pt_machine.proofs.machine.Machine.push_next.Goals as goal

-- if no call is to be served and no mutex is to be taken from a dead owner, the call whose deadline
-- passed first must expire
late-next : (h : History) (p : ℕ)
    → ◌≡◌ {A = Option WaitingCall} None
    (least (is_served_before h) (filter (can_be_served h) (open_calls h)))
    → ◌≡◌ {A = Option ℕ} None (first_below (place h) (is_orphan h)) → IsFirstOverdue h (Some p)
    → forced h ≡ Some (Expire p)
late-next h p none orphan due =
    ap (λ x. option_or (service_if h x) (option_or (forced_yield h) (forced_expire h))) (sym none)
    ∙ (ap (λ y. option_or (yield_if y) (forced_expire h)) (sym orphan)
    ∙ (ap expire_if due.1 ∙ ap (λ j. Some (Expire j)) (place-in p (open_calls h) due.0 due.2).1))

-- and if no deadline has passed either, nothing must follow
none-next : (h : History)
    → ◌≡◌ {A = Option WaitingCall} None
    (least (is_served_before h) (filter (can_be_served h) (open_calls h)))
    → ◌≡◌ {A = Option ℕ} None (first_below (place h) (is_orphan h)) → IsFirstOverdue h None
    → forced h ≡ None
none-next h none orphan due =
    ap (λ x. option_or (service_if h x) (option_or (forced_yield h) (forced_expire h))) (sym none)
    ∙ (ap (λ y. option_or (yield_if y) (forced_expire h)) (sym orphan) ∙ ap expire_if due)

pub push_first-requires-clause-has_room : goal.push_first-requires-clause-has_room
push_first-requires-clause-has_room g c =
    let h = history_of c.args.self.now in
    let r = subst (IsService h _) c.in-Some.is c.first_service.ensures in (
      r.0,
      (
        r.1.1.0,
        (
          r.1.1.1,
          c.requires.has_room (service h r.0)
              (ap (λ x. option_or (service_if h x) (option_or (forced_yield h) (forced_expire h)))
              r.1.0),
        ),
      ),
    )

pub push_yield-requires : goal.push_yield-requires
push_yield-requires g c =
    let h = history_of c.args.self.now in
    let none = sym (subst (IsService h _) c.in_default.is c.first_service.ensures) in
    let orphan = sym c.in-Some-first_orphan.is
    ∙ subst (λ s. c.first_orphan.result
    ≡ first_below (place (history_of s)) (is_orphan
    (history_of s))) c.self.view_is c.first_orphan.ensures in
    record {
      has_room = c.requires.has_room (Yield c.in-Some-first_orphan.m)
          (ap (λ x. option_or (service_if h x) (option_or (forced_yield h) (forced_expire h)))
          (sym none) ∙ ap (λ y. option_or (yield_if y) (forced_expire h)) (sym orphan));
    }

pub push_overdue-requires-clause-has_room : goal.push_overdue-requires-clause-has_room
push_overdue-requires-clause-has_room g c =
    let h = history_of c.args.self.now in
    let none = sym (subst (IsService h _) c.in_default.is c.first_service.ensures) in
    let orphan = sym c.in_default-first_orphan.is
    ∙ subst (λ s. c.first_orphan.result
    ≡ first_below (place (history_of s)) (is_orphan
    (history_of s))) c.self.view_is c.first_orphan.ensures in
    c.requires.has_room (Expire c.in-Some-first_due.place)
    (late-next h c.in-Some-first_due.place none orphan c.in-Some-first_due.ensures)

pub returns-in-Some : goal.returns-in-Some
returns-in-Some g c = record {
  pushed = λ pushed.
      let h = history_of c.args.self.now in
      let r = subst (IsService h _) c.in-Some.is c.first_service.ensures in (
        service h r.0,
        ap (λ x. option_or (service_if h x) (option_or (forced_yield h) (forced_expire h))) r.1.0,
        c.push_first.ensures r.0 r.1.1.0 r.1.1.1,
      );
  none = λ none. absurd (false≢true (sym none));
}

pub returns-in-Some-first_orphan : goal.returns-in-Some-first_orphan
returns-in-Some-first_orphan g c = record {
  pushed = λ pushed.
      let h = history_of c.args.self.now in
      let none = sym (subst (IsService h _) c.in_default.is c.first_service.ensures) in
      let orphan = sym c.in-Some-first_orphan.is
      ∙ subst (λ s. c.first_orphan.result
      ≡ first_below (place (history_of s)) (is_orphan (history_of s))) c.self.view_is
      c.first_orphan.ensures in (
        Yield c.in-Some-first_orphan.m,
        ap (λ x. option_or (service_if h x) (option_or (forced_yield h) (forced_expire h)))
            (sym none)
            ∙ ap (λ y. option_or (yield_if y) (forced_expire h)) (sym orphan),
        c.push_yield.ensures,
      );
  none = λ none. absurd (false≢true (sym none));
}

pub returns-in-Some-first_due : goal.returns-in-Some-first_due
returns-in-Some-first_due g c = record {
  pushed = λ pushed.
      let h = history_of c.args.self.now in
      let none = sym (subst (IsService h _) c.in_default.is c.first_service.ensures) in
      let orphan = sym c.in_default-first_orphan.is
      ∙ subst (λ s. c.first_orphan.result
      ≡ first_below (place (history_of s)) (is_orphan (history_of s))) c.self.view_is
      c.first_orphan.ensures in (
        Expire c.in-Some-first_due.place,
        late-next h c.in-Some-first_due.place none orphan c.in-Some-first_due.ensures,
        c.push_overdue.ensures,
      );
  none = λ none. absurd (false≢true (sym none));
}

pub first_orphan-requires : goal.first_orphan-requires
first_orphan-requires g c = rw c.self.view_is c.requires.tables

pub returns-in-None : goal.returns-in-None
returns-in-None g c = record {
  pushed = λ pushed. absurd (false≢true pushed);
  none = λ rest.
      let h = history_of c.args.self.now in
      let none = sym (subst (IsService h _) c.in_default.is c.first_service.ensures) in
      let orphan = sym c.in_default-first_orphan.is
      ∙ subst (λ s. c.first_orphan.result
      ≡ first_below (place (history_of s)) (is_orphan (history_of s))) c.self.view_is
      c.first_orphan.ensures in (
        none-next h none orphan c.in-None.ensures,
        refl,
      );
}
