use Rattle.std.proofs.Common.{ap, subst, sym, ◌∙◌}
use Rattle.pt_session.specs.Sources.{LineSourceView, IsSameSource, HasTakenNothing}
use Rattle.pt_session.specs.Places.{is_own}
use Rattle.pt_session.proofs.SourceLemmas.{same_then, still_back, still_refl, takes_then}
use Rattle.pt_session.proofs.line_source.Lines.next.Goals.{in-Some+else-is_some, in_default}
use Rattle.pt_session.proofs.line_source.Lines.next.Goals as goal

pub returns-in_default-place : goal.returns-in_default-place
returns-in_default-place g c =
    let old : LineSourceView = c.args.self.now in
    let mid : LineSourceView = c.match-turns.self in
    let first = c.self.inside in
    let begun : LineSourceView = record {
      mode = first.mode;
      ring = first.ring;
      own = is_own first.place;
    } in
    let still =
    elim c.match-turns.branch as (λ _. HasTakenNothing old mid) [
      | in-Some+else-is_some w ↦
          subst (HasTakenNothing old) (sym w.self-is)
          (still_back old begun w.read_here.new.self w.next-line.new.ring w.next-line.result
          c.self.view_is w.next-line.ensures.ring
          (sym w.is_some.ensures ∙ w.if-is_some.false) w.next-line.ensures.next
          w.read_here.ensures)
      | in_default w ↦ subst (HasTakenNothing old) (sym w.self-is) (still_refl old)
    ] in
    let last = c.self-2.inside in
    let view : LineSourceView = record {
      mode = last.mode;
      ring = last.ring;
      own = is_own last.place;
    } in
    record {
      unchanged = same_then old mid view c.next.new.ring still c.self-2.view_is c.next.ensures.ring;
      next =
          takes_then old mid view c.next.new.ring c.next.result still c.self-2.view_is
          c.next.ensures.next;
    }

pub returns-in-Here-clause-unchanged : goal.returns-in-Here-clause-unchanged
returns-in-Here-clause-unchanged g c =
    let old : LineSourceView = c.args.self.now in
    let mid : LineSourceView = c.match-turns.self in
    let first = c.self.inside in
    let begun : LineSourceView = record {
      mode = first.mode;
      ring = first.ring;
      own = is_own first.place;
    } in
    let still =
    elim c.match-turns.branch as (λ _. HasTakenNothing old mid) [
      | in-Some+else-is_some w ↦
          subst (HasTakenNothing old) (sym w.self-is)
          (still_back old begun w.read_here.new.self w.next-line.new.ring w.next-line.result
          c.self.view_is w.next-line.ensures.ring
          (sym w.is_some.ensures ∙ w.if-is_some.false) w.next-line.ensures.next
          w.read_here.ensures)
      | in_default w ↦ subst (HasTakenNothing old) (sym w.self-is) (still_refl old)
    ] in
    let last = c.self-2.inside in
    let view : LineSourceView = record {
      mode = last.mode;
      ring = last.ring;
      own = is_own last.place;
    } in
    subst (λ own. IsSameSource old (record {
      mode = last.mode;
      ring = c.next_here.new.ring;
      own =
          own;
    }))
    (ap is_own c.in-Here.is)
    (same_then old mid view c.next_here.new.ring still c.self-2.view_is c.next_here.ensures.ring)

pub returns-in-Here-clause-next : goal.returns-in-Here-clause-next
returns-in-Here-clause-next g c =
    let old : LineSourceView = c.args.self.now in
    let mid : LineSourceView = c.match-turns.self in
    let first = c.self.inside in
    let begun : LineSourceView = record {
      mode = first.mode;
      ring = first.ring;
      own = is_own first.place;
    } in
    let still =
    elim c.match-turns.branch as (λ _. HasTakenNothing old mid) [
      | in-Some+else-is_some w ↦
          subst (HasTakenNothing old) (sym w.self-is)
          (still_back old begun w.read_here.new.self w.next-line.new.ring w.next-line.result
          c.self.view_is w.next-line.ensures.ring
          (sym w.is_some.ensures ∙ w.if-is_some.false) w.next-line.ensures.next
          w.read_here.ensures)
      | in_default w ↦ subst (HasTakenNothing old) (sym w.self-is) (still_refl old)
    ] in
    let last = c.self-2.inside in
    let view : LineSourceView = record {
      mode = last.mode;
      ring = last.ring;
      own = is_own last.place;
    } in
    takes_then old mid view c.next_here.new.ring c.next_here.result still c.self-2.view_is
    c.next_here.ensures.next
