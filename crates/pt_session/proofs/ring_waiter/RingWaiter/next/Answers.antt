use Rattle.std.proofs.Common.{◌≡◌, List, ◌++◌, [], ◌∷◌, Option, ap, ◌∙◌, subst}
use Rattle.std.specs.Prelude.{MatchOption}
use Rattle.rtrb.specs.Ring.{received}
use Rattle.pt_session.specs.Readings.{Reading}
use Rattle.pt_session.proofs.ring_waiter.RingWaiter.next.Goals as goal

pub returns-in-Some-clause-next : goal.returns-in-Some-clause-next
returns-in-Some-clause-next g c =
    let found = received c.spin_for-found.new.ring in
    let before = received c.pop.new.self in
    let grown =
    subst
    (λ (w : Option Reading). MatchOption w (found ≡ before) (λ line. found ≡ before ++ line ∷ []))
    c.in-Some.is c.spin_for-found.ensures.next in
    grown ∙ ap (λ (ls : List Reading). ls ++ c.in-Some.line ∷ []) c.in_default.ensures.empty.0
