use Rattle.std.proofs.Common.{◌≡◌, ◌∙◌, sym}
use Rattle.std.proofs.lemmas.Bool.{false≢true}
use Rattle.pt_event_eq.proofs.SameCalls.{same, same_says}
use Rattle.pt_event_eq.proofs.same_call.Goals as goal

pub returns-clause-yes : goal.returns-clause-yes
returns-clause-yes c =
    let flag : c.eq.result ≡ same c.args.a.now c.args.b.now = c.eq.ensures in
    λ e. (same_says c.args.a.now c.args.b.now).0 (sym flag ∙ e)

pub returns-clause-no : goal.returns-clause-no
returns-clause-no c =
    let flag : c.eq.result ≡ same c.args.a.now c.args.b.now = c.eq.ensures in
    λ e same. false≢true (sym e ∙ flag ∙ (same_says c.args.a.now c.args.b.now).1 same)
