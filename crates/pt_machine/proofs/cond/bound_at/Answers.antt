use Rattle.std.proofs.Common.{◌≡◌, sym, ap, ◌∙◌}
use Rattle.std.specs.Prelude.{option_map}
use Rattle.std.specs.Option.{option_copied}
use Rattle.pt_model.specs.Searches.{least}
use Rattle.pt_model.specs.Moves.{precedes}
use Rattle.pt_state.specs.Adds.{history_of}
use Rattle.pt_state.specs.Serving.{call_of_open}
use Rattle.pt_machine.proofs.Bindings.{waits, bound-first, bound-nothing}
use Rattle.pt_machine.proofs.cond.bound_at.Goals as goal

pub returns-in-Some : goal.returns-in-Some
returns-in-Some g c =
    let h = history_of c.args.state.now in
    let first : option_map call_of_open (option_copied c.least_cond_wait.result)
    ≡ least (precedes h) (waits h c.requires.tables.follows c.args.q c.requires.cond) =
    c.least_cond_wait.ensures.value in
    bound-first h c.requires.tables.follows c.args.q c.requires.cond
    (call_of_open c.in-Some.first.now)
    (ap (λ r. option_map call_of_open (option_copied r)) (sym c.in-Some.is) ∙ first)
    c.mutex_of_wait.result
    c.mutex_of_wait.ensures

pub returns-in-None : goal.returns-in-None
returns-in-None g c =
    let h = history_of c.args.state.now in
    let first : option_map call_of_open (option_copied c.least_cond_wait.result)
    ≡ least (precedes h) (waits h c.requires.tables.follows c.args.q c.requires.cond) =
    c.least_cond_wait.ensures.value in
    bound-nothing h c.requires.tables.follows c.args.q c.requires.cond
    (ap (λ r. option_map call_of_open (option_copied r)) (sym c.in-None.is) ∙ first)
