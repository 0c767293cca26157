use Rattle.std.proofs.Common.{sym, subst, ◌∙◌}
use Rattle.pt_core.specs.Trying.{IsTryResult}
use Rattle.pt_core.specs.declared.fast_paths.TryResult.{TryResult}
use Rattle.pt_state.specs.Adds.{history_of}
use Rattle.pt_core.proofs.ApplyingLemmas.{tried-written}
use Rattle.pt_core.proofs.SealNeeds.{planned-seal}
use Rattle.pt_core.proofs.fast_paths.try_frequent.Goals as goal

pub returns-then-plan : goal.returns-then-plan
returns-then-plan g c =
    let s = c.args.body.now in
    let v = c.args.event.now in
    let none = sym (planned-seal s.stored.limit (history_of s) v c.plan-plan.result.need
    c.needs_seal.result c.plan-plan.ensures.planned.needs c.needs_seal.ensures)
    ∙ c.if-not-needs_seal.true in
    subst (λ (t : TryResult). IsTryResult s v c.write.new.body t) (sym c.without_places.ensures)
    (tried-written s c.write.new.body v none c.write.result c.write.ensures)

pub returns-then-word_of-2 : goal.returns-then-word_of-2
returns-then-word_of-2 g c =
    let s = c.args.body.now in
    let v = c.args.event.now in
    let new = c.write-then-word_of-2.new.body in
    let none = sym (planned-seal s.stored.limit (history_of s) v c.plan-plan.result.need
    c.needs_seal.result c.plan-plan.ensures.planned.needs c.needs_seal.ensures)
    ∙ c.if-not-needs_seal.true in
    subst (λ (t : TryResult). IsTryResult s v new t) (sym c.without_places-then-word_of-2.ensures)
    (tried-written s new v none c.write-then-word_of-2.result c.write-then-word_of-2.ensures)
