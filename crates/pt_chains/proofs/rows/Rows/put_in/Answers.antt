use Rattle.std.proofs.Common.{◌∙◌, Some, nat_eq, is_some, ap, sym, subst, slice_set}
use Rattle.std.specs.Map.{lookup}
use Rattle.std.specs.Option.{option_copied_mut}
use Rattle.pt_chains.specs.Chains.{IsAppended}
use Rattle.pt_chains.specs.Rows.{chains_in, rows_of}
use Rattle.pt_chains.proofs.RowChanges.{rows-set, others-set, chains-set}
use Rattle.pt_chains.proofs.RowLemmas.{lent-there, chains-there, placed-there}
use Rattle.pt_chains.proofs.rows.Rows.put_in.Goals as goal

pub unwrap-requires : goal.unwrap-requires
unwrap-requires g c =
    let o = c.requires.exists.0 in
    lent-there c.get_mut.result
    ∙ (ap is_some c.get_mut.ensures.value
    ∙ placed-there c.self.inside.places.entries c.self.inside.slots.slots c.self.invariant o
    c.args.slot (ap (λ v. lookup (nat_eq o) v.places) c.self.view_is ∙ c.requires.exists.1))

pub invariant_of-self : goal.invariant_of-self
invariant_of-self g c =
    rows-set c.self.inside.places.entries c.self.inside.slots.slots c.args.slot c.unwrap.result.now
    c.put_in.new.self c.self.invariant
    (sym c.get_mut.ensures.value ∙ ap option_copied_mut c.unwrap.ensures)

pub returns-clause-others : goal.returns-clause-others
returns-clause-others g c = λ o x at far.
    others-set c.self.inside.places.entries c.self.inside.slots.slots c.args.slot
    c.unwrap.result.now c.put_in.new.self c.self.invariant
    (sym c.get_mut.ensures.value ∙ ap option_copied_mut c.unwrap.ensures) o x
    (ap (λ v. lookup (nat_eq o) v.places) c.self.view_is ∙ at) far
    ∙ ap (λ v. lookup (nat_eq x) (rows_of v)) c.self.view_is

pub returns-clause-queue : goal.returns-clause-queue
returns-clause-queue g c =
    let slots = c.self.inside.slots.slots in
    let row = sym c.get_mut.ensures.value ∙ ap option_copied_mut c.unwrap.ensures in
    let before = chains-there slots c.args.slot c.unwrap.result.now row
    ∙ ap (λ v. chains_in v.slots c.args.slot) c.self.view_is in
    let after = chains-set c.self.inside.places.entries slots c.args.slot c.unwrap.result.now
    c.put_in.new.self c.self.invariant row in
    let later = chains_in (slice_set slots c.args.slot
    (Some (c.unwrap.result.now.0, c.put_in.new.self))) c.args.slot in
    subst (λ q. IsAppended c.args.writer c.args.p c.args.node c.put_in.result q later)
    before
    (subst (λ q. IsAppended c.args.writer c.args.p c.args.node c.put_in.result
    c.unwrap.result.now.1 q) (sym after) c.put_in.ensures.put)
