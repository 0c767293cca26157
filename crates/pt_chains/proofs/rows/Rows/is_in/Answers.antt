use Rattle.std.proofs.Common.{◌∙◌, Some, nat_eq, ap, sym}
use Rattle.std.specs.Map.{lookup}
use Rattle.std.specs.Option.{option_copied, option_map}
use Rattle.std.proofs.lemmas.Bool.{OnTrue_from}
use Rattle.pt_chains.proofs.RowLemmas.{one-number}
use Rattle.pt_chains.proofs.rows.Rows.is_in.Goals as goal

pub returns-in-Some : goal.returns-in-Some
returns-in-Some g c = OnTrue_from _ _ (λ same.
    ap (λ v. lookup (nat_eq c.args.number) v.places) (sym c.self.view_is)
    ∙ c.self.invariant.own c.args.slot c.args.number
    (ap (option_map (λ r. r.0)) (sym c.get.ensures ∙ ap option_copied c.in-Some.is)
    ∙ ap (λ n. Some n) (one-number c.in-Some.field-0.now.0 c.args.number same)))
