use Rattle.std.proofs.Common.{rules, ◌∙◌, ap, sym, refl, subst}
use Rattle.std.proofs.lemmas.Bool.{false≢true}
use Rattle.pt_types.specs.Keys.{name_key}
use Rattle.pt_types.specs.Names.{IsName}
use Rattle.pt_types.proofs.name.Name.new.Goals as goal

is_name : (c : goal.After-key_of) → IsName c.args.bytes.now
is_name c = record {
  some = search rules;
  fits = c.if-bytes-gt-MAX_NAME_BYTES.false;
  bytes = c.in_ok-block.ensures.valid.0 refl;
}

pub invariant_of-result : goal.invariant_of-result
invariant_of-result c =
    let front = sym c.in_ok-block.ensures.front in (
      c.if-bytes-gt-MAX_NAME_BYTES.false,
      (subst IsName front (is_name c), c.key_of.ensures.value ∙ ap name_key front),
    )

pub returns-in_err-block-clause-valid : goal.returns-in_err-block-clause-valid
returns-in_err-block-clause-valid c =
    rw c.from_residual.ensures
    (λ some. absurd (false≢true some), λ name. c.in_err-block.ensures.valid.1 name.bytes)

pub returns-clause-valid : goal.returns-clause-valid
returns-clause-valid c = (λ some. is_name c, λ name. refl)

pub returns-clause-value : goal.returns-clause-value
returns-clause-value c = c.in_ok-block.ensures.front
