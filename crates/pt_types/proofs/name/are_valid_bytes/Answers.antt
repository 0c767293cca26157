use Rattle.std.proofs.Common.{◌∙◌, ap, sym}
use Rattle.std.specs.List.{list_all}
use Rattle.std.proofs.lemmas.List.{take_all}
use Rattle.std.proofs.lemmas.List.Folds.{list_all_more, list_all_at}
use Rattle.pt_types.specs.Names.{is_name_byte}
use Rattle.pt_types.proofs.NameLemmas.{and_true}
use Rattle.pt_types.proofs.name.are_valid_bytes.Goals as goal

pub loop-byte-preserved : goal.loop-byte-preserved
loop-byte-preserved c =
    list_all_more is_name_byte c.args.bytes.now c.loop-byte.byte-index 0 c.loop-byte-test.true
    ∙ and_true _ _ c.loop-byte.invariant (sym c.is_allowed_byte.ensures
    ∙ c.if-not-is_allowed_byte.false)

pub returns-then-not-is_allowed_byte : goal.returns-then-not-is_allowed_byte
returns-then-not-is_allowed_byte c =
    sym (list_all_at is_name_byte c.args.bytes.now c.loop-byte.byte-index 0
    c.loop-byte-test.true (sym c.is_allowed_byte.ensures ∙ c.if-not-is_allowed_byte.true))

pub returns : goal.returns
returns c =
    sym (ap (list_all is_name_byte)
    (sym (take_all c.loop-byte.byte-index c.args.bytes.now c.loop-byte-test.false))
    ∙ c.loop-byte.invariant)
