use Rattle.std.proofs.Common.{◌∙◌, refl, sym, inl, inr}
use Rattle.pt_table.specs.ObjectRows.{object_value}
use Rattle.pt_records.proofs.Holding.{head-there, mutex-found}
use Rattle.pt_records.proofs.owned.unlink_owned.Goals as goal

pub disown-requires-clause-chain : goal.disown-requires-clause-chain
disown-requires-clause-chain g c =
    let x = mutex-found (object_value c.args.objects.now c.args.m) c.requires.exists in
    head-there c.args.clients.now c.args.objects.now c.requires.chained c.args.c c.args.m x.0 x.1
    (c.requires.owned x.0 x.1) (sym c.is_locked_once.ensures ∙ c.if-is_locked_once.true)

pub returns-then-is_locked_once : goal.returns-then-is_locked_once
returns-then-is_locked_once g c =
    inr (
      sym c.is_locked_once.ensures ∙ c.if-is_locked_once.true,
      (c.disown.ensures.owned, (c.disown.ensures.rows, c.disown.ensures.clients)),
    )

pub returns-else-is_locked_once : goal.returns-else-is_locked_once
returns-else-is_locked_once g c =
    inl (sym c.is_locked_once.ensures ∙ c.if-is_locked_once.false, (refl, refl))
