use Rattle.std.proofs.Common.{◌∙◌, refl, sym, inl, inr}
use Rattle.pt_records.proofs.Holding.{chain-there}
use Rattle.pt_records.proofs.owned.hold.Goals as goal

pub own-requires-clause-chain : goal.own-requires-clause-chain
own-requires-clause-chain g c =
    chain-there c.args.clients.now c.args.objects.now c.requires.chained c.args.c

pub returns-then-is_robust_free : goal.returns-then-is_robust_free
returns-then-is_robust_free g c =
    inr (
      sym c.is_robust_free.ensures ∙ c.if-is_robust_free.true,
      (c.own.ensures.owned, (c.own.ensures.rows, c.own.ensures.clients)),
    )

pub returns-else-is_robust_free : goal.returns-else-is_robust_free
returns-else-is_robust_free g c =
    inl (sym c.is_robust_free.ensures ∙ c.if-is_robust_free.false, (refl, refl))
