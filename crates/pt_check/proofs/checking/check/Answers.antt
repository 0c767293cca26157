use Rattle.std.proofs.Common.{◌∙◌, sym, subst, IfOk}
use Rattle.pt_engine.specs.Scripts.{empty_script}
use Rattle.pt_check.specs.Agreements.{Finds}
use Rattle.pt_check.proofs.Comparing.{few_blocks}
use Rattle.pt_check.proofs.Results.{on_any, memory_why}
use Rattle.pt_check.proofs.checking.check.Goals as goal

pub find-requires-clause-within : goal.find-requires-clause-within
find-requires-clause-within g c =
    few_blocks c.args.trace.now c.new-blocks.result _ c.new-blocks.ensures c.requires.within

pub returns-in-None-clause-ok : goal.returns-in-None-clause-ok
returns-in-None-clause-ok g c =
    subst (λ bs. IfOk c.find.result (λ found. Finds found empty_script bs)) c.new-blocks.ensures
    c.find.ensures.ok

pub returns-in-None-clause-valid : goal.returns-in-None-clause-valid
returns-in-None-clause-valid g c =
    on_any c.find.result (sym c.wrong_row.ensures ∙ c.in-None.is)

pub returns-in-None-clause-err : goal.returns-in-None-clause-err
returns-in-None-clause-err g c =
    memory_why c.args.trace.now c.find.result (sym c.wrong_row.ensures ∙ c.in-None.is)
    c.find.ensures.err
