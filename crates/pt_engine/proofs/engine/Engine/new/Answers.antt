use Rattle.pt_legal.specs.Cores.{core_state}
use Rattle.pt_engine.proofs.PendingLineLemmas.{begun_lines, begun_sound}
use Rattle.pt_engine.proofs.Stays.{begun_known}
use Rattle.pt_engine.proofs.engine.Engine.new.Goals as goal

pub invariant_of-result : goal.invariant_of-result
invariant_of-result g c =
    let core = core_state (g.C.LegalHistory.seen c.args.core) in (
      begun_sound core c.requires,
      begun_lines core c.new-2.result.entries c.new-3.result.items c.requires c.new-2.ensures
          c.new-3.ensures,
    )

pub returns : goal.returns
returns g c =
    begun_known (core_state (g.C.LegalHistory.seen c.args.core)) c.new.result c.new-3.result.items
    c.requires c.new.ensures c.new-3.ensures
