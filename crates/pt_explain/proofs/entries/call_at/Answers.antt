use Rattle.std.proofs.Common.{◌∙◌}
use Rattle.pt_legal.specs.Cores.{core_state}
use Rattle.pt_explain.proofs.CallsFound.{call_found}
use Rattle.pt_explain.proofs.entries.call_at.Goals as goal

pub returns : goal.returns
returns g c =
    let s = g.C.LegalHistory.seen c.args.core.now in
    c.call_of.ensures
    ∙ call_found c.args.place (core_state s).start.at s.entries c.entry.result
    c.entry.ensures.before
    c.entry.ensures.since
