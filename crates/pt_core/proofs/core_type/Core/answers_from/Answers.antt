use Rattle.std.proofs.Common.{◌≡◌, List, map, ap, subst, sym}
use Rattle.std.specs.Prelude.{IfOk}
use Rattle.pt_model.specs.Records.{ReplyView}
use Rattle.pt_model.specs.Queries.{answers_since}
use Rattle.pt_state.specs.Reads.{AreTables}
use Rattle.pt_legal.specs.Cores.{CoreView, core_state}
use Rattle.pt_legal.specs.Replies.{reply_view}
use Rattle.pt_core.proofs.core_type.Core.answers_from.Goals as goal

pub returns-clause-ok : goal.returns-clause-ok
returns-clause-ok g c =
    subst
    (λ (ts : List ReplyView). IfOk c.answers_from.result (λ replies. map reply_view replies.items
    ≡ ts))
    (ap (λ (s : CoreView). answers_since
    (core_state s).start c.args.place s.entries) c.self.view_is)
    (rw (← c.deref.ensures) c.answers_from.ensures.ok)

pub answers_from-requires : goal.answers_from-requires
answers_from-requires g c = subst AreTables (sym c.deref.ensures) c.self.invariant.read
