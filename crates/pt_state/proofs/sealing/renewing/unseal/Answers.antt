use Rattle.std.proofs.Common.{subst, refl}
use Rattle.pt_model.specs.Histories.{History}
use Rattle.pt_history.specs.Stored.{stored_history}
use Rattle.pt_state.specs.Reads.{Reads}
use Rattle.pt_state.proofs.UnsealedTables.{reads-unsealed}
use Rattle.pt_state.proofs.sealing.renewing.unseal.Goals as goal

pub returns-clause-read : goal.returns-clause-read
returns-clause-read g c =
    let s = c.args.state.now in
    let old = c.args.unsealed in
    reads-unsealed (stored_history old.stored) s.clients s.objects s.orphans s.clocks
    s.answers.items
    old.answers.items c.requires.follows c.requires.replies
    (subst (λ (h : History). Reads h s.clients s.objects s.orphans s.clocks s.answers.items)
    c.requires.begins c.requires.tables)

pub returns-clause-stored : goal.returns-clause-stored
returns-clause-stored g c = refl

pub returns-clause-answers : goal.returns-clause-answers
returns-clause-answers g c = refl
