use Rattle.pt_hub.specs.AnsweringCores.{AnsweringCoreView}
use Rattle.pt_hub.proofs.ReadingLemmas.{owed_count-the-rest, taken-but-one}
use Rattle.pt_hub.proofs.answering_core.AnsweringCore.law_taken.Goals as goal

pub returns-clause-taken : goal.returns-clause-taken
returns-clause-taken g c =
    let d : AnsweringCoreView = record {
      core = c.self.inside.core;
      accounts =
          c.self.inside.accounts.entries;
    } in
    rw (← c.self.view_is) (λ b. taken-but-one d c.self.invariant b)

pub returns-clause-owed : goal.returns-clause-owed
returns-clause-owed g c =
    let d : AnsweringCoreView = record {
      core = c.self.inside.core;
      accounts =
          c.self.inside.accounts.entries;
    } in
    rw (← c.self.view_is) (λ b. owed_count-the-rest d c.self.invariant b)
