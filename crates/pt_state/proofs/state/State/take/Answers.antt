use Rattle.std.proofs.Common.{sym, ◌∙◌}
use Rattle.std.proofs.lemmas.Bool.{false≢true}
use Rattle.pt_state.proofs.state.State.take.Goals as goal

-- a mutex that isn't robust enters no chain
pub returns-else-acquisition-clause-chained : goal.returns-else-acquisition-clause-chained
returns-else-acquisition-clause-chained g c = λ orphans a.
    c.acquire_plain.ensures.chained c.args.self.now.clients c.requires.client orphans a

pub returns-then-not-is_acquired-clause-taken : goal.returns-then-not-is_acquired-clause-taken
returns-then-not-is_acquired-clause-taken g c =
    λ replies.
    absurd (false≢true (sym c.if-not-is_acquired.true ∙ (c.is_acquired.ensures ∙ replies)))

pub acquire-requires-clause-exists : goal.acquire-requires-clause-exists
acquire-requires-clause-exists g c = c.requires.exists

pub acquire-requires-clause-allowed : goal.acquire-requires-clause-allowed
acquire-requires-clause-allowed g c =
    c.requires.allowed (sym c.is_acquired.ensures ∙ c.if-not-is_acquired.false)

pub acquire-requires-clause-client : goal.acquire-requires-clause-client
acquire-requires-clause-client g c = c.requires.client

pub acquire-requires-clause-chained : goal.acquire-requires-clause-chained
acquire-requires-clause-chained g c = c.requires.chained

pub acquire_plain-requires-clause-exists : goal.acquire_plain-requires-clause-exists
acquire_plain-requires-clause-exists g c = c.requires.exists

pub acquire_plain-requires-clause-allowed : goal.acquire_plain-requires-clause-allowed
acquire_plain-requires-clause-allowed g c =
    c.requires.allowed (sym c.is_acquired.ensures ∙ c.if-not-is_acquired.false)

pub acquire_plain-requires-clause-plain : goal.acquire_plain-requires-clause-plain
acquire_plain-requires-clause-plain g c = sym c.requires.robust ∙ c.if-acquisition.false

pub returns-then-acquisition-clause-taken : goal.returns-then-acquisition-clause-taken
returns-then-acquisition-clause-taken g c = λ replies. c.acquire.ensures.mutex

pub returns-then-acquisition-clause-not_acquired : goal.returns-then-acquisition-clause-not_acquired
returns-then-acquisition-clause-not_acquired g c =
    λ lost.
    absurd (false≢true (sym lost ∙ (sym c.is_acquired.ensures ∙ c.if-not-is_acquired.false)))

pub returns-then-acquisition-clause-rows : goal.returns-then-acquisition-clause-rows
returns-then-acquisition-clause-rows g c = c.acquire.ensures.rows

pub returns-then-acquisition-clause-chained : goal.returns-then-acquisition-clause-chained
returns-then-acquisition-clause-chained g c = c.acquire.ensures.chained

pub returns-else-acquisition-clause-taken : goal.returns-else-acquisition-clause-taken
returns-else-acquisition-clause-taken g c = λ replies. c.acquire_plain.ensures.mutex

pub returns-else-acquisition-clause-not_acquired : goal.returns-else-acquisition-clause-not_acquired
returns-else-acquisition-clause-not_acquired g c =
    λ lost.
    absurd (false≢true (sym lost ∙ (sym c.is_acquired.ensures ∙ c.if-not-is_acquired.false)))
