use Rattle.std.proofs.Common.{cond, subst, arith}
use Rattle.pt_chains.specs.Chains.{side_of}
use Rattle.pt_chains.specs.Highest.{IsBound}
use Rattle.pt_chains.proofs.HighestLemmas.{take-bound, some-wait, some-left, writers-change}
use Rattle.pt_chains.proofs.HighestLemmas.{readers-change, writers-stay, readers-stay}
use Rattle.pt_chains.proofs.HighestLemmas.{taken-whole}
use Rattle.pt_chains.proofs.marked.MarkedQueue.take_out.Goals as goal

pub lowered-self-inside-requires : goal.lowered-self-inside-requires
lowered-self-inside-requires c =
    let p = c.args.p in
    let w = c.self.inside.writer in
    let r = c.self.inside.reader in
    let old = c.self.inside.queue in
    let new = c.take_out.new.queue in
    let bound = take-bound c.args.writer old new p w r c.requires.index c.take_out.ensures.counts
    (c.self.invariant (λ z. omega (arith, z, c.requires.len))) in
    subst (λ k. IsBound (side_of k new).counts (cond k w r)) c.if-writer.true bound

pub lowered-self-inside-requires-then-self-p-eq0-2 :
    goal.lowered-self-inside-requires-then-self-p-eq0-2
lowered-self-inside-requires-then-self-p-eq0-2 c =
    let p = c.args.p in
    let w = c.self.inside.writer in
    let r = c.self.inside.reader in
    let old = c.self.inside.queue in
    let new = c.take_out.new.queue in
    let bound = take-bound c.args.writer old new p w r c.requires.index c.take_out.ensures.counts
    (c.self.invariant (λ z. omega (arith, z, c.requires.len))) in
    subst (λ k. IsBound (side_of k new).counts (cond k w r)) c.if-writer.false bound

pub invariant_of-self : goal.invariant_of-self
invariant_of-self c = λ some. absurd (some c.if-self-eq0.true)

pub invariant_of-self-then-self-p-eq0 : goal.invariant_of-self-then-self-p-eq0
invariant_of-self-then-self-p-eq0 c = λ _.
    let own = c.self.inside in
    let done = c.take_out.ensures in
    writers-change c.args.writer own.queue c.take_out.new.queue c.args.p own.writer own.reader
    c.requires.index done.other done.counts
    (c.self.invariant (some-wait own.queue c.args.self.now c.self.view_is c.requires.len))
    c.if-writer.true c.lowered-self-inside.result c.lowered-self-inside.ensures

pub invariant_of-self-then-self-p-eq0-2 : goal.invariant_of-self-then-self-p-eq0-2
invariant_of-self-then-self-p-eq0-2 c = λ _.
    let own = c.self.inside in
    let done = c.take_out.ensures in
    let lowered = c.lowered-self-inside-then-self-p-eq0-2 in
    readers-change c.args.writer own.queue c.take_out.new.queue c.args.p own.writer own.reader
    c.requires.index done.other done.counts
    (c.self.invariant (some-wait own.queue c.args.self.now c.self.view_is c.requires.len))
    c.if-writer.false lowered.result lowered.ensures

pub invariant_of-self-else-self-p-eq0 : goal.invariant_of-self-else-self-p-eq0
invariant_of-self-else-self-p-eq0 c = λ _.
    let own = c.self.inside in
    let done = c.take_out.ensures in
    writers-stay c.args.writer own.queue c.take_out.new.queue c.args.p own.writer own.reader
    c.requires.index done.other done.counts
    (c.self.invariant (some-wait own.queue c.args.self.now c.self.view_is c.requires.len))
    c.if-writer.true c.if-self-p-eq0.false

pub invariant_of-self-else-self-p-eq0-2 : goal.invariant_of-self-else-self-p-eq0-2
invariant_of-self-else-self-p-eq0-2 c = λ _.
    let own = c.self.inside in
    let done = c.take_out.ensures in
    readers-stay c.args.writer own.queue c.take_out.new.queue c.args.p own.writer own.reader
    c.requires.index done.other done.counts
    (c.self.invariant (some-wait own.queue c.args.self.now c.self.view_is c.requires.len))
    c.if-writer.false c.if-self-p-eq0-2.false

pub returns-then-self-p-eq0-clause-last : goal.returns-then-self-p-eq0-clause-last
returns-then-self-p-eq0-clause-last c = some-left c.take_out.new.queue.len c.if-self-eq0.false

pub returns-then-self-p-eq0-2-clause-last : goal.returns-then-self-p-eq0-2-clause-last
returns-then-self-p-eq0-2-clause-last c = some-left c.take_out.new.queue.len c.if-self-eq0.false

pub returns-else-self-p-eq0-clause-last : goal.returns-else-self-p-eq0-clause-last
returns-else-self-p-eq0-clause-last c = some-left c.take_out.new.queue.len c.if-self-eq0.false

pub returns-else-self-p-eq0-2-clause-last : goal.returns-else-self-p-eq0-2-clause-last
returns-else-self-p-eq0-2-clause-last c = some-left c.take_out.new.queue.len c.if-self-eq0.false

pub returns-then-self-p-eq0-clause-taken : goal.returns-then-self-p-eq0-clause-taken
returns-then-self-p-eq0-clause-taken c =
    let done = c.take_out.ensures in
    taken-whole c.args.writer c.args.p c.args.before c.args.next c.self.inside.queue
    c.args.self.now c.take_out.new.queue c.self.view_is done.len done.other done.counts done.tails
    done.heads

pub returns-then-self-p-eq0-2-clause-taken : goal.returns-then-self-p-eq0-2-clause-taken
returns-then-self-p-eq0-2-clause-taken c =
    let done = c.take_out.ensures in
    taken-whole c.args.writer c.args.p c.args.before c.args.next c.self.inside.queue
    c.args.self.now c.take_out.new.queue c.self.view_is done.len done.other done.counts done.tails
    done.heads

pub returns-else-self-p-eq0-clause-taken : goal.returns-else-self-p-eq0-clause-taken
returns-else-self-p-eq0-clause-taken c =
    let done = c.take_out.ensures in
    taken-whole c.args.writer c.args.p c.args.before c.args.next c.self.inside.queue
    c.args.self.now c.take_out.new.queue c.self.view_is done.len done.other done.counts done.tails
    done.heads

pub returns-else-self-p-eq0-2-clause-taken : goal.returns-else-self-p-eq0-2-clause-taken
returns-else-self-p-eq0-2-clause-taken c =
    let done = c.take_out.ensures in
    taken-whole c.args.writer c.args.p c.args.before c.args.next c.self.inside.queue
    c.args.self.now c.take_out.new.queue c.self.view_is done.len done.other done.counts done.tails
    done.heads
