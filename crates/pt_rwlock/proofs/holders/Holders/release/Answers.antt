use Rattle.pt_rwlock.proofs.ReaderLemmas.{readers-taken}
use Rattle.pt_rwlock.proofs.holders.Holders.release.Goals as goal

pub overflow_sub-self : goal.overflow_sub-self
overflow_sub-self g c =
    (
    (readers-taken c.client.inside.0 c.take_read.result c.self.inside.readers
    c.self.inside.reads c.take_read.new.self c.self.invariant
    c.take_read.ensures.before c.take_read.ensures.rows).0
    c.if-take_read-eq1.true).0

pub invariant_of-self-then-take_read-eq1 : goal.invariant_of-self-then-take_read-eq1
invariant_of-self-then-take_read-eq1 g c =
    (
    (readers-taken c.client.inside.0 c.take_read.result c.self.inside.readers
    c.self.inside.reads c.take_read.new.self c.self.invariant
    c.take_read.ensures.before c.take_read.ensures.rows).0
    c.if-take_read-eq1.true).1

pub invariant_of-self-else-take_read-eq1 : goal.invariant_of-self-else-take_read-eq1
invariant_of-self-else-take_read-eq1 g c =
    (readers-taken c.client.inside.0 c.take_read.result c.self.inside.readers
    c.self.inside.reads c.take_read.new.self c.self.invariant
    c.take_read.ensures.before c.take_read.ensures.rows).1
    c.if-take_read-eq1.false
