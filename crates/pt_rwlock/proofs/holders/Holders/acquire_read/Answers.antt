use Rattle.std.proofs.Common.{arith}
use Rattle.pt_rwlock.proofs.ReaderLemmas.{readers-added, readers-most}
use Rattle.pt_rwlock.proofs.holders.Holders.acquire_read.Goals as goal

pub overflow_add-self : goal.overflow_add-self
overflow_add-self g c =
    omega (
      arith,
      readers-most c.self.inside.reads,
      c.self.invariant,
      c.len-rows.ensures.len,
      c.len-rows.ensures.within,
    )

pub invariant_of-self : goal.invariant_of-self
invariant_of-self g c =
    (readers-added c.client.inside.0 c.add_read.result c.self.inside.readers
    c.self.inside.reads c.add_read.new.self c.self.invariant
    c.add_read.ensures.before c.add_read.ensures.rows).0 c.if-add_read-eq0.true

pub invariant_of-self-else-add_read-eq0 : goal.invariant_of-self-else-add_read-eq0
invariant_of-self-else-add_read-eq0 g c =
    (readers-added c.client.inside.0 c.add_read.result c.self.inside.readers
    c.self.inside.reads c.add_read.new.self c.self.invariant
    c.add_read.ensures.before c.add_read.ensures.rows).1 c.if-add_read-eq0.false
