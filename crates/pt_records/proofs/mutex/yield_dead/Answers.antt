use Rattle.std.proofs.Common.{◌∙◌}
use Rattle.pt_mutex.specs.MutexState.{mutex_after_yield}
use Rattle.pt_table.specs.ObjectRows.{object_value}
use Rattle.pt_table.proofs.ChainCallers.{same-value}
use Rattle.pt_records.specs.declared.objects.Object.TheVariants.{Mutex}
use Rattle.pt_records.proofs.Holding.{mutex-found, head-orphan, mutex_without_owner-chained}
use Rattle.pt_records.proofs.Relinked.{written-relinked}
use Rattle.pt_records.proofs.mutex.yield_dead.Goals as goal

pub unlink-head-requires : goal.unlink-head-requires
unlink-head-requires g c =
    rw c.m.view_is
    (head-orphan c.requires.chained.0 c.args.objects.now c.args.m c.requires.chained.1).0

pub free-requires : goal.free-requires
free-requires g c =
    rw (same-value c.args.objects.now c.unlink-head.new.self c.unlink-head.ensures.rows c.args.m)
    c.requires.exists

pub returns-clause-mutex : goal.returns-clause-mutex
returns-clause-mutex g c =
    let old = c.args.objects.now in
    let mid = c.unlink-head.new.self in
    λ x e. written-relinked old mid c.unlink-head.ensures.rows c.free.new.objects c.args.m
    (Mutex (record x { view = mutex_after_yield x.view }))
    (c.free.ensures.mutex x (same-value old mid c.unlink-head.ensures.rows c.args.m ∙ e))

pub returns-clause-chained : goal.returns-clause-chained
returns-clause-chained g c =
    let old = c.args.objects.now in
    let mid = c.unlink-head.new.self in
    let x = mutex-found (object_value old c.args.m) c.requires.exists in
    let there = same-value old mid c.unlink-head.ensures.rows c.args.m ∙ x.1 in
    λ clients a. mutex_without_owner-chained clients old mid c.free.new.objects c.args.m
    c.unlink-head.result
    x.0 a
    (rw (← c.m.view_is) (record {
      chain = c.unlink-head.ensures.chain;
      others = c.unlink-head.ensures.others;
      linked = c.unlink-head.ensures.linked;
    })) (c.free.ensures.chains x.0 there)
    (written-relinked old mid c.unlink-head.ensures.rows c.free.new.objects c.args.m
    (Mutex (record x.0 { view = mutex_after_yield x.0.view })) (c.free.ensures.mutex x.0 there))
