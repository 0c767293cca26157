use Rattle.std.proofs.Common.{refl, inl}
use Rattle.pt_table.specs.ObjectRows.{object_value}
use Rattle.pt_records.proofs.Holding.{mutex-found, locked-chained}
use Rattle.pt_records.proofs.mutex.acquire_plain.Goals as goal

pub returns-clause-chained : goal.returns-clause-chained
returns-clause-chained g c =
    let old = c.args.objects.now in
    let x = mutex-found (object_value old c.args.m) c.requires.exists in
    λ clients there orphans a. locked-chained clients clients old old
    c.lock.new.objects c.args.c c.args.m x.0 x.1 there
    (c.lock.ensures.chains x.0 x.1) orphans a (c.requires.allowed x.0 x.1)
    (inl (c.requires.plain, (refl, refl)))
    (c.lock.ensures.mutex x.0 x.1)
