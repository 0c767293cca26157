use Rattle.std.proofs.Common.{◌∙◌, sym}
use Rattle.pt_mutex.specs.MutexState.{mutex_after_acquire}
use Rattle.pt_table.specs.ObjectRows.{object_value}
use Rattle.pt_table.proofs.ChainCallers.{same-value}
use Rattle.pt_model.specs.Found.{is_some_and}
use Rattle.pt_records.specs.declared.objects.Object.TheVariants.{Mutex}
use Rattle.pt_records.specs.Chained.{EntersChain, is_robust_free}
use Rattle.pt_records.proofs.Holding.{mutex-found, moved-objects, moved-clients, locked-chained}
use Rattle.pt_records.proofs.Relinked.{written-relinked}
use Rattle.pt_records.proofs.mutex.acquire.Goals as goal

pub lock-requires-clause-exists : goal.lock-requires-clause-exists
lock-requires-clause-exists g c =
    let old = c.args.objects.now in
    let unmoved = moved-objects EntersChain (is_some_and is_robust_free (object_value old c.args.m))
    c.args.clients.now c.hold.new.clients old c.hold.new.objects c.args.c c.args.m
    c.hold.ensures in
    rw (same-value old c.hold.new.objects unmoved c.args.m) c.requires.exists

pub lock-requires-clause-allowed : goal.lock-requires-clause-allowed
lock-requires-clause-allowed g c =
    let old = c.args.objects.now in
    let unmoved = moved-objects EntersChain (is_some_and is_robust_free (object_value old c.args.m))
    c.args.clients.now c.hold.new.clients old c.hold.new.objects c.args.c c.args.m
    c.hold.ensures in
    λ x e. c.requires.allowed x (sym (same-value old c.hold.new.objects unmoved c.args.m) ∙ e)

pub returns-clause-mutex : goal.returns-clause-mutex
returns-clause-mutex g c =
    let old = c.args.objects.now in
    let unmoved = moved-objects EntersChain (is_some_and is_robust_free (object_value old c.args.m))
    c.args.clients.now c.hold.new.clients old c.hold.new.objects c.args.c c.args.m
    c.hold.ensures in
    λ x e. written-relinked old c.hold.new.objects unmoved c.lock.new.objects c.args.m
    (Mutex (record x { view = mutex_after_acquire x.view c.args.c }))
    (c.lock.ensures.mutex x (same-value old c.hold.new.objects unmoved c.args.m ∙ e))

pub returns-clause-rows : goal.returns-clause-rows
returns-clause-rows g c =
    moved-clients EntersChain (is_some_and is_robust_free
    (object_value c.args.objects.now c.args.m))
    c.args.clients.now c.hold.new.clients c.args.objects.now c.hold.new.objects c.args.c
    c.args.m c.hold.ensures

pub returns-clause-chained : goal.returns-clause-chained
returns-clause-chained g c =
    let old = c.args.objects.now in
    let unmoved = moved-objects EntersChain (is_some_and is_robust_free (object_value old c.args.m))
    c.args.clients.now c.hold.new.clients old c.hold.new.objects c.args.c c.args.m
    c.hold.ensures in
    let x = mutex-found (object_value old c.args.m) c.requires.exists in
    let there = same-value old c.hold.new.objects unmoved c.args.m ∙ x.1 in
    λ orphans a. locked-chained c.args.clients.now c.hold.new.clients old c.hold.new.objects
    c.lock.new.objects c.args.c c.args.m x.0 x.1 c.requires.client
    (c.lock.ensures.chains x.0 there) orphans a (c.requires.allowed x.0 x.1) c.hold.ensures
    (written-relinked old c.hold.new.objects unmoved c.lock.new.objects c.args.m
    (Mutex (record x.0 { view = mutex_after_acquire x.0.view c.args.c }))
    (c.lock.ensures.mutex x.0 there))
