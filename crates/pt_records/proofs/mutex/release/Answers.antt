use Rattle.std.proofs.Common.{◌∙◌, sym}
use Rattle.pt_mutex.specs.MutexState.{mutex_after_release}
use Rattle.pt_table.specs.ObjectRows.{object_value}
use Rattle.pt_table.proofs.ChainCallers.{same-value}
use Rattle.pt_model.specs.Found.{is_some_and}
use Rattle.pt_records.specs.declared.objects.Object.TheVariants.{Mutex}
use Rattle.pt_records.specs.Chained.{UnlinksFromChain, is_locked_once}
use Rattle.pt_records.proofs.Holding.{mutex-found, moved-objects, moved-clients, unlocked-chained}
use Rattle.pt_records.proofs.Relinked.{written-relinked}
use Rattle.pt_records.proofs.mutex.release.Goals as goal

pub unlock-requires-clause-exists : goal.unlock-requires-clause-exists
unlock-requires-clause-exists g c =
    let old = c.args.objects.now in
    let unmoved = moved-objects UnlinksFromChain (is_some_and is_locked_once (object_value old c.args.m))
    c.args.clients.now c.unlink_owned.new.clients old c.unlink_owned.new.objects c.args.c c.args.m
    c.unlink_owned.ensures in
    rw (same-value old c.unlink_owned.new.objects unmoved c.args.m) c.requires.exists

pub unlock-requires-clause-owned : goal.unlock-requires-clause-owned
unlock-requires-clause-owned g c =
    let old = c.args.objects.now in
    let unmoved = moved-objects UnlinksFromChain (is_some_and is_locked_once (object_value old c.args.m))
    c.args.clients.now c.unlink_owned.new.clients old c.unlink_owned.new.objects c.args.c c.args.m
    c.unlink_owned.ensures in
    λ x e. c.requires.owned x (sym (same-value old c.unlink_owned.new.objects unmoved c.args.m) ∙ e)

pub returns-clause-mutex : goal.returns-clause-mutex
returns-clause-mutex g c =
    let old = c.args.objects.now in
    let unmoved = moved-objects UnlinksFromChain (is_some_and is_locked_once (object_value old c.args.m))
    c.args.clients.now c.unlink_owned.new.clients old c.unlink_owned.new.objects c.args.c c.args.m
    c.unlink_owned.ensures in
    λ x e. written-relinked old c.unlink_owned.new.objects unmoved c.unlock.new.objects c.args.m
    (Mutex (record x { view = mutex_after_release x.view }))
    (c.unlock.ensures.mutex x (same-value old c.unlink_owned.new.objects unmoved c.args.m ∙ e))

pub returns-clause-rows : goal.returns-clause-rows
returns-clause-rows g c =
    moved-clients UnlinksFromChain (is_some_and is_locked_once
    (object_value c.args.objects.now c.args.m))
    c.args.clients.now c.unlink_owned.new.clients c.args.objects.now c.unlink_owned.new.objects
    c.args.c
    c.args.m c.unlink_owned.ensures

pub returns-clause-chained : goal.returns-clause-chained
returns-clause-chained g c =
    let old = c.args.objects.now in
    let unmoved = moved-objects UnlinksFromChain (is_some_and is_locked_once (object_value old c.args.m))
    c.args.clients.now c.unlink_owned.new.clients old c.unlink_owned.new.objects c.args.c c.args.m
    c.unlink_owned.ensures in
    let x = mutex-found (object_value old c.args.m) c.requires.exists in
    let there = same-value old c.unlink_owned.new.objects unmoved c.args.m ∙ x.1 in
    λ orphans a. unlocked-chained c.args.clients.now c.unlink_owned.new.clients old
    c.unlink_owned.new.objects
    c.unlock.new.objects c.args.c c.args.m x.0 x.1 c.requires.client
    (c.unlock.ensures.chains x.0 there) orphans a (c.requires.owned x.0 x.1) c.unlink_owned.ensures
    (written-relinked old c.unlink_owned.new.objects unmoved c.unlock.new.objects c.args.m
    (Mutex (record x.0 { view = mutex_after_release x.0.view }))
    (c.unlock.ensures.mutex x.0 there))
