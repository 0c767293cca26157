use Rattle.std.proofs.Common.{ap, sym}
use Rattle.pt_types.specs.declared.named_verb.NamedVerb.{NamedVerb}
use Rattle.pt_types.specs.NamedVerbs.{call_on}
use Rattle.pt_types.proofs.named_verb.NamedVerb.call.Goals as goal

pub returns-in-Lock : goal.returns-in-Lock
returns-in-Lock c =
    sym (ap (λ (verb : NamedVerb). call_on verb c.args.name) c.in-Lock.is)

pub returns-in-Trylock : goal.returns-in-Trylock
returns-in-Trylock c =
    sym (ap (λ (verb : NamedVerb). call_on verb c.args.name) c.in-Trylock.is)

pub returns-in-Unlock : goal.returns-in-Unlock
returns-in-Unlock c =
    sym (ap (λ (verb : NamedVerb). call_on verb c.args.name) c.in-Unlock.is)

pub returns-in-Consistent : goal.returns-in-Consistent
returns-in-Consistent c =
    sym (ap (λ (verb : NamedVerb). call_on verb c.args.name) c.in-Consistent.is)

pub returns-in-MutexDestroy : goal.returns-in-MutexDestroy
returns-in-MutexDestroy c =
    sym (ap (λ (verb : NamedVerb). call_on verb c.args.name) c.in-MutexDestroy.is)

pub returns-in-RwlockInit : goal.returns-in-RwlockInit
returns-in-RwlockInit c =
    sym (ap (λ (verb : NamedVerb). call_on verb c.args.name) c.in-RwlockInit.is)

pub returns-in-Rdlock : goal.returns-in-Rdlock
returns-in-Rdlock c =
    sym (ap (λ (verb : NamedVerb). call_on verb c.args.name) c.in-Rdlock.is)

pub returns-in-Tryrdlock : goal.returns-in-Tryrdlock
returns-in-Tryrdlock c =
    sym (ap (λ (verb : NamedVerb). call_on verb c.args.name) c.in-Tryrdlock.is)

pub returns-in-Wrlock : goal.returns-in-Wrlock
returns-in-Wrlock c =
    sym (ap (λ (verb : NamedVerb). call_on verb c.args.name) c.in-Wrlock.is)

pub returns-in-Trywrlock : goal.returns-in-Trywrlock
returns-in-Trywrlock c =
    sym (ap (λ (verb : NamedVerb). call_on verb c.args.name) c.in-Trywrlock.is)

pub returns-in-Rwunlock : goal.returns-in-Rwunlock
returns-in-Rwunlock c =
    sym (ap (λ (verb : NamedVerb). call_on verb c.args.name) c.in-Rwunlock.is)

pub returns-in-RwlockDestroy : goal.returns-in-RwlockDestroy
returns-in-RwlockDestroy c =
    sym (ap (λ (verb : NamedVerb). call_on verb c.args.name) c.in-RwlockDestroy.is)

pub returns-in-CondInit : goal.returns-in-CondInit
returns-in-CondInit c =
    sym (ap (λ (verb : NamedVerb). call_on verb c.args.name) c.in-CondInit.is)

pub returns-in-CondDestroy : goal.returns-in-CondDestroy
returns-in-CondDestroy c =
    sym (ap (λ (verb : NamedVerb). call_on verb c.args.name) c.in-CondDestroy.is)

pub returns-in-Signal : goal.returns-in-Signal
returns-in-Signal c =
    sym (ap (λ (verb : NamedVerb). call_on verb c.args.name) c.in-Signal.is)

pub returns-in-Broadcast : goal.returns-in-Broadcast
returns-in-Broadcast c =
    sym (ap (λ (verb : NamedVerb). call_on verb c.args.name) c.in-Broadcast.is)

pub returns-in-Bwait : goal.returns-in-Bwait
returns-in-Bwait c =
    sym (ap (λ (verb : NamedVerb). call_on verb c.args.name) c.in-Bwait.is)

pub returns-in-BarrierDestroy : goal.returns-in-BarrierDestroy
returns-in-BarrierDestroy c =
    sym (ap (λ (verb : NamedVerb). call_on verb c.args.name) c.in-BarrierDestroy.is)
