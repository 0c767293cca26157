use Rattle.std.proofs.Common.{◌≡◌, ℕ, List, refl, sym}
use Rattle.pt_types.specs.declared.named_verb.NamedVerb.{NamedVerb}
use Rattle.pt_types.specs.declared.named_verb.NamedVerb.TheVariants.{Lock, Trylock, Unlock}
use Rattle.pt_types.specs.declared.named_verb.NamedVerb.TheVariants.{Consistent, MutexDestroy}
use Rattle.pt_types.specs.declared.named_verb.NamedVerb.TheVariants.{RwlockInit, Rdlock, Tryrdlock}
use Rattle.pt_types.specs.declared.named_verb.NamedVerb.TheVariants.{Wrlock, Trywrlock, Rwunlock}
use Rattle.pt_types.specs.declared.named_verb.NamedVerb.TheVariants.{RwlockDestroy, CondInit}
use Rattle.pt_types.specs.declared.named_verb.NamedVerb.TheVariants.{CondDestroy, Signal, Broadcast}
use Rattle.pt_types.specs.declared.named_verb.NamedVerb.TheVariants.{Bwait, BarrierDestroy}
use Rattle.pt_types.specs.NamedVerbs.{call_on}
use Rattle.pt_types.proofs.named_verb.NamedVerb.of.Goals as goal

pub returns-in-Lock-clause-found : goal.returns-in-Lock-clause-found
returns-in-Lock-clause-found c = sym c.in-Lock.is

pub returns-in-Lock-clause-exact : goal.returns-in-Lock-clause-exact
returns-in-Lock-clause-exact c = λ verb name e. refl

pub returns-in-Trylock-clause-found : goal.returns-in-Trylock-clause-found
returns-in-Trylock-clause-found c = sym c.in-Trylock.is

pub returns-in-Trylock-clause-exact : goal.returns-in-Trylock-clause-exact
returns-in-Trylock-clause-exact c = λ verb name e. refl

pub returns-in-Unlock-clause-found : goal.returns-in-Unlock-clause-found
returns-in-Unlock-clause-found c = sym c.in-Unlock.is

pub returns-in-Unlock-clause-exact : goal.returns-in-Unlock-clause-exact
returns-in-Unlock-clause-exact c = λ verb name e. refl

pub returns-in-Consistent-clause-found : goal.returns-in-Consistent-clause-found
returns-in-Consistent-clause-found c = sym c.in-Consistent.is

pub returns-in-Consistent-clause-exact : goal.returns-in-Consistent-clause-exact
returns-in-Consistent-clause-exact c = λ verb name e. refl

pub returns-in-MutexDestroy-clause-found : goal.returns-in-MutexDestroy-clause-found
returns-in-MutexDestroy-clause-found c = sym c.in-MutexDestroy.is

pub returns-in-MutexDestroy-clause-exact : goal.returns-in-MutexDestroy-clause-exact
returns-in-MutexDestroy-clause-exact c = λ verb name e. refl

pub returns-in-RwlockInit-clause-found : goal.returns-in-RwlockInit-clause-found
returns-in-RwlockInit-clause-found c = sym c.in-RwlockInit.is

pub returns-in-RwlockInit-clause-exact : goal.returns-in-RwlockInit-clause-exact
returns-in-RwlockInit-clause-exact c = λ verb name e. refl

pub returns-in-Rdlock-clause-found : goal.returns-in-Rdlock-clause-found
returns-in-Rdlock-clause-found c = sym c.in-Rdlock.is

pub returns-in-Rdlock-clause-exact : goal.returns-in-Rdlock-clause-exact
returns-in-Rdlock-clause-exact c = λ verb name e. refl

pub returns-in-Tryrdlock-clause-found : goal.returns-in-Tryrdlock-clause-found
returns-in-Tryrdlock-clause-found c = sym c.in-Tryrdlock.is

pub returns-in-Tryrdlock-clause-exact : goal.returns-in-Tryrdlock-clause-exact
returns-in-Tryrdlock-clause-exact c = λ verb name e. refl

pub returns-in-Wrlock-clause-found : goal.returns-in-Wrlock-clause-found
returns-in-Wrlock-clause-found c = sym c.in-Wrlock.is

pub returns-in-Wrlock-clause-exact : goal.returns-in-Wrlock-clause-exact
returns-in-Wrlock-clause-exact c = λ verb name e. refl

pub returns-in-Trywrlock-clause-found : goal.returns-in-Trywrlock-clause-found
returns-in-Trywrlock-clause-found c = sym c.in-Trywrlock.is

pub returns-in-Trywrlock-clause-exact : goal.returns-in-Trywrlock-clause-exact
returns-in-Trywrlock-clause-exact c = λ verb name e. refl

pub returns-in-Rwunlock-clause-found : goal.returns-in-Rwunlock-clause-found
returns-in-Rwunlock-clause-found c = sym c.in-Rwunlock.is

pub returns-in-Rwunlock-clause-exact : goal.returns-in-Rwunlock-clause-exact
returns-in-Rwunlock-clause-exact c = λ verb name e. refl

pub returns-in-RwlockDestroy-clause-found : goal.returns-in-RwlockDestroy-clause-found
returns-in-RwlockDestroy-clause-found c = sym c.in-RwlockDestroy.is

pub returns-in-RwlockDestroy-clause-exact : goal.returns-in-RwlockDestroy-clause-exact
returns-in-RwlockDestroy-clause-exact c = λ verb name e. refl

pub returns-in-CondInit-clause-found : goal.returns-in-CondInit-clause-found
returns-in-CondInit-clause-found c = sym c.in-CondInit.is

pub returns-in-CondInit-clause-exact : goal.returns-in-CondInit-clause-exact
returns-in-CondInit-clause-exact c = λ verb name e. refl

pub returns-in-CondDestroy-clause-found : goal.returns-in-CondDestroy-clause-found
returns-in-CondDestroy-clause-found c = sym c.in-CondDestroy.is

pub returns-in-CondDestroy-clause-exact : goal.returns-in-CondDestroy-clause-exact
returns-in-CondDestroy-clause-exact c = λ verb name e. refl

pub returns-in-Signal-clause-found : goal.returns-in-Signal-clause-found
returns-in-Signal-clause-found c = sym c.in-Signal.is

pub returns-in-Signal-clause-exact : goal.returns-in-Signal-clause-exact
returns-in-Signal-clause-exact c = λ verb name e. refl

pub returns-in-Broadcast-clause-found : goal.returns-in-Broadcast-clause-found
returns-in-Broadcast-clause-found c = sym c.in-Broadcast.is

pub returns-in-Broadcast-clause-exact : goal.returns-in-Broadcast-clause-exact
returns-in-Broadcast-clause-exact c = λ verb name e. refl

pub returns-in-Bwait-clause-found : goal.returns-in-Bwait-clause-found
returns-in-Bwait-clause-found c = sym c.in-Bwait.is

pub returns-in-Bwait-clause-exact : goal.returns-in-Bwait-clause-exact
returns-in-Bwait-clause-exact c = λ verb name e. refl

pub returns-in-BarrierDestroy-clause-found : goal.returns-in-BarrierDestroy-clause-found
returns-in-BarrierDestroy-clause-found c = sym c.in-BarrierDestroy.is

pub returns-in-BarrierDestroy-clause-exact : goal.returns-in-BarrierDestroy-clause-exact
returns-in-BarrierDestroy-clause-exact c = λ verb name e. refl

pub returns-in_default-clause-exact : goal.returns-in_default-clause-exact
returns-in_default-clause-exact c = λ verb name e. absurd (none verb name e)
  where
    none : (verb : NamedVerb) (name : List ℕ) → c.args.call.now ≡ call_on verb name → ⊥
    none Lock name e = c.in_default.not-Lock name e
    none Trylock name e = c.in_default.not-Trylock name e
    none Unlock name e = c.in_default.not-Unlock name e
    none Consistent name e = c.in_default.not-Consistent name e
    none MutexDestroy name e = c.in_default.not-MutexDestroy name e
    none RwlockInit name e = c.in_default.not-RwlockInit name e
    none Rdlock name e = c.in_default.not-Rdlock name e
    none Tryrdlock name e = c.in_default.not-Tryrdlock name e
    none Wrlock name e = c.in_default.not-Wrlock name e
    none Trywrlock name e = c.in_default.not-Trywrlock name e
    none Rwunlock name e = c.in_default.not-Rwunlock name e
    none RwlockDestroy name e = c.in_default.not-RwlockDestroy name e
    none CondInit name e = c.in_default.not-CondInit name e
    none CondDestroy name e = c.in_default.not-CondDestroy name e
    none Signal name e = c.in_default.not-Signal name e
    none Broadcast name e = c.in_default.not-Broadcast name e
    none Bwait name e = c.in_default.not-Bwait name e
    none BarrierDestroy name e = c.in_default.not-BarrierDestroy name e
