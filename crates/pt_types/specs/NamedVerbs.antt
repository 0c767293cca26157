-- NamedVerbs: the calls whose word takes one name and no other argument.
use Rattle.std.specs.Prelude.{ℕ, List}
use Rattle.pt_types.specs.declared.call.Call.{Call}
use Rattle.pt_types.specs.declared.call.Call.TheVariants as call
use Rattle.pt_types.specs.declared.named_verb.NamedVerb.{NamedVerb}
use Rattle.pt_types.specs.declared.named_verb.NamedVerb.TheVariants.{Lock, Trylock, Unlock}
use Rattle.pt_types.specs.declared.named_verb.NamedVerb.TheVariants.{Consistent, MutexDestroy}
use Rattle.pt_types.specs.declared.named_verb.NamedVerb.TheVariants.{RwlockInit, Rdlock, Tryrdlock}
use Rattle.pt_types.specs.declared.named_verb.NamedVerb.TheVariants.{Wrlock, Trywrlock, Rwunlock}
use Rattle.pt_types.specs.declared.named_verb.NamedVerb.TheVariants.{RwlockDestroy, CondInit}
use Rattle.pt_types.specs.declared.named_verb.NamedVerb.TheVariants.{CondDestroy, Signal, Broadcast}
use Rattle.pt_types.specs.declared.named_verb.NamedVerb.TheVariants.{Bwait, BarrierDestroy}

-- the call of a word on one name
abbrev pub call_on : NamedVerb → List ℕ → Call
call_on Lock name = call.Lock name
call_on Trylock name = call.Trylock name
call_on Unlock name = call.Unlock name
call_on Consistent name = call.Consistent name
call_on MutexDestroy name = call.MutexDestroy name
call_on RwlockInit name = call.RwlockInit name
call_on Rdlock name = call.Rdlock name
call_on Tryrdlock name = call.Tryrdlock name
call_on Wrlock name = call.Wrlock name
call_on Trywrlock name = call.Trywrlock name
call_on Rwunlock name = call.Rwunlock name
call_on RwlockDestroy name = call.RwlockDestroy name
call_on CondInit name = call.CondInit name
call_on CondDestroy name = call.CondDestroy name
call_on Signal name = call.Signal name
call_on Broadcast name = call.Broadcast name
call_on Bwait name = call.Bwait name
call_on BarrierDestroy name = call.BarrierDestroy name
