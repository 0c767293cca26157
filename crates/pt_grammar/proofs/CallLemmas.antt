-- CallLemmas: each call is spelled by its verb.
use Rattle.std.proofs.Common.{ℕ, List}
use Rattle.pt_types.specs.Times.{Timespec}
use Rattle.pt_types.specs.declared.time.Clock.{Clock}
use Rattle.pt_types.specs.declared.time.Clock.TheVariants.{Real, Mono}
use Rattle.pt_types.specs.declared.call.Call.{Call}
use Rattle.pt_types.specs.declared.call.Call.TheVariants as call
use Rattle.pt_types.specs.declared.named_verb.NamedVerb.{NamedVerb}
use Rattle.pt_types.specs.declared.named_verb.NamedVerb.TheVariants.{Lock, Trylock, Unlock}
use Rattle.pt_types.specs.declared.named_verb.NamedVerb.TheVariants.{Consistent, MutexDestroy}
use Rattle.pt_types.specs.declared.named_verb.NamedVerb.TheVariants.{RwlockInit, Rdlock, Tryrdlock}
use Rattle.pt_types.specs.declared.named_verb.NamedVerb.TheVariants.{Wrlock, Trywrlock, Rwunlock}
use Rattle.pt_types.specs.declared.named_verb.NamedVerb.TheVariants.{RwlockDestroy, CondInit}
use Rattle.pt_types.specs.declared.named_verb.NamedVerb.TheVariants.{CondDestroy, Signal, Broadcast}
use Rattle.pt_types.specs.declared.named_verb.NamedVerb.TheVariants.{Bwait, BarrierDestroy}
use Rattle.pt_types.specs.NamedVerbs.{call_on}
use Rattle.pt_grammar.specs.declared.call_line.CallLine.TheVariants as line
use Rattle.pt_grammar.specs.declared.verb.TimedVerb.{TimedVerb}
use Rattle.pt_grammar.specs.declared.verb.TimedVerb.TheVariants.{Timedlock, Timedrdlock}
use Rattle.pt_grammar.specs.declared.verb.TimedVerb.TheVariants.{Timedwrlock}
use Rattle.pt_grammar.specs.declared.verb.ClockedVerb.{ClockedVerb}
use Rattle.pt_grammar.specs.declared.verb.ClockedVerb.TheVariants.{Clocklock, Clockrdlock}
use Rattle.pt_grammar.specs.declared.verb.ClockedVerb.TheVariants.{Clockwrlock}
use Rattle.pt_grammar.specs.Verbs.{named_word, timed_word, clocked_word, moment_word}
use Rattle.pt_grammar.specs.Verbs.{call_until, call_by_clock}
use Rattle.pt_grammar.specs.Grammar.{OnName, OnNameUntil, OnNameByClock, OnMoment, Spells}
use Rattle.pt_grammar.specs.Grammar.{SpellsCall}
use Rattle.pt_grammar.proofs.SpelledLemmas.{IsSpelled, by_name, by_deadline, by_new_mutex}
use Rattle.pt_grammar.proofs.SpelledLemmas.{by_new_barrier, by_wait, by_timedwait, by_clock}
use Rattle.pt_grammar.proofs.SpelledLemmas.{by_clockwait, by_moment}

-- a word and a name spell the call of the word
pub spells-call_on :
    (verb : NamedVerb) (text name : List ℕ) → OnName text (named_word verb) name
    → SpellsCall text (call_on verb name)
spells-call_on Lock text name h = h
spells-call_on Trylock text name h = h
spells-call_on Unlock text name h = h
spells-call_on Consistent text name h = h
spells-call_on MutexDestroy text name h = h
spells-call_on RwlockInit text name h = h
spells-call_on Rdlock text name h = h
spells-call_on Tryrdlock text name h = h
spells-call_on Wrlock text name h = h
spells-call_on Trywrlock text name h = h
spells-call_on Rwunlock text name h = h
spells-call_on RwlockDestroy text name h = h
spells-call_on CondInit text name h = h
spells-call_on CondDestroy text name h = h
spells-call_on Signal text name h = h
spells-call_on Broadcast text name h = h
spells-call_on Bwait text name h = h
spells-call_on BarrierDestroy text name h = h

-- the same with a deadline
pub spells-call_until :
    (verb : TimedVerb) (text name : List ℕ) (d : Timespec)
    → OnNameUntil text (timed_word verb) name d → SpellsCall text (call_until verb name d)
spells-call_until Timedlock text name d h = h
spells-call_until Timedrdlock text name d h = h
spells-call_until Timedwrlock text name d h = h

-- the same with a clock and a deadline
pub spells-call_by_clock :
    (verb : ClockedVerb) (text name : List ℕ) (clock : Clock) (d : Timespec)
    → OnNameByClock text (clocked_word verb) name clock d
    → SpellsCall text (call_by_clock verb name clock d)
spells-call_by_clock Clocklock text name clock d h = h
spells-call_by_clock Clockrdlock text name clock d h = h
spells-call_by_clock Clockwrlock text name clock d h = h

-- the word of a clock's moment and two numbers spell the moment
pub spells-moment :
    (clock : Clock) (text : List ℕ) (t : ℕ) → OnMoment text (moment_word clock) t
    → Spells text (line.Tick clock t)
spells-moment Real text t h = h
spells-moment Mono text t h = h

pub spelled_moment :
    (text : List ℕ) (clock : Clock) (t : ℕ) → Spells text (line.Tick clock t)
    → IsSpelled text (line.Tick clock t)
spelled_moment text Real t h = by_moment Real text t h
spelled_moment text Mono t h = by_moment Mono text t h

-- the text of each call is the word of its verb and the fields that it is read from
pub spelled_call :
    (text : List ℕ) (asked : Call) → SpellsCall text asked → IsSpelled text (line.Ask asked)
spelled_call text (call.MutexInit name kind robust) h = by_new_mutex text name kind robust h
spelled_call text (call.Lock name) h = by_name Lock text name h
spelled_call text (call.Trylock name) h = by_name Trylock text name h
spelled_call text (call.Timedlock name d) h = by_deadline Timedlock text name d h
spelled_call text (call.Clocklock name k d) h = by_clock Clocklock text name k d h
spelled_call text (call.Unlock name) h = by_name Unlock text name h
spelled_call text (call.Consistent name) h = by_name Consistent text name h
spelled_call text (call.MutexDestroy name) h = by_name MutexDestroy text name h
spelled_call text (call.RwlockInit name) h = by_name RwlockInit text name h
spelled_call text (call.Rdlock name) h = by_name Rdlock text name h
spelled_call text (call.Tryrdlock name) h = by_name Tryrdlock text name h
spelled_call text (call.Timedrdlock name d) h = by_deadline Timedrdlock text name d h
spelled_call text (call.Clockrdlock name k d) h = by_clock Clockrdlock text name k d h
spelled_call text (call.Wrlock name) h = by_name Wrlock text name h
spelled_call text (call.Trywrlock name) h = by_name Trywrlock text name h
spelled_call text (call.Timedwrlock name d) h = by_deadline Timedwrlock text name d h
spelled_call text (call.Clockwrlock name k d) h = by_clock Clockwrlock text name k d h
spelled_call text (call.Rwunlock name) h = by_name Rwunlock text name h
spelled_call text (call.RwlockDestroy name) h = by_name RwlockDestroy text name h
spelled_call text (call.CondInit name) h = by_name CondInit text name h
spelled_call text (call.CondDestroy name) h = by_name CondDestroy text name h
spelled_call text (call.Wait cond mutex) h = by_wait text cond mutex h
spelled_call text (call.Timedwait cond mutex d) h = by_timedwait text cond mutex d h
spelled_call text (call.Clockwait cond mutex k d) h = by_clockwait text cond mutex k d h
spelled_call text (call.Signal name) h = by_name Signal text name h
spelled_call text (call.Broadcast name) h = by_name Broadcast text name h
spelled_call text (call.BarrierInit name count) h = by_new_barrier text name count h
spelled_call text (call.Bwait name) h = by_name Bwait text name h
spelled_call text (call.BarrierDestroy name) h = by_name BarrierDestroy text name h
