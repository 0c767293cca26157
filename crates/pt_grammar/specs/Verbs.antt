-- Verbs: the words of calls, classified by what follows them.
use Rattle.std.specs.Prelude.{ℕ, List, Option, codes, find}
use Rattle.std.specs.Str.{bytes_eq}
use Rattle.pt_types.specs.Times.{Timespec}
use Rattle.pt_types.specs.declared.time.Clock.{Clock}
use Rattle.pt_types.specs.declared.time.Clock.TheVariants.{Real, Mono}
use Rattle.pt_types.specs.declared.call.Call.{Call}
use Rattle.pt_types.specs.declared.call.Call.TheVariants as call
use Rattle.pt_types.specs.declared.named_verb.NamedVerb.{NamedVerb}
use Rattle.pt_types.specs.declared.named_verb.NamedVerb.TheVariants.{Lock, Trylock, Unlock}
use Rattle.pt_types.specs.declared.named_verb.NamedVerb.TheVariants.{Consistent, MutexDestroy}
use Rattle.pt_types.specs.declared.named_verb.NamedVerb.TheVariants.{RwlockInit, Rdlock, Tryrdlock}
use Rattle.pt_types.specs.declared.named_verb.NamedVerb.TheVariants.{Wrlock, Trywrlock, Rwunlock}
use Rattle.pt_types.specs.declared.named_verb.NamedVerb.TheVariants.{RwlockDestroy, CondInit}
use Rattle.pt_types.specs.declared.named_verb.NamedVerb.TheVariants.{CondDestroy, Signal, Broadcast}
use Rattle.pt_types.specs.declared.named_verb.NamedVerb.TheVariants.{Bwait, BarrierDestroy}
use Rattle.pt_grammar.specs.declared.verb.TimedVerb.{TimedVerb}
use Rattle.pt_grammar.specs.declared.verb.TimedVerb.TheVariants.{Timedlock, Timedrdlock}
use Rattle.pt_grammar.specs.declared.verb.TimedVerb.TheVariants.{Timedwrlock}
use Rattle.pt_grammar.specs.declared.verb.ClockedVerb.{ClockedVerb}
use Rattle.pt_grammar.specs.declared.verb.ClockedVerb.TheVariants.{Clocklock, Clockrdlock}
use Rattle.pt_grammar.specs.declared.verb.ClockedVerb.TheVariants.{Clockwrlock}
use Rattle.pt_grammar.specs.declared.verb.Verb.{Verb}
use Rattle.pt_grammar.specs.declared.verb.Verb.TheVariants.{Hello, Moment, MutexInit, BarrierInit}
use Rattle.pt_grammar.specs.declared.verb.Verb.TheVariants.{Wait, Timedwait, Clockwait, Named}
use Rattle.pt_grammar.specs.declared.verb.Verb.TheVariants.{Timed}
use Rattle.pt_grammar.specs.declared.verb.Verb.TheVariants.{Clocked}
use Rattle.pt_grammar.specs.declared.verb.TheConstants.{VERBS}

-- the word of a call that takes one name  [XSH, the call's page, without `pthread_`; profile]
abbrev pub named_word : NamedVerb → List ℕ
named_word Lock = codes "lock"
named_word Trylock = codes "trylock"
named_word Unlock = codes "unlock"
named_word Consistent = codes "consistent"
named_word MutexDestroy = codes "mutex-destroy"
named_word RwlockInit = codes "rwlock-init"
named_word Rdlock = codes "rdlock"
named_word Tryrdlock = codes "tryrdlock"
named_word Wrlock = codes "wrlock"
named_word Trywrlock = codes "trywrlock"
named_word Rwunlock = codes "rwunlock"
named_word RwlockDestroy = codes "rwlock-destroy"
named_word CondInit = codes "cond-init"
named_word CondDestroy = codes "cond-destroy"
named_word Signal = codes "signal"
named_word Broadcast = codes "broadcast"
named_word Bwait = codes "bwait"
named_word BarrierDestroy = codes "barrier-destroy"

-- the word of a call that takes a name and a deadline
abbrev pub timed_word : TimedVerb → List ℕ
timed_word Timedlock = codes "timedlock"
timed_word Timedrdlock = codes "timedrdlock"
timed_word Timedwrlock = codes "timedwrlock"

-- the word of a call that takes a name, a clock and a deadline
abbrev pub clocked_word : ClockedVerb → List ℕ
clocked_word Clocklock = codes "clocklock"
clocked_word Clockrdlock = codes "clockrdlock"
clocked_word Clockwrlock = codes "clockwrlock"

-- the word of a moment of this clock
abbrev pub moment_word : Clock → List ℕ
moment_word Real = codes "moment"
moment_word Mono = codes "mono-moment"

-- the word that a line of a verb begins with
abbrev pub word_of : Verb → List ℕ
word_of Hello = codes "hello"
word_of (Moment clock) = moment_word clock
word_of MutexInit = codes "mutex-init"
word_of BarrierInit = codes "barrier-init"
word_of Wait = codes "wait"
word_of Timedwait = codes "timedwait"
word_of Clockwait = codes "clockwait"
word_of (Named verb) = named_word verb
word_of (Timed verb) = timed_word verb
word_of (Clocked verb) = clocked_word verb

-- the verb with this word
abbrev pub verb_of : List ℕ → Option Verb
verb_of text = find (λ verb. bytes_eq (word_of verb) text) VERBS

-- the call that a word makes on one name with a deadline
abbrev pub call_until : TimedVerb → List ℕ → Timespec → Call
call_until Timedlock name deadline = call.Timedlock name deadline
call_until Timedrdlock name deadline = call.Timedrdlock name deadline
call_until Timedwrlock name deadline = call.Timedwrlock name deadline

-- the call that a word makes on one name with a deadline of a clock
abbrev pub call_by_clock : ClockedVerb → List ℕ → Clock → Timespec → Call
call_by_clock Clocklock name clock deadline = call.Clocklock name clock deadline
call_by_clock Clockrdlock name clock deadline = call.Clockrdlock name clock deadline
call_by_clock Clockwrlock name clock deadline = call.Clockwrlock name clock deadline
