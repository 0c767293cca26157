-- The text of a call spells that call.
use Rattle.std.proofs.Common.{◌≡◌, ℕ, List, refl, inl}
use Rattle.std.specs.Prelude.{codes}
use Rattle.pt_types.specs.declared.call.MutexKind.{MutexKind}
use Rattle.pt_types.specs.declared.call.MutexKind.TheVariants.{Normal, Errorcheck, Recursive}
use Rattle.pt_types.specs.declared.call.Call.{Call}
use Rattle.pt_types.specs.declared.call.Call.TheVariants.{MutexInit, Lock, Trylock, Timedlock}
use Rattle.pt_types.specs.declared.call.Call.TheVariants.{Clocklock, Unlock, Consistent}
use Rattle.pt_types.specs.declared.call.Call.TheVariants.{MutexDestroy, RwlockInit, Rdlock}
use Rattle.pt_types.specs.declared.call.Call.TheVariants.{Tryrdlock, Timedrdlock, Clockrdlock}
use Rattle.pt_types.specs.declared.call.Call.TheVariants.{Wrlock, Trywrlock, Timedwrlock}
use Rattle.pt_types.specs.declared.call.Call.TheVariants.{Clockwrlock, Rwunlock, RwlockDestroy}
use Rattle.pt_types.specs.declared.call.Call.TheVariants.{CondInit, CondDestroy, Wait, Timedwait}
use Rattle.pt_types.specs.declared.call.Call.TheVariants.{Clockwait, Signal, Broadcast, BarrierInit}
use Rattle.pt_types.specs.declared.call.Call.TheVariants.{Bwait, BarrierDestroy}
use Rattle.pt_grammar.specs.declared.call_line.CallLine.TheVariants.{Ask}
use Rattle.pt_grammar.specs.Grammar.{SpellsCall, IsKindWord}
use Rattle.pt_grammar.proofs.GrammarLemmas.{call_read-spelled}
use Rattle.pt_entries.specs.CallTexts.{call_text, kind_word}
use Rattle.pt_entries.specs.Laws.{IsLineCall, CallTextsAreRead}

-- the word of a kind of mutex is one of those that a line has for it
kind_is : (kind : MutexKind) → IsKindWord kind (kind_word kind)
kind_is Normal = inl refl
kind_is Errorcheck = refl
kind_is Recursive = refl

-- the text of a call that a line can make spells that call
pub spells : (call : Call) → IsLineCall call → SpellsCall (call_text call) call
spells (MutexInit n kind robust) h =
    record { named = h; word = kind_word kind; kind_is = kind_is kind; spelled = refl }
spells (Lock n) h = record { named = h; spelled = refl }
spells (Trylock n) h = record { named = h; spelled = refl }
spells (Timedlock n d) h =
    record { named = h.0; sec = h.1.sec; nsec = h.1.nsec; spelled = refl }
spells (Clocklock n k d) h =
    record { named = h.0; sec = h.1.sec; nsec = h.1.nsec; spelled = refl }
spells (Unlock n) h = record { named = h; spelled = refl }
spells (Consistent n) h = record { named = h; spelled = refl }
spells (MutexDestroy n) h = record { named = h; spelled = refl }
spells (RwlockInit n) h = record { named = h; spelled = refl }
spells (Rdlock n) h = record { named = h; spelled = refl }
spells (Tryrdlock n) h = record { named = h; spelled = refl }
spells (Timedrdlock n d) h =
    record { named = h.0; sec = h.1.sec; nsec = h.1.nsec; spelled = refl }
spells (Clockrdlock n k d) h =
    record { named = h.0; sec = h.1.sec; nsec = h.1.nsec; spelled = refl }
spells (Wrlock n) h = record { named = h; spelled = refl }
spells (Trywrlock n) h = record { named = h; spelled = refl }
spells (Timedwrlock n d) h =
    record { named = h.0; sec = h.1.sec; nsec = h.1.nsec; spelled = refl }
spells (Clockwrlock n k d) h =
    record { named = h.0; sec = h.1.sec; nsec = h.1.nsec; spelled = refl }
spells (Rwunlock n) h = record { named = h; spelled = refl }
spells (RwlockDestroy n) h = record { named = h; spelled = refl }
spells (CondInit n) h = record { named = h; spelled = refl }
spells (CondDestroy n) h = record { named = h; spelled = refl }
spells (Wait n m) h = record { cond_named = h.0; mutex_named = h.1; spelled = refl }
spells (Timedwait n m d) h =
    record {
      cond_named = h.0;
      mutex_named = h.1;
      sec = h.2.sec;
      nsec = h.2.nsec;
      spelled = refl;
    }
spells (Clockwait n m k d) h =
    record {
      cond_named = h.0;
      mutex_named = h.1;
      sec = h.2.sec;
      nsec = h.2.nsec;
      spelled = refl;
    }
spells (Signal n) h = record { named = h; spelled = refl }
spells (Broadcast n) h = record { named = h; spelled = refl }
spells (BarrierInit n count) h = record { named = h.0; counted = h.1; spelled = refl }
spells (Bwait n) h = record { named = h; spelled = refl }
spells (BarrierDestroy n) h = record { named = h; spelled = refl }

-- so it is read as that call
pub texts_are_read : CallTextsAreRead
texts_are_read call h = call_read-spelled (call_text call) (Ask call) (spells call h)
