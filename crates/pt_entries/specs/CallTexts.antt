-- CallTexts: the text of a call, which is the line that makes it, without its client.
use Rattle.std.specs.Prelude.{ℕ, List, [], ◌∷◌, codes, decimal}
use Rattle.pt_types.specs.Times.{Timespec}
use Rattle.pt_types.specs.declared.call.MutexKind.{MutexKind}
use Rattle.pt_types.specs.declared.call.MutexKind.TheVariants.{Normal, Errorcheck, Recursive}
use Rattle.pt_types.specs.declared.call.Call.{Call}
use Rattle.pt_types.specs.declared.call.Call.TheVariants.{MutexInit, Lock, Trylock, Timedlock}
use Rattle.pt_types.specs.declared.call.Call.TheVariants.{Clocklock, Unlock, Consistent}
use Rattle.pt_types.specs.declared.call.Call.TheVariants.{MutexDestroy, RwlockInit, Rdlock}
use Rattle.pt_types.specs.declared.call.Call.TheVariants.{Tryrdlock, Timedrdlock, Clockrdlock}
use Rattle.pt_types.specs.declared.call.Call.TheVariants.{Wrlock, Trywrlock, Timedwrlock}
use Rattle.pt_types.specs.declared.call.Call.TheVariants.{Clockwrlock, Rwunlock, RwlockDestroy}
use Rattle.pt_types.specs.declared.call.Call.TheVariants.{CondInit, CondDestroy, Wait, Timedwait}
use Rattle.pt_types.specs.declared.call.Call.TheVariants.{Clockwait, Signal, Broadcast, BarrierInit}
use Rattle.pt_types.specs.declared.call.Call.TheVariants.{Bwait, BarrierDestroy}
use Rattle.pt_fields.specs.Fields.{join_with_spaces}
use Rattle.pt_grammar.specs.Grammar.{clock_name, robust_word}

-- the word of a kind of mutex; `default` is read as `normal`, and written so  [profile]
abbrev pub kind_word : MutexKind → List ℕ
kind_word Normal = codes "normal"
kind_word Errorcheck = codes "errorcheck"
kind_word Recursive = codes "recursive"

-- the word of a call  [XSH, the call's page, without `pthread_`; profile]
abbrev pub call_word : Call → List ℕ
call_word (MutexInit n kind robust) = codes "mutex-init"
call_word (Lock n) = codes "lock"
call_word (Trylock n) = codes "trylock"
call_word (Timedlock n d) = codes "timedlock"
call_word (Clocklock n k d) = codes "clocklock"
call_word (Unlock n) = codes "unlock"
call_word (Consistent n) = codes "consistent"
call_word (MutexDestroy n) = codes "mutex-destroy"
call_word (RwlockInit n) = codes "rwlock-init"
call_word (Rdlock n) = codes "rdlock"
call_word (Tryrdlock n) = codes "tryrdlock"
call_word (Timedrdlock n d) = codes "timedrdlock"
call_word (Clockrdlock n k d) = codes "clockrdlock"
call_word (Wrlock n) = codes "wrlock"
call_word (Trywrlock n) = codes "trywrlock"
call_word (Timedwrlock n d) = codes "timedwrlock"
call_word (Clockwrlock n k d) = codes "clockwrlock"
call_word (Rwunlock n) = codes "rwunlock"
call_word (RwlockDestroy n) = codes "rwlock-destroy"
call_word (CondInit n) = codes "cond-init"
call_word (CondDestroy n) = codes "cond-destroy"
call_word (Wait n m) = codes "wait"
call_word (Timedwait n m d) = codes "timedwait"
call_word (Clockwait n m k d) = codes "clockwait"
call_word (Signal n) = codes "signal"
call_word (Broadcast n) = codes "broadcast"
call_word (BarrierInit n count) = codes "barrier-init"
call_word (Bwait n) = codes "bwait"
call_word (BarrierDestroy n) = codes "barrier-destroy"

-- the words of a deadline: its seconds and its nanoseconds
abbrev pub deadline_words : Timespec → List (List ℕ)
deadline_words d = decimal d.sec ∷ decimal d.nsec ∷ []

-- the words that follow the word of a call
abbrev pub call_arguments : Call → List (List ℕ)
call_arguments (MutexInit n kind robust) = n ∷ kind_word kind ∷ robust_word robust ∷ []
call_arguments (Lock n) = n ∷ []
call_arguments (Trylock n) = n ∷ []
call_arguments (Timedlock n d) = n ∷ deadline_words d
call_arguments (Clocklock n k d) = n ∷ clock_name k ∷ deadline_words d
call_arguments (Unlock n) = n ∷ []
call_arguments (Consistent n) = n ∷ []
call_arguments (MutexDestroy n) = n ∷ []
call_arguments (RwlockInit n) = n ∷ []
call_arguments (Rdlock n) = n ∷ []
call_arguments (Tryrdlock n) = n ∷ []
call_arguments (Timedrdlock n d) = n ∷ deadline_words d
call_arguments (Clockrdlock n k d) = n ∷ clock_name k ∷ deadline_words d
call_arguments (Wrlock n) = n ∷ []
call_arguments (Trywrlock n) = n ∷ []
call_arguments (Timedwrlock n d) = n ∷ deadline_words d
call_arguments (Clockwrlock n k d) = n ∷ clock_name k ∷ deadline_words d
call_arguments (Rwunlock n) = n ∷ []
call_arguments (RwlockDestroy n) = n ∷ []
call_arguments (CondInit n) = n ∷ []
call_arguments (CondDestroy n) = n ∷ []
call_arguments (Wait n m) = n ∷ m ∷ []
call_arguments (Timedwait n m d) = n ∷ m ∷ deadline_words d
call_arguments (Clockwait n m k d) = n ∷ m ∷ clock_name k ∷ deadline_words d
call_arguments (Signal n) = n ∷ []
call_arguments (Broadcast n) = n ∷ []
call_arguments (BarrierInit n count) = n ∷ decimal count ∷ []
call_arguments (Bwait n) = n ∷ []
call_arguments (BarrierDestroy n) = n ∷ []

-- the text of a call: the line that makes it, without its client
abbrev pub call_text : Call → List ℕ
call_text call = join_with_spaces (call_word call) (call_arguments call)
