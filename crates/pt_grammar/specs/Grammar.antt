-- Grammar: which text spells which line. Words are separated by exactly one space.
use Rattle.std.specs.Prelude.{◌≡◌, ℕ, ◌≤◌, ◌<◌, ◌⊎◌, Bool, true, false, List, [], ◌∷◌, decimal}
use Rattle.std.specs.Prelude.{codes}
use Rattle.pt_types.specs.Limits.{max_priority, nanoseconds_per_second}
use Rattle.pt_types.specs.Names.{IsName}
use Rattle.pt_types.specs.Times.{Timespec, nanos}
use Rattle.pt_types.specs.declared.time.Clock.{Clock}
use Rattle.pt_types.specs.declared.time.Clock.TheVariants.{Real, Mono}
use Rattle.pt_types.specs.declared.call.MutexKind.{MutexKind}
use Rattle.pt_types.specs.declared.call.MutexKind.TheVariants.{Normal, Errorcheck, Recursive}
use Rattle.pt_types.specs.declared.call.Call.{Call}
use Rattle.pt_types.specs.declared.call.Call.TheVariants.{MutexInit, Lock, Trylock, Timedlock}
use Rattle.pt_types.specs.declared.call.Call.TheVariants.{Clocklock, Unlock, Consistent}
use Rattle.pt_types.specs.declared.call.Call.TheVariants.{MutexDestroy, RwlockInit, Rdlock}
use Rattle.pt_types.specs.declared.call.Call.TheVariants.{Tryrdlock, Timedrdlock, Clockrdlock}
use Rattle.pt_types.specs.declared.call.Call.TheVariants.{Wrlock, Trywrlock, Timedwrlock}
use Rattle.pt_types.specs.declared.call.Call.TheVariants.{Clockwrlock, Rwunlock, RwlockDestroy}
use Rattle.pt_types.specs.declared.call.Call.TheVariants.{CondInit, CondDestroy, Wait, Timedwait}
use Rattle.pt_types.specs.declared.call.Call.TheVariants.{Clockwait, Signal, Broadcast, BarrierInit}
use Rattle.pt_types.specs.declared.call.Call.TheVariants.{Bwait, BarrierDestroy}
use Rattle.pt_grammar.specs.declared.call_line.CallLine.{CallLine}
use Rattle.pt_grammar.specs.declared.call_line.CallLine.TheVariants.{Hello, Ask, Tick}
use Rattle.pt_fields.specs.Fields.{join_with_spaces}
use Rattle.pt_fields.specs.Numbers.{IsNumber}

-- the words for the kind of a mutex: `default` is `normal`  [profile]
abbrev pub IsKindWord : MutexKind → List ℕ → Type 0
IsKindWord Normal word = (word ≡ codes "normal") ⊎ (word ≡ codes "default")
IsKindWord Errorcheck word = word ≡ codes "errorcheck"
IsKindWord Recursive word = word ≡ codes "recursive"

-- the word that says whether a mutex is robust  [XSH pthread_mutexattr_setrobust; profile]
abbrev pub robust_word : Bool → List ℕ
robust_word true = codes "robust"
robust_word false = codes "stalled"

-- the name of a clock  [XBD time.h, CLOCK_REALTIME and CLOCK_MONOTONIC; profile]
abbrev pub clock_name : Clock → List ℕ
clock_name Real = codes "real"
clock_name Mono = codes "mono"

-- the text is a word and the name of an object  [profile]
pub record OnName (text word name : List ℕ) : Type 0 where
  pub named : IsName name
  pub spelled : text ≡ join_with_spaces word (name ∷ [])

-- the text is a word, the name of an object, and the seconds and nanoseconds of a deadline
-- [profile]
pub record OnNameUntil (text word name : List ℕ) (d : Timespec) : Type 0 where
  pub named : IsName name
  pub sec : IsNumber d.sec
  pub nsec : IsNumber d.nsec
  pub spelled : text ≡ join_with_spaces word (name ∷ decimal d.sec ∷ decimal d.nsec ∷ [])

-- the text is a word, the name of an object, the name of a clock, and a deadline  [profile]
pub record OnNameByClock (text word name : List ℕ) (clock : Clock) (d : Timespec) : Type 0 where
  pub named : IsName name
  pub sec : IsNumber d.sec
  pub nsec : IsNumber d.nsec
  pub spelled :
      text ≡ join_with_spaces word (name ∷ clock_name clock ∷ decimal d.sec ∷ decimal d.nsec ∷ [])

-- the text is `mutex-init` with a name, a kind, and `robust` or `stalled`  [profile]
pub record OnNewMutex (text name : List ℕ) (kind : MutexKind) (robust : Bool) : Type 0 where
  pub named : IsName name
  pub word : List ℕ
  pub kind_is : IsKindWord kind word
  pub spelled : text ≡ join_with_spaces (codes "mutex-init") (name ∷ word ∷ robust_word robust ∷ [])

-- the text is `barrier-init` with a name and a count  [profile]
pub record OnNewBarrier (text name : List ℕ) (count : ℕ) : Type 0 where
  pub named : IsName name
  pub counted : IsNumber count
  pub spelled : text ≡ join_with_spaces (codes "barrier-init") (name ∷ decimal count ∷ [])

-- the text is `wait` with the names of a condition and a mutex  [profile]
pub record OnWait (text cond mutex : List ℕ) : Type 0 where
  pub cond_named : IsName cond
  pub mutex_named : IsName mutex
  pub spelled : text ≡ join_with_spaces (codes "wait") (cond ∷ mutex ∷ [])

-- the text is `timedwait` with the names of a condition and a mutex, and a deadline  [profile]
pub record OnTimedwait (text cond mutex : List ℕ) (d : Timespec) : Type 0 where
  pub cond_named : IsName cond
  pub mutex_named : IsName mutex
  pub sec : IsNumber d.sec
  pub nsec : IsNumber d.nsec
  pub spelled :
      text ≡ join_with_spaces (codes "timedwait") (cond ∷ mutex ∷ decimal d.sec ∷ decimal d.nsec ∷ [])

-- the text is `clockwait` with the names of a condition, a mutex and a clock, and a deadline
-- [profile]
pub record OnClockwait (text cond mutex : List ℕ) (clock : Clock) (d : Timespec) : Type 0 where
  pub cond_named : IsName cond
  pub mutex_named : IsName mutex
  pub sec : IsNumber d.sec
  pub nsec : IsNumber d.nsec
  pub spelled :
      text
      ≡ join_with_spaces (codes "clockwait")
      (cond ∷ mutex ∷ clock_name clock ∷ decimal d.sec ∷ decimal d.nsec ∷ [])

-- the text spells this call  [XSH, the call's page, for the arguments; profile]
abbrev pub SpellsCall : List ℕ → Call → Type 0
SpellsCall t (MutexInit name kind robust) = OnNewMutex t name kind robust
SpellsCall t (Lock name) = OnName t (codes "lock") name
SpellsCall t (Trylock name) = OnName t (codes "trylock") name
SpellsCall t (Timedlock name d) = OnNameUntil t (codes "timedlock") name d
SpellsCall t (Clocklock name k d) = OnNameByClock t (codes "clocklock") name k d
SpellsCall t (Unlock name) = OnName t (codes "unlock") name
SpellsCall t (Consistent name) = OnName t (codes "consistent") name
SpellsCall t (MutexDestroy name) = OnName t (codes "mutex-destroy") name
SpellsCall t (RwlockInit name) = OnName t (codes "rwlock-init") name
SpellsCall t (Rdlock name) = OnName t (codes "rdlock") name
SpellsCall t (Tryrdlock name) = OnName t (codes "tryrdlock") name
SpellsCall t (Timedrdlock name d) = OnNameUntil t (codes "timedrdlock") name d
SpellsCall t (Clockrdlock name k d) = OnNameByClock t (codes "clockrdlock") name k d
SpellsCall t (Wrlock name) = OnName t (codes "wrlock") name
SpellsCall t (Trywrlock name) = OnName t (codes "trywrlock") name
SpellsCall t (Timedwrlock name d) = OnNameUntil t (codes "timedwrlock") name d
SpellsCall t (Clockwrlock name k d) = OnNameByClock t (codes "clockwrlock") name k d
SpellsCall t (Rwunlock name) = OnName t (codes "rwunlock") name
SpellsCall t (RwlockDestroy name) = OnName t (codes "rwlock-destroy") name
SpellsCall t (CondInit name) = OnName t (codes "cond-init") name
SpellsCall t (CondDestroy name) = OnName t (codes "cond-destroy") name
SpellsCall t (Wait cond mutex) = OnWait t cond mutex
SpellsCall t (Timedwait cond mutex d) = OnTimedwait t cond mutex d
SpellsCall t (Clockwait cond mutex k d) = OnClockwait t cond mutex k d
SpellsCall t (Signal name) = OnName t (codes "signal") name
SpellsCall t (Broadcast name) = OnName t (codes "broadcast") name
SpellsCall t (BarrierInit name count) = OnNewBarrier t name count
SpellsCall t (Bwait name) = OnName t (codes "bwait") name
SpellsCall t (BarrierDestroy name) = OnName t (codes "barrier-destroy") name

-- the text is `hello` with a priority, from 1 to the highest  [profile]
pub record OnHello (text : List ℕ) (p : ℕ) : Type 0 where
  pub low : 1 ≤ p
  pub high : p ≤ max_priority
  pub spelled : text ≡ join_with_spaces (codes "hello") (decimal p ∷ [])

-- the text is a word with seconds, and nanoseconds below 1,000,000,000  [profile]
pub record OnMoment (text word : List ℕ) (t : ℕ) : Type 0 where
  pub sec : ℕ
  pub nsec : ℕ
  pub sec_fits : IsNumber sec
  pub nsec_fits : nsec < nanoseconds_per_second
  pub time : t ≡ nanos sec nsec
  pub spelled : text ≡ join_with_spaces word (decimal sec ∷ decimal nsec ∷ [])

-- the text spells this line  [profile]
abbrev pub Spells : List ℕ → CallLine → Type 0
Spells text (Hello p) = OnHello text p
Spells text (Ask call) = SpellsCall text call
Spells text (Tick Real t) = OnMoment text (codes "moment") t
Spells text (Tick Mono t) = OnMoment text (codes "mono-moment") t
