-- The text of a call has no comma.
use Rattle.std.proofs.Common.{◌≡◌, ℕ, ◌<◌, ◌^◌, Bool, true, false, List, [], ◌∷◌, decimal, refl}
use Rattle.std.proofs.Common.{arith, rules}
use Rattle.std.proofs.lemmas.Fmt.{digits_decimal}
use Rattle.std.proofs.lemmas.Str.Parse.{IsNumeralModel, numerals_by_value}
use Rattle.std.specs.Prelude.{codes}
use Rattle.std.specs.List.{list_all}
use Rattle.std.specs.Str.Parse.{digits_value}
use Rattle.pt_types.specs.Names.{IsName, is_name_byte}
use Rattle.pt_types.specs.Times.{Timespec}
use Rattle.pt_types.specs.declared.time.Clock.{Clock}
use Rattle.pt_types.specs.declared.time.Clock.TheVariants.{Real, Mono}
use Rattle.pt_types.specs.declared.call.MutexKind.{MutexKind}
use Rattle.pt_types.specs.declared.call.MutexKind.TheVariants.{Normal, Errorcheck, Recursive}
use Rattle.pt_types.specs.declared.call.Call.{Call}
use Rattle.pt_types.specs.declared.call.Call.TheVariants.{MutexInit, Lock, Trylock, Timedlock}
use Rattle.pt_types.specs.declared.call.Call.TheVariants.{Clocklock, Unlock, Consistent}
use Rattle.pt_types.specs.declared.call.Call.TheVariants.{MutexDestroy, RwlockInit, Rdlock}
use Rattle.pt_types.specs.declared.call.Call.TheVariants.{Tryrdlock, Timedrdlock, Clockrdlock}
use Rattle.pt_types.specs.declared.call.Call.TheVariants.{Wrlock, Trywrlock, Timedwrlock}
use Rattle.pt_types.specs.declared.call.Call.TheVariants.{Clockwrlock, Rwunlock, RwlockDestroy}
use Rattle.pt_types.specs.declared.call.Call.TheVariants.{CondInit, CondDestroy, Wait, Timedwait}
use Rattle.pt_types.specs.declared.call.Call.TheVariants.{Clockwait, Signal, Broadcast, BarrierInit}
use Rattle.pt_types.specs.declared.call.Call.TheVariants.{Bwait, BarrierDestroy}
use Rattle.pt_fields.specs.Numbers.{IsNumber, is_digit}
use Rattle.pt_grammar.specs.Grammar.{clock_name, robust_word}
use Rattle.pt_entries.specs.CallTexts.{call_text, deadline_words, kind_word}
use Rattle.pt_entries.specs.Laws.{IsLineCall, IsLineDeadline}
use Rattle.pt_entries.proofs.Cutting.{AllAvoid, Avoids, avoids_by, spaced_avoid}

own : IsNumeralModel (λ ds. list_all is_digit ds ≡ true) (digits_value 10)
own = numerals_by_value _ (search rules)

-- a number has neither a comma nor a parenthesis
pub number : (n : ℕ) → n < 2 ^ 64 → Avoids 44 (decimal n)
number n h = avoids_by is_digit 44 (decimal n) refl (digits_decimal own n h)

pub number_closed : (n : ℕ) → n < 2 ^ 64 → Avoids 41 (decimal n)
number_closed n h = avoids_by is_digit 41 (decimal n) refl (digits_decimal own n h)

small : (n : ℕ) → IsNumber n → n < 2 ^ 64
small n h = omega arith

name : (n : List ℕ) → IsName n → Avoids 44 n
name n h = avoids_by is_name_byte 44 n refl h.bytes

deadline : (d : Timespec) → IsLineDeadline d → AllAvoid 44 (deadline_words d)
deadline d h = (number d.sec (small d.sec h.sec), (number d.nsec (small d.nsec h.nsec), tt))

kind_plain : (kind : MutexKind) → Avoids 44 (kind_word kind)
kind_plain Normal = refl
kind_plain Errorcheck = refl
kind_plain Recursive = refl

robust_plain : (robust : Bool) → Avoids 44 (robust_word robust)
robust_plain true = refl
robust_plain false = refl

clock_plain : (k : Clock) → Avoids 44 (clock_name k)
clock_plain Real = refl
clock_plain Mono = refl

pub no_comma : (call : Call) → IsLineCall call → Avoids 44 (call_text call)
no_comma (MutexInit n kind robust) h =
    spaced_avoid (codes "mutex-init") (n ∷ kind_word kind ∷ robust_word robust ∷ []) refl
    (name n h, (kind_plain kind, (robust_plain robust, tt)))
no_comma (Lock n) h = spaced_avoid (codes "lock") (n ∷ []) refl (name n h, tt)
no_comma (Trylock n) h = spaced_avoid (codes "trylock") (n ∷ []) refl (name n h, tt)
no_comma (Timedlock n d) h =
    spaced_avoid (codes "timedlock") (n ∷ deadline_words d) refl (name n h.0, deadline d h.1)
no_comma (Clocklock n k d) h =
    spaced_avoid (codes "clocklock") (n ∷ clock_name k ∷ deadline_words d) refl
    (name n h.0, (clock_plain k, deadline d h.1))
no_comma (Unlock n) h = spaced_avoid (codes "unlock") (n ∷ []) refl (name n h, tt)
no_comma (Consistent n) h = spaced_avoid (codes "consistent") (n ∷ []) refl (name n h, tt)
no_comma (MutexDestroy n) h = spaced_avoid (codes "mutex-destroy") (n ∷ []) refl (name n h, tt)
no_comma (RwlockInit n) h = spaced_avoid (codes "rwlock-init") (n ∷ []) refl (name n h, tt)
no_comma (Rdlock n) h = spaced_avoid (codes "rdlock") (n ∷ []) refl (name n h, tt)
no_comma (Tryrdlock n) h = spaced_avoid (codes "tryrdlock") (n ∷ []) refl (name n h, tt)
no_comma (Timedrdlock n d) h =
    spaced_avoid (codes "timedrdlock") (n ∷ deadline_words d) refl (name n h.0, deadline d h.1)
no_comma (Clockrdlock n k d) h =
    spaced_avoid (codes "clockrdlock") (n ∷ clock_name k ∷ deadline_words d) refl
    (name n h.0, (clock_plain k, deadline d h.1))
no_comma (Wrlock n) h = spaced_avoid (codes "wrlock") (n ∷ []) refl (name n h, tt)
no_comma (Trywrlock n) h = spaced_avoid (codes "trywrlock") (n ∷ []) refl (name n h, tt)
no_comma (Timedwrlock n d) h =
    spaced_avoid (codes "timedwrlock") (n ∷ deadline_words d) refl (name n h.0, deadline d h.1)
no_comma (Clockwrlock n k d) h =
    spaced_avoid (codes "clockwrlock") (n ∷ clock_name k ∷ deadline_words d) refl
    (name n h.0, (clock_plain k, deadline d h.1))
no_comma (Rwunlock n) h = spaced_avoid (codes "rwunlock") (n ∷ []) refl (name n h, tt)
no_comma (RwlockDestroy n) h = spaced_avoid (codes "rwlock-destroy") (n ∷ []) refl (name n h, tt)
no_comma (CondInit n) h = spaced_avoid (codes "cond-init") (n ∷ []) refl (name n h, tt)
no_comma (CondDestroy n) h = spaced_avoid (codes "cond-destroy") (n ∷ []) refl (name n h, tt)
no_comma (Wait n m) h = spaced_avoid (codes "wait") (n ∷ m ∷ []) refl (name n h.0, (name m h.1, tt))
no_comma (Timedwait n m d) h =
    spaced_avoid (codes "timedwait") (n ∷ m ∷ deadline_words d) refl
    (name n h.0, (name m h.1, deadline d h.2))
no_comma (Clockwait n m k d) h =
    spaced_avoid (codes "clockwait") (n ∷ m ∷ clock_name k ∷ deadline_words d) refl
    (name n h.0, (name m h.1, (clock_plain k, deadline d h.2)))
no_comma (Signal n) h = spaced_avoid (codes "signal") (n ∷ []) refl (name n h, tt)
no_comma (Broadcast n) h = spaced_avoid (codes "broadcast") (n ∷ []) refl (name n h, tt)
no_comma (BarrierInit n count) h =
    spaced_avoid (codes "barrier-init") (n ∷ decimal count ∷ []) refl
    (name n h.0, (number count (small count h.1), tt))
no_comma (Bwait n) h = spaced_avoid (codes "bwait") (n ∷ []) refl (name n h, tt)
no_comma (BarrierDestroy n) h = spaced_avoid (codes "barrier-destroy") (n ∷ []) refl (name n h, tt)
