-- Laws: the text of a call is read as that call, and the text of an entry is that of no other.
use Rattle.std.specs.Prelude.{◌≡◌, ℕ, ◌<◌, ◌^◌, List, Ok}
use Rattle.pt_types.specs.Names.{IsName}
use Rattle.pt_types.specs.Times.{Timespec}
use Rattle.pt_types.specs.declared.call.Call.{Call}
use Rattle.pt_types.specs.declared.call.Call.TheVariants.{MutexInit, Lock, Trylock, Timedlock}
use Rattle.pt_types.specs.declared.call.Call.TheVariants.{Clocklock, Unlock, Consistent}
use Rattle.pt_types.specs.declared.call.Call.TheVariants.{MutexDestroy, RwlockInit, Rdlock}
use Rattle.pt_types.specs.declared.call.Call.TheVariants.{Tryrdlock, Timedrdlock, Clockrdlock}
use Rattle.pt_types.specs.declared.call.Call.TheVariants.{Wrlock, Trywrlock, Timedwrlock}
use Rattle.pt_types.specs.declared.call.Call.TheVariants.{Clockwrlock, Rwunlock, RwlockDestroy}
use Rattle.pt_types.specs.declared.call.Call.TheVariants.{CondInit, CondDestroy, Wait, Timedwait}
use Rattle.pt_types.specs.declared.call.Call.TheVariants.{Clockwait, Signal, Broadcast, BarrierInit}
use Rattle.pt_types.specs.declared.call.Call.TheVariants.{Bwait, BarrierDestroy}
use Rattle.pt_fields.specs.Numbers.{IsNumber}
use Rattle.pt_grammar.specs.declared.call_line.CallLine.TheVariants.{Ask}
use Rattle.pt_grammar.specs.Reading.{call_read}
use Rattle.pt_model.specs.declared.entry.Entry.{Entry}
use Rattle.pt_model.specs.declared.entry.Entry.TheVariants as entry
use Rattle.pt_entries.specs.CallTexts.{call_text}
use Rattle.pt_entries.specs.EntryTexts.{entry_text}

-- a deadline that a line can have
pub record IsLineDeadline (d : Timespec) : Type 0 where
  pub sec : IsNumber d.sec
  pub nsec : IsNumber d.nsec

-- a call that a line can make: its names are names, and its numbers are numbers
abbrev pub IsLineCall : Call → Type 0
IsLineCall (Timedlock n d) = IsName n × IsLineDeadline d
IsLineCall (Clocklock n k d) = IsName n × IsLineDeadline d
IsLineCall (Timedrdlock n d) = IsName n × IsLineDeadline d
IsLineCall (Clockrdlock n k d) = IsName n × IsLineDeadline d
IsLineCall (Timedwrlock n d) = IsName n × IsLineDeadline d
IsLineCall (Clockwrlock n k d) = IsName n × IsLineDeadline d
IsLineCall (Wait n m) = IsName n × IsName m
IsLineCall (Timedwait n m d) = IsName n × IsName m × IsLineDeadline d
IsLineCall (Clockwait n m k d) = IsName n × IsName m × IsLineDeadline d
IsLineCall (BarrierInit n count) = IsName n × IsNumber count
IsLineCall (MutexInit n kind robust) = IsName n
IsLineCall (Lock n) = IsName n
IsLineCall (Trylock n) = IsName n
IsLineCall (Unlock n) = IsName n
IsLineCall (Consistent n) = IsName n
IsLineCall (MutexDestroy n) = IsName n
IsLineCall (RwlockInit n) = IsName n
IsLineCall (Rdlock n) = IsName n
IsLineCall (Tryrdlock n) = IsName n
IsLineCall (Wrlock n) = IsName n
IsLineCall (Trywrlock n) = IsName n
IsLineCall (Rwunlock n) = IsName n
IsLineCall (RwlockDestroy n) = IsName n
IsLineCall (CondInit n) = IsName n
IsLineCall (CondDestroy n) = IsName n
IsLineCall (Signal n) = IsName n
IsLineCall (Broadcast n) = IsName n
IsLineCall (Bwait n) = IsName n
IsLineCall (BarrierDestroy n) = IsName n

-- Call texts are read: the text of a call that a line can make is read as that call, so no two such
-- calls have the same text.
abbrev pub CallTextsAreRead : Type 0
CallTextsAreRead = (call : Call) → IsLineCall call → call_read (call_text call) ≡ Ok (Ask call)

-- an entry that a script can have: its numbers have 64 bits, and a line can make its call
abbrev pub IsLineEntry : Entry → Type 0
IsLineEntry (entry.Join c p) = (c < 2 ^ 64) × (p < 2 ^ 64)
IsLineEntry (entry.Call c call x) = (c < 2 ^ 64) × IsLineCall call
IsLineEntry (entry.Death c) = c < 2 ^ 64
IsLineEntry (entry.Moment k t) = t < 2 ^ 64
IsLineEntry (entry.Grant j x) = j < 2 ^ 64
IsLineEntry (entry.Trip b) = b < 2 ^ 64
IsLineEntry (entry.Yield m) = m < 2 ^ 64
IsLineEntry (entry.Expire j) = j < 2 ^ 64

-- Entry texts differ: no two entries that a script can have share a text.
abbrev pub EntryTextsDiffer : Type 0
EntryTextsDiffer =
    (e other : Entry) → IsLineEntry e → IsLineEntry other → entry_text e ≡ entry_text other
    → e ≡ other
