-- Faults: how a program that serves ends with a fault, and what it reports.
use Rattle.std.specs.Prelude.{ℕ, ◌++◌, List, [], ◌∷◌, codes, decimal}
use Rattle.pt_hub.specs.declared.closing.CloseFault.{CloseFault}
use Rattle.pt_hub.specs.declared.closing.CloseFault.TheVariants.{Missing, Forked}
use Rattle.pt_hub.specs.declared.closing.CloseFault.TheVariants.{Memory as CloseMemory}
use Rattle.pt_serve.specs.declared.fault.ServeFault.{ServeFault}
use Rattle.pt_serve.specs.declared.fault.ServeFault.TheVariants.{Bind, Accept, Thread, Write, Close}
use Rattle.pt_serve.specs.declared.fault.ServeFault.TheVariants.{Memory}

-- the exit status after a fault: 3 for that of a device, 4 if the history does not close, 5 for
-- lack of memory  [profile]
abbrev pub serve_status : ServeFault → ℕ
serve_status Bind = 3
serve_status Accept = 3
serve_status Thread = 3
serve_status Write = 3
serve_status (Close fault) = 4
serve_status Memory = 5

-- the words that say why the history does not close  [profile]
abbrev pub close_words : CloseFault → List ℕ
close_words (Missing expected found) =
    codes "Missing " ++ decimal expected ++ 32 ∷ decimal found
close_words (Forked place) = codes "Forked " ++ decimal place
close_words CloseMemory = codes "Memory"

-- the words that report a fault  [profile]
abbrev pub serve_words : ServeFault → List ℕ
serve_words Bind = codes "bind failed"
serve_words Accept = codes "accept failed"
serve_words Thread = codes "thread failed"
serve_words Write = codes "write failed"
serve_words (Close fault) = codes "close " ++ close_words fault
serve_words Memory = codes "out of memory"

-- the line that reports a fault, with its newline
abbrev pub serve_report : ServeFault → List ℕ
serve_report fault = codes "ptserver: " ++ serve_words fault ++ 10 ∷ []
