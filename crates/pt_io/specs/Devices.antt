-- Devices: what went through a device, how often it was read, rejected bytes and failed, and
-- whether it ended.
use Rattle.std.specs.Prelude.{ℕ, ◌-◌, ◌==◌, ◌≤◌, Bool, true, false, ◌&&◌, List, map, length, take}
use Rattle.std.specs.Prelude.{drop, nat_lt, Result, Ok, Err}
use Prim.{Unit}
use Rattle.std.proofs.Common.{lit≤}
use Rattle.std.proofs.lemmas.List.{take-append-drop}
use mathlib.Core.List.{IsPrefix}

-- the number of failures of a device that fails at most once
abbrev pub count_of : Bool → ℕ
count_of true = 1
count_of false = 0

pub count_of_once : (b : Bool) → count_of b ≤ 1
count_of_once true = lit≤ tt
count_of_once false = lit≤ tt

-- the bytes of a log that pairs each byte with nothing
abbrev pub bytes_of : List (ℕ × Unit {0}) → List ℕ
bytes_of ps = map (λ p. p.0) ps

-- all of these bytes except the last n
abbrev pub all_but : ℕ → List ℕ → List ℕ
all_but n bytes = take (length bytes - n) bytes

pub all_but_begins : (n : ℕ) (bytes : List ℕ) → IsPrefix (all_but n bytes) bytes
all_but_begins n bytes =
    (drop (length bytes - n) bytes, take-append-drop (length bytes - n) bytes)

-- whether no byte of a buffer moved, although it has some: a read is at the end, or a write is
-- rejected  [XSH read, write]
abbrev pub moves_none : ℕ → List ℕ → Bool
moves_none n buf = (n == 0) && nat_lt 0 (length buf)

-- whether a read's answer reports the end; an error does not  [XSH read]
abbrev pub tells_end : {E : Type 0} → Result ℕ E → List ℕ → Bool
tells_end (Ok n) buf = moves_none n buf
tells_end (Err e) buf = false

-- the number of rejections that a write's answer adds; an error adds none  [XSH write]
abbrev pub rejections_in : {E : Type 0} → Result ℕ E → List ℕ → ℕ
rejections_in (Ok n) buf = count_of (moves_none n buf)
rejections_in (Err e) buf = 0

-- a device of std and the bytes that it gave or took so far; the number of them that its latest
-- read gave, or that it took since its latest flush; the number of reads and of rejections; and
-- whether it failed or reported its end
pub record Tally (D : Type 0) : Type 0 where
  pub device : D
  pub bytes : List ℕ
  pub recent : ℕ
  pub reads : ℕ
  pub rejections : ℕ
  pub has_failed : Bool
  pub has_ended : Bool

-- a device in memory: the bytes that it gave, those that reads will give, and those that it took;
-- the number that its latest read gave, the number that it took since its latest flush, and the
-- number of reads; the most bytes that a call moves, which call from now on fails (0 for none), and
-- whether it failed or reported its end
pub record Memory : Type 0 where
  pub given : List ℕ
  pub left : List ℕ
  pub taken : List ℕ
  pub latest : ℕ
  pub unflushed : ℕ
  pub reads : ℕ
  pub step : ℕ
  pub until_fault : ℕ
  pub has_failed : Bool
  pub has_ended : Bool
