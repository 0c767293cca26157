-- Laws: the turns at an object are in the order of their keys, and none is missing.
use Rattle.std.specs.Prelude.{◌≡◌, ℕ, ◌==◌, false, List, [], ◌∷◌, ◌++◌, Option, Some, None}
use Rattle.std.specs.Prelude.{if◌then◌else◌}
use Rattle.std.specs.List.{AllByRecursion as Each}
use Rattle.std.specs.List.Sorted.{IsPermutation}
use Rattle.pt_types.specs.KeyOrder.{goes_before}
use Rattle.pt_types.specs.declared.operations.ObjectClass.{ObjectClass}
use Rattle.pt_model.specs.Histories.{History}
use Rattle.pt_readable.specs.declared.waiting.Waiting.{Waiting}
use Rattle.pt_readable.specs.Reading.{waiting_of}
use Rattle.pt_states.specs.declared.turns.Turn.{Turn}
use Rattle.pt_states.specs.Turns.{turn_key, turns_at}

-- no turn goes before one that is ahead of it in the list  [XSH 2.8.4, pthread_rwlock_unlock]
abbrev pub AreInTurn : List Turn → Type 0
AreInTurn [] = Unit {0}
AreInTurn (t ∷ ts) = Each (λ u. goes_before u.key t.key ≡ false) ts × AreInTurn ts

-- the turn of a client, if its call waits at the object
abbrev pub turn_if : ObjectClass → ℕ → List ℕ → Option Waiting → List Turn
turn_if class o name None = []
turn_if class o name (Some w) =
    if w.object == o then record { name = name; key = turn_key class w.key } ∷ [] else []

-- the turns of the clients whose calls wait at the object, in the order of the clients
abbrev pub waiting_there : History → ObjectClass → ℕ → List (List ℕ × ℕ) → List Turn
waiting_there h class o [] = []
waiting_there h class o (row ∷ rows) =
    turn_if class o row.0 (waiting_of h row.1) ++ waiting_there h class o rows

-- the turns at an object are those of all clients whose calls wait there, in order  [XSH 2.8.4]
abbrev pub Turns : Type 0
Turns =
    (h : History) (class : ObjectClass) (o : ℕ) (clients : List (List ℕ × ℕ))
    → AreInTurn (turns_at h class o clients)
    × IsPermutation (waiting_there h class o clients) (turns_at h class o clients)
