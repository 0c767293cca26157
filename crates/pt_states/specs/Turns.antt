-- Turns: the calls that wait at an object, in the order of their turns.
use Rattle.std.specs.Prelude.{ℕ, suc, ◌==◌, List, [], ◌∷◌, Option, Some, None, insert}
use Rattle.std.specs.Prelude.{if◌then◌else◌}
use Rattle.pt_types.specs.KeyOrder.{goes_before}
use Rattle.pt_types.specs.declared.key_order.Key.{Key}
use Rattle.pt_types.specs.declared.operations.ObjectClass.{ObjectClass}
use Rattle.pt_types.specs.declared.operations.ObjectClass.TheVariants.{Barrier}
use Rattle.pt_model.specs.Histories.{History}
use Rattle.pt_readable.specs.declared.waiting.Waiting.{Waiting}
use Rattle.pt_readable.specs.Reading.{waiting_of}
use Rattle.pt_states.specs.declared.turns.Turn.{Turn}

-- the key by which a call has its turn at an object of this class; at a barrier, where all calls go
-- on at once, only the arrival counts  [XSH 2.8.4, pthread_barrier_wait]
abbrev pub turn_key : ObjectClass → Key → Key
turn_key Barrier k = record k { priority = 0 }
turn_key _ k = k

-- the index of the first of these turns that a turn goes before, or their number  [XSH 2.8.4]
abbrev pub place_in : Turn → List Turn → ℕ
place_in t [] = 0
place_in t (u ∷ us) = if goes_before t.key u.key then 0 else suc (place_in t us)

-- these turns with one more, in order  [XSH 2.8.4]
abbrev pub with_turn : Turn → List Turn → List Turn
with_turn t ts = insert ts (place_in t ts) t

-- these turns with that of a client whose call waits there, if this one does
abbrev pub turns_with : ObjectClass → ℕ → List ℕ → Option Waiting → List Turn → List Turn
turns_with class o name None ts = ts
turns_with class o name (Some w) ts =
    if w.object == o
    then with_turn (record { name = name; key = turn_key class w.key }) ts
    else ts

-- these turns with those of the clients whose calls wait at the object
abbrev pub turns_from : History → ObjectClass → ℕ → List Turn → List (List ℕ × ℕ) → List Turn
turns_from h class o ts [] = ts
turns_from h class o ts (row ∷ rows) =
    turns_from h class o (turns_with class o row.0 (waiting_of h row.1) ts) rows

-- the turns of the clients whose calls wait at an object of this class, in order  [XSH 2.8.4]
abbrev pub turns_at : History → ObjectClass → ℕ → List (List ℕ × ℕ) → List Turn
turns_at h class o clients = turns_from h class o [] clients
