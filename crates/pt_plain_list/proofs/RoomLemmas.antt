-- What fits in a list when room is made and elements are put in.
use Rattle.std.proofs.Common.{◌≡◌, ℕ, ◌+◌, ◌<◌, ◌≤◌, false, arith}
use Rattle.std.specs.Prelude.{Result, Ok, Err, OnOk}
use Rattle.std.specs.Result.{is_err}
use Rattle.std.proofs.lemmas.Bool.{false≢true}

pub room-wider : (a a' b b' room room' : ℕ) → a' ≡ a → b' ≡ b → room ≤ room' → a + b ≤ room
    → a' + b' ≤ room'
room-wider a a' b b' room room' e f le h = omega arith

pub room-same : (a a' b b' room : ℕ) → a' ≡ a → b' ≡ b → a + b ≤ room → a' + b' ≤ room
room-same a a' b b' room e f h = omega arith

-- an element is put in, if room was made for it and for those beside it
pub room-pushed : (a n b b' more room room' : ℕ) → a + (n + 1) ≤ room → n ≡ b → b' ≡ b
    → more ≡ a + 1 → room' ≡ room → more + b' ≤ room'
room-pushed a n b b' more room room' h e f m r = omega arith

pub room-beside : (a a' n b more room : ℕ) → b + (n + 1) ≤ room → n ≡ a → a' ≡ a
    → more ≡ a' + 1 → more + b ≤ room
room-beside a a' n b more room h e f m = omega arith

pub room-one : (a n room : ℕ) → a + (n + 1) ≤ room → a < room
room-one a n room h = omega arith

pub room-next : (a room : ℕ) → a + 1 ≤ room → a < room
room-next a room h = omega arith

pub room-emptied : (a b n m room : ℕ) → a + b ≤ room → a ≡ n → m < n → b < room
room-emptied a b n m room h e less = omega arith

-- one of those beside it was taken out
pub room-freed : (a b n m room : ℕ) → a + b ≤ room → b ≡ n → m < n → a < room
room-freed a b n m room h e less = omega arith

pub granted : {T E : Type 0} (P : Type 0) (r : Result T E) → false ≡ is_err r → OnOk r P → P
granted P (Ok t) e h = h
granted P (Err x) e h = absurd (false≢true e)
