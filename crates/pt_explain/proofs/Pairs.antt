-- A pair is known by its parts.
use Rattle.std.proofs.Common.{◌≡◌, List, ℕ, refl}

pub pair : {a b : List ℕ} {r : List ℕ × List ℕ} → a ≡ r.0 → b ≡ r.1 → (a, b) ≡ r
pair {r = (x, y)} ea eb = rw (ea, eb) refl
