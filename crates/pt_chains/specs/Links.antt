-- Links: the meaning of a link's number.
use Rattle.std.specs.Prelude.{ℕ, ◌-◌, ◌^◌, ◌==◌, Option, Some, None, if◌then◌else◌}

-- the index of a node, or none for the greatest number of 4 bytes
abbrev pub node_with_links : ℕ → Option ℕ
node_with_links n = if n == 2 ^ 32 - 1 then None else Some n
