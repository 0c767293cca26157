-- Names: what is stored of the clients of a script.
use Rattle.std.specs.Prelude.{◌≡◌, ℕ, suc, List, length, Option, Some, None, if◌then◌else◌}
use Rattle.std.specs.Map.{lookup}
use Rattle.std.specs.Str.{bytes_eq}
use Rattle.pt_grammar.specs.declared.client.Who.{Who}
use Rattle.pt_grammar.specs.declared.client.Who.TheVariants.{Named, Star, Unknown}
use Rattle.pt_engine.specs.declared.names.Row.{Row}
use Rattle.pt_engine.specs.Scripts.{same_who, lines_of_who, number_named}

-- which client each line so far belongs to, and the number of each client that has joined under a
-- name
pub record NamesView : Type 0 where
  pub seen : List Who
  pub clients : List (List ℕ × ℕ)

-- the number of a client's lines, from its row
abbrev pub lines_in : Option Row → ℕ
lines_in None = 0
lines_in (Some row) = row.lines

-- the number of the client that has joined, from its row
abbrev pub client_of_row : Option Row → Option ℕ
client_of_row None = None
client_of_row (Some row) = row.client

-- the row of a name
abbrev pub row_of_name : List (List ℕ × Row) → List ℕ → Option Row
row_of_name rows name = lookup (bytes_eq name) rows

-- what is counted: the rows of names, and the lines of `*` and of `?`  [profile]
pub record LineCounts : Type 0 where
  pub rows : List (List ℕ × Row)
  pub star : ℕ
  pub unknown : ℕ

-- the number of lines that are counted for a client
abbrev pub lines_counted : LineCounts → Who → ℕ
lines_counted k (Named name) = lines_in (row_of_name k.rows name)
lines_counted k Star = k.star
lines_counted k Unknown = k.unknown

-- the number of the client that has joined; `*` and `?` never do  [profile]
abbrev pub client_counted : LineCounts → Who → Option ℕ
client_counted k (Named name) = client_of_row (row_of_name k.rows name)
client_counted k _ = None

-- the same is counted for each client, named or not: a row with no line is equivalent to none
pub record HaveSameCounts (old new : LineCounts) : Type 0 where
  pub lines : (who : Who) → lines_counted new who ≡ lines_counted old who
  pub clients :
      (name : List ℕ) → client_of_row (row_of_name new.rows name)
      ≡ client_of_row (row_of_name old.rows name)

-- one more line of a client is counted, named or not
pub record CountsOneLine (old : LineCounts) (who : Who) (new : LineCounts) : Type 0 where
  pub lines :
      (other : Who)
      → lines_counted new other
      ≡ (if same_who who other then suc (lines_counted old other) else lines_counted old other)
  pub clients :
      (name : List ℕ) → client_of_row (row_of_name new.rows name)
      ≡ client_of_row (row_of_name old.rows name)

-- a client's number is noted, and no line is counted
pub record NotesNumber (old : LineCounts) (name : List ℕ) (c : ℕ) (new : LineCounts) : Type 0 where
  pub lines : (who : Who) → lines_counted new who ≡ lines_counted old who
  pub clients :
      (other : List ℕ)
      → client_of_row (row_of_name new.rows other)
      ≡ (if bytes_eq name other then Some c else client_of_row (row_of_name old.rows other))

-- the counts are those of the lines and clients so far
pub record AreCounted (k : LineCounts) (total : ℕ) (names : NamesView) : Type 0 where
  pub lines : (who : Who) → lines_counted k who ≡ lines_of_who names.seen who
  pub all : total ≡ length names.seen
  pub joined : (name : List ℕ) → client_of_row (row_of_name k.rows name)
      ≡ number_named names.clients name
