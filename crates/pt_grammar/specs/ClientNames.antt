-- ClientNames: the names of clients in a script.
use Rattle.std.specs.Prelude.{ℕ, ◌≤◌, Bool, ◌||◌, ◌&&◌, IsTrue, List, length, nat_le}
use Rattle.std.specs.List.{list_all}

-- whether a client's name may contain a byte: an ASCII letter or digit
abbrev pub is_client_byte : ℕ → Bool
is_client_byte b =
    (nat_le 97 b && nat_le b 122) || (nat_le 65 b && nat_le b 90) || (nat_le 48 b && nat_le b 57)

-- a text is a client's name: 1 to 8 such bytes
pub record IsClientName (text : List ℕ) : Type 0 where
  pub some : 1 ≤ length text
  pub fits : length text ≤ 8
  pub bytes : IsTrue (list_all is_client_byte text)

-- whether a text is a client's name
abbrev pub is_client_name : List ℕ → Bool
is_client_name text =
    nat_le 1 (length text) && nat_le (length text) 8 && list_all is_client_byte text
