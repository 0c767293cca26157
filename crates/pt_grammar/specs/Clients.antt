-- Clients: which client a line of a script belongs to.
use Rattle.std.specs.Prelude.{ℕ, ◌==◌, List, [], ◌∷◌, Option, None, Some, length, nat_lt, codes}
use Rattle.std.specs.Prelude.{if◌then◌else◌}
use Rattle.std.specs.Str.{bytes_eq}
use Rattle.pt_grammar.specs.declared.client.Who.{Who}
use Rattle.pt_grammar.specs.declared.client.Who.TheVariants.{Named, Star, Unknown}
use Rattle.pt_grammar.specs.ClientNames.{is_client_name}

-- what a name denotes: `*` denotes the clocks  [profile]
abbrev pub who_named : List ℕ → Who
who_named name =
    if bytes_eq name (codes "*") then Star
    else if is_client_name name then Named name
    else Unknown

-- the text that is printed for a client
abbrev pub who_text : Who → List ℕ
who_text (Named name) = name
who_text Star = codes "*"
who_text Unknown = codes "?"

-- the bytes before the first space, or all bytes if there is none
abbrev pub before_space : List ℕ → List ℕ
before_space [] = []
before_space (b ∷ bytes) = if b == 32 then [] else b ∷ before_space bytes

-- the bytes after the first space, if there is one
abbrev pub after_space : List ℕ → Option (List ℕ)
after_space [] = None
after_space (b ∷ bytes) = if b == 32 then Some bytes else after_space bytes

-- the client that a line of a script belongs to: it is named by the text before the first space, or
-- by the whole line; a line that is too long belongs to no client
abbrev pub who_of : List ℕ → Who
who_of text = if nat_lt 128 (length text) then Unknown else who_named (before_space text)
