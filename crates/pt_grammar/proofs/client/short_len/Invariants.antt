use Rattle.std.proofs.Common.{◌≡◌, true, take}
use Rattle.std.specs.List.{list_all}
use Rattle.pt_grammar.specs.ClientNames.{is_client_byte}
use Rattle.pt_grammar.proofs.client.short_len.Given as goal

abbrev pub invariant-loop-place : goal.invariant-loop-place
invariant-loop-place l = list_all is_client_byte (take l.place l.text) ≡ true
