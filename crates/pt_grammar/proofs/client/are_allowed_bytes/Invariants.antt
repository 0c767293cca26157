use Rattle.std.proofs.Common.{◌≡◌, true, take}
use Rattle.std.specs.List.{list_all}
use Rattle.pt_grammar.specs.ClientNames.{is_client_byte}
use Rattle.pt_grammar.proofs.client.are_allowed_bytes.Given as goal

abbrev pub invariant-loop-byte : goal.invariant-loop-byte
invariant-loop-byte l = list_all is_client_byte (take l.byte-index l.bytes) ≡ true
