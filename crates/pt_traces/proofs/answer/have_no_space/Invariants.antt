use Rattle.std.proofs.Common.{◌≡◌, true, take}
use Rattle.std.specs.List.{list_all}
use Rattle.pt_traces.specs.Answers.{is_no_space}
use Rattle.pt_traces.proofs.answer.have_no_space.Given as goal

abbrev pub invariant-loop-byte : goal.invariant-loop-byte
invariant-loop-byte l = list_all is_no_space (take l.byte-index l.bytes) ≡ true
