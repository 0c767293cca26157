use Rattle.std.proofs.Common.{◌≡◌, ◌++◌, take}
use Rattle.pt_io.specs.Devices.{bytes_of}
use Rattle.pt_io.proofs.counted.note.Given as goal

abbrev pub invariant-loop-byte : goal.invariant-loop-byte
invariant-loop-byte l = bytes_of l.log.items ≡ bytes_of l.fn.log.items ++ take l.byte-index l.piece
