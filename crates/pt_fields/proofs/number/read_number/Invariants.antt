use Rattle.std.proofs.Common.{◌≡◌, true, take}
use Rattle.std.specs.List.{list_all}
use Rattle.std.specs.Str.Parse.{digits_value}
use Rattle.pt_fields.specs.Numbers.{is_digit}
use Rattle.pt_fields.proofs.number.read_number.Given as goal

abbrev pub invariant-loop-byte : goal.invariant-loop-byte
invariant-loop-byte l = record {
  digits : list_all is_digit (take l.byte-index l.field) ≡ true;
  value : l.number ≡ digits_value 10 (take l.byte-index l.field);
}
