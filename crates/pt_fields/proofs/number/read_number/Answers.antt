use Rattle.std.proofs.Common.{◌≡◌, ◌≢◌, ◌≤◌, ◌⊎◌, true, get_or, length, inl, inr, sym, arith}
use Rattle.pt_fields.specs.Numbers.{is_digit}
use Rattle.pt_fields.proofs.NumberLemmas.{value_small, value_more, value_bound, digit_byte}
use Rattle.pt_fields.proofs.NumberLemmas.{digits_more}
use Rattle.pt_fields.proofs.NumberLemmas.{read_number-digits, not_number-length, not_number-zero}
use Rattle.pt_fields.proofs.NumberLemmas.{not_number-digit}
use Rattle.pt_fields.proofs.number.read_number.Goals as goal
use Rattle.pt_fields.proofs.number.read_number.Goals.{
  else-field-gt1-via-else-field-gt1,
  else-field-gt1-via-then-field-gt1+else-field-eq48,
}

pub overflow_mul-number : goal.overflow_mul-number
overflow_mul-number c =
    let loop = c.loop-byte in
    let small =
    value_small c.args.field.now loop.byte-index loop.invariant.digits (omega arith)
    (omega arith) in
    omega (arith, small, loop.invariant.value)

pub overflow_add-number : goal.overflow_add-number
overflow_add-number c =
    let loop = c.loop-byte in
    let digit =
    digit_byte (get_or c.args.field.now loop.byte-index 0) (sym c.if-not-is_digit.ensures) in
    let small =
    value_small c.args.field.now loop.byte-index loop.invariant.digits (omega arith)
    (omega arith) in
    omega (arith, small, loop.invariant.value, digit.1, c.from.ensures)

pub loop-byte-preserved : goal.loop-byte-preserved
loop-byte-preserved c =
    let loop = c.loop-byte in
    let field = c.args.field.now in
    let digit : is_digit (get_or field loop.byte-index 0) ≡ true =
    sym c.if-not-is_digit.ensures in
    rw c.from.ensures
    (record {
      digits = digits_more field loop.byte-index (omega arith) loop.invariant.digits digit;
      value =
          value_more field loop.byte-index loop.number digit (omega arith)
          loop.invariant.value;
    })

pub returns-clause-fits : goal.returns-clause-fits
returns-clause-fits c =
    value_bound c.args.field.now c.loop-byte.number c.loop-byte.byte-index
    c.loop-byte.invariant.digits (omega arith) c.loop-byte.invariant.value

pub returns-clause-value : goal.returns-clause-value
returns-clause-value c =
    let field = c.args.field.now in
    let alone : (length field ≤ 1) ⊎ (get_or field 0 0 ≢ 48) =
    elim c.else-field-gt1.branch [
      | else-field-gt1-via-then-field-gt1+else-field-eq48 w ↦ inr w.if-field-eq48.false
      | else-field-gt1-via-else-field-gt1 w ↦ inl w.if-field-gt1.false
    ] in
    read_number-digits field c.loop-byte.number c.loop-byte.byte-index c.loop-byte-test.false
    c.if-is_empty.ensures c.if-field-gt10.false alone c.loop-byte.invariant.digits
    c.loop-byte.invariant.value

pub returns-then-is_empty : goal.returns-then-is_empty
returns-then-is_empty c = record {
  value =
      not_number-length c.args.field.now c.is_empty.result c.is_empty.ensures
      c.then-is_empty.either;
  fits = tt;
}

pub returns-then-field-eq48 : goal.returns-then-field-eq48
returns-then-field-eq48 c = record {
  value = not_number-zero c.args.field.now c.if-field-gt1.true c.if-field-eq48.true;
  fits = tt;
}

pub returns-then-not-is_digit : goal.returns-then-not-is_digit
returns-then-not-is_digit c = record {
  value =
      not_number-digit c.args.field.now c.loop-byte.byte-index c.loop-byte-test.true
      c.if-not-is_digit.ensures;
  fits = tt;
}
