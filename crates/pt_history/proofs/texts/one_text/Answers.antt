use Rattle.std.proofs.Common.{◌∙◌, arith}
use Rattle.pt_history.specs.Records.{HasText}
use Rattle.pt_history.proofs.Names.{short-name, wide, as-wide, near-start, room-one, found-there}
use Rattle.pt_history.proofs.Names.{text-there, text-appended}
use Rattle.pt_history.proofs.Views.{if-none, none-holds}
use Rattle.pt_history.proofs.texts.one_text.Goals as goal

pub overflow_cast-hint : goal.overflow_cast-hint
overflow_cast-hint g c = wide c.hint_of-hint.result c.hint_of-hint.type_inv

pub lies_at-requires : goal.lies_at-requires
lies_at-requires g c = near-start c.hint_of-hint.result c.hint_of-hint.type_inv

pub overflow_cast-result : goal.overflow_cast-result
overflow_cast-result g c = short-name _ c.as_bytes-length.ensures.name

pub returns-then-lies_at-clause-some : goal.returns-then-lies_at-clause-some
returns-then-lies_at-clause-some g c =
    let name = c.as_bytes-length.ensures in
    text-there c.args.texts.now _ _ c.hint_of-hint.result name.bytes name.name
    (found-there _ _ _ _ _ c.deref.ensures.value name.bytes (c.lies_at.ensures c.if-lies_at.true))

pub append-requires : goal.append-requires
append-requires g c =
    let name = c.as_bytes-length.ensures in
    room-one _ _ 32 _ _ name.bytes name.name (omega arith) c.requires

pub overflow_cast-from : goal.overflow_cast-from
overflow_cast-from g c = as-wide _ _ c.in_ok-from.ensures c.len.type_inv

pub overflow_cast-result-2 : goal.overflow_cast-result-2
overflow_cast-result-2 g c = short-name _ c.as_bytes-length.ensures.name

pub returns-clause-some : goal.returns-clause-some
returns-clause-some g c =
    let old = c.args.texts.now in
    let name = c.as_bytes-length.ensures in
    let e = c.append.ensures in
    text-appended old c.append.new.texts _ _ _ name.bytes name.name
    (c.in_ok-from.ensures ∙ c.len.ensures ∙ old.ok.0) e.items e.len e.capacity

pub returns-clause-none : goal.returns-clause-none
returns-clause-none g c = λ e. if-none _ e

pub returns-clause-unchanged : goal.returns-clause-unchanged
returns-clause-unchanged g c = λ e. if-none _ e

pub returns-in_err-from-clause-some : goal.returns-in_err-from-clause-some
returns-in_err-from-clause-some g c =
    none-holds c.from_residual.result
    (λ p. HasText c.args.texts.now c.args.texts.now c.args.name.now p.0 p.1)
    c.from_residual.ensures
