use Rattle.std.proofs.Common.{◌∙◌, arith}
use Rattle.pt_history.specs.Records.{HasTexts}
use Rattle.pt_history.proofs.Names.{short-name, wide, as-wide, near-start, next-wide, next-near}
use Rattle.pt_history.proofs.Names.{room-one, room-two, found-there, texts-there, texts-appended}
use Rattle.pt_history.proofs.Views.{if-none, none-holds}
use Rattle.pt_history.proofs.texts.two_texts.Goals as goal

pub overflow_cast-hint : goal.overflow_cast-hint
overflow_cast-hint g c = wide c.hint_of-hint.result c.hint_of-hint.type_inv

pub lies_at-requires : goal.lies_at-requires
lies_at-requires g c = near-start c.hint_of-hint.result c.hint_of-hint.type_inv

pub overflow_cast-hint-then-lies_at : goal.overflow_cast-hint-then-lies_at
overflow_cast-hint-then-lies_at g c = wide c.hint_of-hint.result c.hint_of-hint.type_inv

pub overflow_add-hint : goal.overflow_add-hint
overflow_add-hint g c =
    next-wide c.hint_of-hint.result _ c.hint_of-hint.type_inv c.as_bytes-first.ensures.name

pub lies_at-requires-then-lies_at : goal.lies_at-requires-then-lies_at
lies_at-requires-then-lies_at g c =
    next-near c.hint_of-hint.result _ c.hint_of-hint.type_inv c.as_bytes-first.ensures.name

pub overflow_cast-result : goal.overflow_cast-result
overflow_cast-result g c = short-name _ c.as_bytes-first.ensures.name

pub overflow_cast-result-then-lies_at-2 : goal.overflow_cast-result-then-lies_at-2
overflow_cast-result-then-lies_at-2 g c = short-name _ c.as_bytes-second.ensures.name

pub returns-then-lies_at-2-clause-some : goal.returns-then-lies_at-2-clause-some
returns-then-lies_at-2-clause-some g c =
    let one = c.as_bytes-first.ensures in
    let other = c.as_bytes-second.ensures in
    texts-there c.args.texts.now _ _ _ _ c.hint_of-hint.result one.bytes one.name other.bytes
    other.name
    (found-there _ _ _ _ _ c.deref.ensures.value one.bytes (c.lies_at.ensures c.if-lies_at.true))
    (found-there _ _ _ _ _ c.deref-then-lies_at.ensures.value other.bytes
    (c.lies_at-then-lies_at.ensures c.if-lies_at-2.true))

pub append-requires : goal.append-requires
append-requires g c =
    let one = c.as_bytes-first.ensures in
    room-one _ _ 64 _ _ one.bytes one.name (omega arith) c.requires

pub append-requires-2 : goal.append-requires-2
append-requires-2 g c =
    let one = c.as_bytes-first.ensures in
    let other = c.as_bytes-second.ensures in
    let e = c.append.ensures in
    room-two _ _ _ _ _ _ _ _ one.bytes one.name other.bytes other.name e.len c.requires e.capacity

pub overflow_cast-from : goal.overflow_cast-from
overflow_cast-from g c = as-wide _ _ c.in_ok-from.ensures c.len.type_inv

pub overflow_cast-result-2 : goal.overflow_cast-result-2
overflow_cast-result-2 g c = short-name _ c.as_bytes-first.ensures.name

pub overflow_cast-result-3 : goal.overflow_cast-result-3
overflow_cast-result-3 g c = short-name _ c.as_bytes-second.ensures.name

pub returns-clause-some : goal.returns-clause-some
returns-clause-some g c =
    let old = c.args.texts.now in
    let one = c.as_bytes-first.ensures in
    let other = c.as_bytes-second.ensures in
    let e = c.append.ensures in
    let f = c.append-2.ensures in
    texts-appended old c.append.new.texts c.append-2.new.texts _ _ _ _ _ one.bytes one.name
    other.bytes other.name (c.in_ok-from.ensures ∙ c.len.ensures ∙ old.ok.0)
    e.items e.len e.capacity f.items f.len f.capacity

pub returns-clause-none : goal.returns-clause-none
returns-clause-none g c = λ e. if-none _ e

pub returns-clause-unchanged : goal.returns-clause-unchanged
returns-clause-unchanged g c = λ e. if-none _ e

pub returns-in_err-from-clause-some : goal.returns-in_err-from-clause-some
returns-in_err-from-clause-some g c =
    none-holds c.from_residual.result
    (λ p. HasTexts c.args.texts.now c.args.texts.now c.args.one.now c.args.other.now p.0 p.1
    p.2)
    c.from_residual.ensures
