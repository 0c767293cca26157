use Rattle.std.proofs.Common.{◌≡◌, ◌-◌, sym, ap, length, ◌∙◌, arith}
use Rattle.std.proofs.lemmas.Bool.{eqb-false}
use Rattle.pt_model.specs.Room.{need}
use Rattle.pt_reference.proofs.Rooms.{history_last}
use Rattle.pt_reference.proofs.room.need.Goals as goal

pub returns-clause-value : goal.returns-clause-value
returns-clause-value c =
    let es = c.args.entries.now in
    let some : length es ≡ 0 → ⊥ =
    eqb-false (length es) 0 (sym c.is_empty.ensures ∙ c.if-is_empty.false) in
    c.need.ensures.value
    ∙ ap need (history_last es (length es - 1) c.index-entries-last.result (omega (arith, some))
    c.index-entries-last.is)
