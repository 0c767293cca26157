use Rattle.std.proofs.Common.{◌+◌, [], ◌∷◌, length, length-append, sym, ap, ◌∙◌}
use Rattle.pt_io.specs.Devices.{count_of}
use Rattle.pt_io.proofs.counted.note_rejection.Goals as goal

pub returns-then-moves_none : goal.returns-then-moves_none
returns-then-moves_none c =
    ap length c.and.ensures
    ∙ length-append c.args.rejections.now.items ((tt, tt) ∷ [])
    ∙ ap (λ none. length c.args.rejections.now.items + count_of none)
    (sym c.if-moves_none.true ∙ c.moves_none.ensures)
