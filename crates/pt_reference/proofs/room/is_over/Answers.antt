use Rattle.std.proofs.Common.{◌≡◌, ◌+◌, suc, ap, length, arith}
use Rattle.std.specs.Prelude.{nat_lt}
use Rattle.pt_model.specs.Histories.{history, history_length, ◌▷◌}
use Rattle.pt_model.specs.Room.{need}
use Rattle.pt_model.specs.Starts.{empty_start}
use Rattle.pt_model.proofs.Histories.{history_length-history_since}
use Rattle.pt_reference.proofs.room.is_over.Goals as goal

pub returns : goal.returns
returns c =
    let h = history c.args.entries.now in
    let e : length c.args.entries.now + 1 + c.need.result
    ≡ suc (history_length h) + need (h ▷ c.args.entry.now) =
    omega (arith, history_length-history_since empty_start c.args.entries.now, c.need.ensures.value)
    in
    ap (nat_lt c.args.limit) e
