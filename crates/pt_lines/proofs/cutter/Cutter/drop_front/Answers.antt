use Rattle.std.proofs.Common.{ap, length, arith}
use Rattle.pt_grammar.specs.Lines.{CutterView}
use Rattle.pt_lines.proofs.CutLemmas.{front_dropped}
use Rattle.pt_lines.proofs.cutter.Cutter.drop_front.Goals as goal

pub advance-requires : goal.advance-requires
advance-requires g c =
    let rest = ap (λ (h : CutterView). length h.rest) c.self.view_is in
    omega (arith, rest, c.requires.within)

pub returns : goal.returns
returns g c =
    let left =
    front_dropped _ c.args.self.now c.advance.new.self.items c.args.len c.self.view_is
    c.requires c.advance.ensures.items in
    record { line = left.0; fewer = left.1 }
