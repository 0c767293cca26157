use Rattle.std.proofs.Common.{◌≡◌, ◌<◌, length, ap, ◌∙◌, arith}
use Rattle.pt_chains.specs.declared.sides.Side.{Side}
use Rattle.pt_chains.proofs.ReadLemmas.{read-less}
use Rattle.pt_chains.proofs.sides.take.Goals as goal
use Rattle.pt_chains.proofs.sides.take.Goals.{then-is_none, else-is_none, then-is_none-2}
use Rattle.pt_chains.proofs.sides.take.Goals.{else-is_none-2}

pub returns-clause-counts : goal.returns-clause-counts
returns-clause-counts c i lt =
    let old = c.args.side.now in
    let within : c.args.p < length old.counts = omega arith in
    let first : c.if-is_none.side.counts ≡ old.counts =
    elim c.if-is_none.branch [
      | then-is_none w ↦ ap (λ (s : Side). s.counts) w.side-is
      | else-is_none w ↦ ap (λ (s : Side). s.counts) w.side-is
    ] in
    let second : c.if-is_none-2.side.counts ≡ c.if-is_none.side.counts =
    elim c.if-is_none-2.branch [
      | then-is_none-2 w ↦ ap (λ (s : Side). s.counts) w.side-is
      | else-is_none-2 w ↦ ap (λ (s : Side). s.counts) w.side-is
    ] in
    read-less c.if-is_none-2.side.counts old.counts c.args.p i (second ∙ first) within
