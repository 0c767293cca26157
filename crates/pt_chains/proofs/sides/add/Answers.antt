use Rattle.std.proofs.Common.{◌≡◌, ◌<◌, None, length, inl, inr, ap, get_or, arith}
use Rattle.std.proofs.Common.{◌==◌, ◌&&◌, not, cond, set, subst}
use Rattle.pt_chains.specs.declared.link.Link.{Link}
use Rattle.std.proofs.lemmas.List.{get_or_default}
use Rattle.std.specs.Option.{is_some}
use Rattle.pt_chains.specs.declared.sides.Side.{Side}
use Rattle.pt_chains.proofs.ReadLemmas.{read-put, read-if}
use Rattle.pt_chains.proofs.sides.add.Goals as goal
use Rattle.pt_chains.proofs.sides.add.Goals.{then-is_none, else-is_none}

pub returns-clause-tails : goal.returns-clause-tails
returns-clause-tails c i lt =
    let old = c.args.side.now in
    let within : c.args.p < length old.tails = omega arith in
    let same : c.if-is_none.side.tails ≡ old.tails =
    elim c.if-is_none.branch [
      | then-is_none w ↦ ap (λ (s : Side). s.tails) w.side-is
      | else-is_none w ↦ ap (λ (s : Side). s.tails) w.side-is
    ] in
    subst (λ (v : Link). get_or (set c.if-is_none.side.tails c.args.p c.to-link.result) i None
    ≡ cond (c.args.p == i) v (get_or old.tails i None)) c.to-link.ensures
    (read-put c.if-is_none.side.tails old.tails c.args.p i c.to-link.result same within)

pub returns-clause-heads : goal.returns-clause-heads
returns-clause-heads c i lt =
    let old = c.args.side.now in
    let within : c.args.p < length old.heads = omega arith in
    let within-tails : c.args.p < length old.tails = omega arith in
    subst (λ (v : Link). get_or c.if-is_none.side.heads i None
    ≡ cond ((c.args.p == i) && not (is_some (get_or old.tails c.args.p None))) v
    (get_or old.heads i None)) c.to-link.ensures
    (read-if c.if-is_none.side.heads old.heads c.args.p i c.to-link.result
    (is_some (get_or old.tails c.args.p None)) c.is_none.result
    (subst (λ (v : Link). is_some v ≡ not c.is_none.result)
    (get_or_default old.tails c.args.p c.index-side-p.result None within-tails)
    c.is_none.ensures)
    (elim c.if-is_none.branch [
      | then-is_none w ↦ inl (w.if-is_none.true, ap (λ (s : Side). s.heads) w.side-is)
      | else-is_none w ↦ inr (w.if-is_none.false, ap (λ (s : Side). s.heads) w.side-is)
    ]) within)
