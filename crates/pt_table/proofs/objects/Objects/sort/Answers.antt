use Rattle.std.proofs.Common.{ℕ, List, subst, arith}
use Rattle.std.specs.Bool.{OnTrue}
use Rattle.pt_table.specs.Linked.{IsRowChain, IsRising}
use Rattle.pt_table.proofs.Counted.{chain-fits}
use Rattle.pt_table.proofs.Sorted.{risen-sorted, table-rises}
use Rattle.pt_table.proofs.objects.Objects.sort.Goals.{then-len-lt2-via-then-len-lt2}
use Rattle.pt_table.proofs.objects.Objects.sort.Goals.{then-len-lt2-via-else-len-lt2+then-is_rising}
use Rattle.pt_table.proofs.objects.Objects.sort.Goals as goal

pub returns-then-len-lt2-clause-chain : goal.returns-then-len-lt2-clause-chain
returns-then-len-lt2-clause-chain g c = risen-sorted c.args.self.now c.args.head up
  where
    up : (ns : List ℕ) → IsRowChain c.args.self.now c.args.head ns → IsRising ns
    up = elim c.then-len-lt2.branch [
      | then-len-lt2-via-then-len-lt2 w ↦
          table-rises c.args.self.now c.args.head
          (let few = w.if-len-lt2 in omega (arith, few, c.len.ensures.len))
      | then-len-lt2-via-else-len-lt2+then-is_rising w ↦
          subst (λ b. OnTrue b ((ns : List ℕ) → IsRowChain c.args.self.now c.args.head ns
          → IsRising ns)) w.if-is_rising.true w.is_rising.ensures
    ]

pub sort_by-requires-2-clause-room : goal.sort_by-requires-2-clause-room
sort_by-requires-2-clause-room g c = λ ns l.
    let fits = chain-fits c.args.self.now c.args.head ns l in
    omega (arith, fits, c.len.ensures.within)
