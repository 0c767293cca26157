use Rattle.std.proofs.Common.{◌≡◌, refl, sym, ap, subst}
use Rattle.pt_chains.specs.declared.sides.Queue.{Queue}
use Rattle.pt_chains.specs.Chains.{HasNone}
use Rattle.pt_chains.specs.Highest.{IsHighestChain}
use Rattle.pt_chains.proofs.HighestLemmas.{AreRaised, put-highest, none-highest}
use Rattle.pt_chains.proofs.marked.MarkedQueue.put_in.Goals as goal
use Rattle.pt_chains.proofs.marked.MarkedQueue.put_in.Goals.{then-self-eq0, else-self-eq0}
use Rattle.pt_chains.proofs.marked.MarkedQueue.put_in.Goals.{then-writer, else-writer}

pub invariant_of-self : goal.invariant_of-self
invariant_of-self c =
    let p = c.args.p in
    let queue = c.self.inside.queue in
    let w = c.if-self-eq0.self-inside.writer in
    let r = c.if-self-eq0.self-inside.reader in
    let empty = subst (λ (q : Queue). q.len ≡ 0 → HasNone q) (sym c.self.view_is)
    c.requires.empty in
    let known : IsHighestChain c.if-self-eq0.self-inside.queue.writers.counts w
    × IsHighestChain c.if-self-eq0.self-inside.queue.readers.counts r =
    elim c.if-self-eq0.branch [
      | then-self-eq0 v ↦
          rw v.self-inside-is (none-highest queue (empty v.if-self-eq0.true))
      | else-self-eq0 v ↦
          rw v.self-inside-is (c.self.invariant v.if-self-eq0.false)
    ] in
    let old = c.if-writer.self-inside.queue in
    let new = c.put_in.new.queue in
    let done = c.put_in.ensures in
    elim c.if-writer.branch [
      | then-writer v ↦
          let up = v.raised-self-inside.result in
          let same = ap (λ m. m.queue) v.self-inside-is in
          rw v.self-inside-is (λ some.
          put-highest c.args.writer old new p w r up r c.requires.index done.other done.counts
          (subst (λ k. AreRaised k p w r up r) (sym v.if-writer.true)
          (v.raised-self-inside.ensures, refl))
          (subst (λ (q : Queue). IsHighestChain q.writers.counts w
          × IsHighestChain q.readers.counts r) (sym same) known))
      | else-writer v ↦
          let up = v.raised-self-inside-else-writer.result in
          let same = ap (λ m. m.queue) v.self-inside-is in
          rw v.self-inside-is (λ some.
          put-highest c.args.writer old new p w r w up c.requires.index done.other done.counts
          (subst (λ k. AreRaised k p w r w up) (sym v.if-writer.false)
          (v.raised-self-inside-else-writer.ensures, refl))
          (subst (λ (q : Queue). IsHighestChain q.writers.counts w
          × IsHighestChain q.readers.counts r) (sym same) known))
    ]
