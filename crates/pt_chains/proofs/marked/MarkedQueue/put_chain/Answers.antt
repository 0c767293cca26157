use Rattle.std.proofs.Common.{sym, subst}
use Rattle.pt_chains.specs.Chains.{HasNone}
use Rattle.pt_chains.proofs.LoneLemmas.{set-lone}
use Rattle.std.proofs.Common.{◌≡◌, Some, None, cond, ap, ◌∙◌}
use Rattle.pt_chains.proofs.HighestLemmas.{lone-highest}
use Rattle.pt_chains.proofs.marked.MarkedQueue.put_chain.Goals.{then-writer, else-writer}
use Rattle.pt_chains.proofs.marked.MarkedQueue.put_chain.Goals.{then-writer-2, else-writer-2}
use Rattle.pt_chains.proofs.marked.MarkedQueue.put_chain.Goals as goal

pub returns : goal.returns
returns c =
    let done = c.put_chain.ensures in
    set-lone c.args.writer c.args.p c.args.count c.args.head c.args.tail c.self.inside.queue
    c.put_chain.new.queue (subst HasNone (sym c.self.view_is) c.requires.empty) done.len done.other
    done.counts done.tails done.heads

pub invariant_of-self : goal.invariant_of-self
invariant_of-self c = λ _.
    let done = c.put_chain.ensures in
    let p = c.args.p in
    let lone = set-lone c.args.writer p c.args.count c.args.head c.args.tail c.self.inside.queue
    c.put_chain.new.queue (subst HasNone (sym c.self.view_is) c.requires.empty) done.len done.other
    done.counts done.tails done.heads in
    let writer : c.if-writer.self ≡ cond c.args.writer (Some p) None =
    elim c.if-writer.branch [
      | then-writer w ↦ w.self-is ∙ ap (λ b. cond b (Some p) None) (sym w.if-writer.true)
      | else-writer w ↦ w.self-is ∙ ap (λ b. cond b (Some p) None) (sym w.if-writer.false)
    ] in
    let reader : c.if-writer-2.self ≡ cond c.args.writer None (Some p) =
    elim c.if-writer-2.branch [
      | then-writer-2 w ↦ w.self-is ∙ ap (λ b. cond b None (Some p)) (sym w.if-writer-2.true)
      | else-writer-2 w ↦ w.self-is ∙ ap (λ b. cond b None (Some p)) (sym w.if-writer-2.false)
    ] in
    lone-highest c.args.writer p c.args.count c.args.head c.args.tail c.put_chain.new.queue
    c.if-writer.self c.if-writer-2.self c.requires.index c.requires.some lone writer reader
