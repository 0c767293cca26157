use Rattle.std.proofs.Common.{◌≡◌, ◌==◌, ◌&&◌, ◌∙◌, ℕ, sym, ap, true, arith}
use Rattle.std.specs.List.{list_any}
use Rattle.std.proofs.lemmas.List.{drop_all}
use Rattle.std.proofs.lemmas.Bool.Decides.{nat_tests}
use Rattle.pt_waitq.specs.declared.waiter.Waiter.{Waiter}
use Rattle.pt_waitq.specs.Queues.{blocks_readers_from}
use Rattle.pt_waitq.specs.ListLemmas.{item-in, any-in}
use Rattle.pt_waitq.specs.QueueLemmas.{any-queue_of}
use Rattle.pt_plain_list.proofs.entries.blocks_reader.Goals as goal

pub returns-then-level : goal.returns-then-level
returns-then-level c =
    let es = c.args.entries.now in
    let e = c.index-entries-i.result in
    let test = λ (x : ℕ × Waiter). (x.0 == c.args.object) && blocks_readers_from c.args.prio x.1 in
    let passes : test e ≡ true = grind (arith, nat_tests) in
    let there = item-in es c.loop-i.i e (omega arith) c.index-entries-i.is in
    sym (any-queue_of (blocks_readers_from c.args.prio) c.args.object es
    ∙ any-in test es e there passes)

pub returns : goal.returns
returns c =
    let es = c.args.entries.now in
    let test = λ (x : ℕ × Waiter). (x.0 == c.args.object) && blocks_readers_from c.args.prio x.1 in
    let none = sym c.loop-i.invariant ∙ ap (list_any test) (drop_all c.loop-i.i es (omega arith)) in
    sym (any-queue_of (blocks_readers_from c.args.prio) c.args.object es ∙ none)
