use Rattle.std.proofs.Common.{sym, ◌∙◌}
use Rattle.pt_machine.proofs.QueuedObjects.{end-made, end-empty, end-pushes}
use Rattle.pt_machine.proofs.objects.push_destroyed.Goals as goal

pub discard-requires-clause-is_queue : goal.discard-requires-clause-is_queue
discard-requires-clause-is_queue g c =
    end-made c.requires.can c.args.n.now c.args.class c.unwrap-o.result
    (sym c.requires.found ∙ c.unwrap-o.ensures)

pub discard-requires-clause-empty : goal.discard-requires-clause-empty
discard-requires-clause-empty g c =
    end-empty c.requires.can c.args.n.now c.args.class c.unwrap-o.result
    (sym c.requires.found ∙ c.unwrap-o.ensures) c.requires.operation

pub push_destroyed-requires-clause-found : goal.push_destroyed-requires-clause-found
push_destroyed-requires-clause-found g c = sym c.unwrap-o.ensures ∙ c.requires.found

pub returns : goal.returns
returns g c =
    end-pushes c.requires.can c.args.n.now c.args.class c.unwrap-o.result
    (sym c.requires.found ∙ c.unwrap-o.ensures) c.requires.operation c.push_destroyed.new.self _
    c.discard.ensures.queues c.discard.ensures.admitted c.discard.ensures.is_queue
    c.push_destroyed.ensures
