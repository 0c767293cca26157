use Rattle.std.proofs.Common.{List, sym, ap, subst, length}
use Rattle.pt_history.specs.Stored.{Stored, stored_history}
use Rattle.pt_records.specs.declared.answers.Answered.{Answered}
use Rattle.pt_state.specs.Reads.{Reads}
use Rattle.pt_state.proofs.sealing.renewing.take_memory.Goals as goal

pub returns : goal.returns
returns g c = let s = c.args.state.now in
    let replies : List Answered = c.take_memory-2.new.self.items in
    record {
      stored = c.take_memory.ensures;
      read = subst (λ (h : Stored).
          Reads (stored_history h) s.clients s.objects s.orphans s.clocks replies)
          (sym c.take_memory.ensures) (subst (λ (items : List Answered).
          Reads (stored_history s.stored) s.clients s.objects s.orphans s.clocks items)
          (sym c.take_memory-2.ensures.items) c.requires);
      replies = ap length c.take_memory-2.ensures.items;
      has_capacity = c.take_memory-2.ensures.capacity;
    }
