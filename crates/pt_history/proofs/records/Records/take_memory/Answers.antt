use Rattle.pt_history.proofs.Widened.{keeps-parts}
use Rattle.pt_history.proofs.records.Records.take_memory.Goals as goal

pub returns : goal.returns
returns g c =
    let t = c.take_memory.ensures in
    let l = c.take_memory-2.ensures in
    let m = c.take_memory-3.ensures in
    let w = c.take_memory-4.ensures in
    keeps-parts _ _ (record { items = t.items; len = t.len; capacity = t.capacity })
    (record { items = l.items; len = l.len; capacity = l.capacity })
    (record { items = m.items; len = m.len; capacity = m.capacity })
    (record { items = w.items; len = w.len; capacity = w.capacity })
