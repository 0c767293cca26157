use Rattle.std.proofs.Common.{None, sym}
use Rattle.std.proofs.lemmas.Option.{slice_get_past}
use Rattle.pt_model.specs.StartRows.{start_of_rows}
use Rattle.pt_state.proofs.TellingLemmas.{first-from, kept-at, kept-few}
use Rattle.pt_state.proofs.state.State.answer_at.Goals as goal

pub returns-then-index-len-clause-value : goal.returns-then-index-len-clause-value
returns-then-index-len-clause-value g c =
    let s = c.args.self.now in
    kept-at (start_of_rows s.stored.start) s.stored.entries s.answers.items c.args.index
    c.next.result
    c.requires.answers
    (first-from s.answers.items c.from.result c.next.new.self c.args.index c.next.result
    c.from.ensures c.next.ensures)

pub returns-else-index-len-clause-value : goal.returns-else-index-len-clause-value
returns-else-index-len-clause-value g c =
    let s = c.args.self.now in
    kept-at (start_of_rows s.stored.start) s.stored.entries s.answers.items c.args.index None
    c.requires.answers
    (sym (slice_get_past s.answers.items c.args.index
    (rw (← c.len.ensures) c.if-index-len.false)))

pub returns-then-index-len-clause-within : goal.returns-then-index-len-clause-within
returns-then-index-len-clause-within g c =
    let s = c.args.self.now in
    kept-few (start_of_rows s.stored.start) s.stored.entries s.answers.items c.len.result
    c.requires.answers c.len.ensures c.len.type_inv

pub returns-else-index-len-clause-within : goal.returns-else-index-len-clause-within
returns-else-index-len-clause-within g c =
    let s = c.args.self.now in
    kept-few (start_of_rows s.stored.start) s.stored.entries s.answers.items c.len.result
    c.requires.answers c.len.ensures c.len.type_inv
