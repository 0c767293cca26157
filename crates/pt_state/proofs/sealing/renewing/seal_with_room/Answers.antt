use Rattle.std.proofs.Common.{◌≤◌, ℕ, refl, ap, ◌∙◌, length, List, sym, subst}
use Rattle.pt_table.specs.declared.objects.ObjectRow.{ObjectRow}
use Rattle.pt_model.specs.StartRows.{start_of_rows}
use Rattle.pt_history.specs.Stored.{stored_history}
use Rattle.pt_records.specs.declared.objects.Object.{Object}
use Rattle.pt_state.specs.Reads.{Reads}
use Rattle.pt_state.proofs.SealedTables.{tables-sealed}
use Rattle.pt_state.proofs.sealing.renewing.seal_with_room.Goals as goal

pub returns-clause-ok : goal.returns-clause-ok
returns-clause-ok g c =
    let old = c.args.state.now in
    let new = record old {
      stored = c.replace.new.dest;
      objects = c.pack.new.self;
      answers = c.replace-2.new.dest;
    } in
    let there = c.replace.ensures.after in
    let empty = c.replace-2.ensures.after in
    let starts = ap (λ s. start_of_rows s.start) there ∙ c.in_ok-stored.ensures.starts in
    let entries = ap (λ s. s.entries) there ∙ c.in_ok-stored.ensures.entries in
    record {
      starts = starts;
      entries = entries;
      limit = ap (λ s. s.limit) there ∙ c.in_ok-stored.ensures.limit;
      room = ap (λ s. s.room) there ∙ c.in_ok-stored.ensures.room;
      read = tables-sealed old new c.requires.tables starts entries refl c.pack.ensures refl refl
          (ap (λ l. l.items) empty ∙ c.in-Ok.ensures.items);
      answers = ap (λ l. length l.items) empty ∙ ap length c.in-Ok.ensures.items;
      has_capacity = subst (λ (k : ℕ). c.args.room ≤ k) (sym (ap (λ l. l.capacity) empty))
          c.in-Ok.ensures.room;
    }

pub sealed_history-requires-clause-tables : goal.sealed_history-requires-clause-tables
sealed_history-requires-clause-tables g c = let s = c.args.state.now in
    subst (λ (rows : List (ObjectRow (Object g.row.A.Denot))).
    Reads (stored_history s.stored) s.clients rows s.orphans s.clocks s.answers.items)
    (sym c.pack.ensures) c.requires.tables

pub sealed_history-requires-clause-places : goal.sealed_history-requires-clause-places
sealed_history-requires-clause-places g c = c.requires.places

pub sealed_history-requires-clause-room : goal.sealed_history-requires-clause-room
sealed_history-requires-clause-room g c = c.requires.room

pub returns-clause-stored : goal.returns-clause-stored
returns-clause-stored g c = c.replace.ensures.value

pub returns-clause-answers : goal.returns-clause-answers
returns-clause-answers g c = c.replace-2.ensures.value
