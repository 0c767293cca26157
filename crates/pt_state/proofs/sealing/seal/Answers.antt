use Rattle.std.proofs.Common.{refl, ap, ◌∙◌, length, List, sym, subst, ◌≤◌, ℕ}
use Rattle.pt_types.specs.Limits.{max_place}
use Rattle.pt_table.specs.declared.objects.ObjectRow.{ObjectRow}
use Rattle.pt_model.specs.StartRows.{start_of_rows}
use Rattle.pt_model.specs.Starts.{Start}
use Rattle.pt_history.specs.Stored.{stored_history}
use Rattle.pt_records.specs.declared.objects.Object.{Object}
use Rattle.pt_state.specs.Reads.{Reads}
use Rattle.pt_state.proofs.SealedTables.{tables-sealed}
use Rattle.pt_state.proofs.sealing.seal.Goals as goal

pub returns-clause-ok : goal.returns-clause-ok
returns-clause-ok g c =
    let old = c.args.state.now in
    let new = record old {
      stored = c.seal.new.self;
      objects = c.pack.new.self;
      answers = c.clear.new.self;
    } in
    let starts = ap (λ s. start_of_rows s.start) c.seal.ensures ∙ c.in_ok-start.ensures.reads in
    let entries = ap (λ s. s.entries) c.seal.ensures in
    record {
      starts = starts;
      entries = entries;
      limit = ap (λ s. s.limit) c.seal.ensures;
      room = ap (λ s. s.room) c.seal.ensures;
      read = tables-sealed old new c.requires.tables starts entries refl c.pack.ensures refl
          refl c.clear.ensures.items;
      clients = refl;
      objects = c.pack.ensures;
      orphans = refl;
      clocks = refl;
      answers = ap length c.clear.ensures.items;
      has_capacity = c.clear.ensures.room;
    }

pub start_of-requires : goal.start_of-requires
start_of-requires g c = let s = c.args.state.now in
    subst (λ (rows : List (ObjectRow (Object g.row.A.Denot))).
    Reads (stored_history s.stored) s.clients rows s.orphans s.clocks s.answers.items)
    (sym c.pack.ensures) c.requires.tables

pub seal-requires-clause-places : goal.seal-requires-clause-places
seal-requires-clause-places g c = subst (λ (k : ℕ). k ≤ max_place)
    (sym (ap (λ (s : Start). s.at) c.in_ok-start.ensures.reads)) c.requires.places

pub seal-requires-clause-counted : goal.seal-requires-clause-counted
seal-requires-clause-counted g c = c.in_ok-start.ensures.counted
