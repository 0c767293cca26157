use Rattle.std.proofs.Common.{◌∙◌, Some, sym, ap}
use Rattle.std.specs.Option.{option_map}
use Rattle.std.proofs.lemmas.Map.Made.{lookup_key_same}
use Rattle.std.proofs.lemmas.Slice.Eq.{bytes_eq-Decides}
use Rattle.pt_engine.specs.Names.{LineCounts, row_of_name}
use Rattle.pt_engine.proofs.names.Counts.look_up.Goals as goal

pub returns-in-Some-clause-at : goal.returns-in-Some-clause-at
returns-in-Some-clause-at g c =
    let rows = c.self.inside.rows in
    let name = c.args.name.now in
    let found = c.in-Some.found in
    let full = rw c.in-Some.is at c.get_full.ensures in
    let same = lookup_key_same bytes_eq-Decides name rows.entries found.1.now (sym full.key) in
    ap (option_map (λ e. e.0)) full.entry ∙ ap Some (sym same)

pub begin-requires : goal.begin-requires
begin-requires g c =
    sym (ap (λ (k : LineCounts). row_of_name k.rows c.args.name.now) c.self.view_is)
    ∙ sym c.get_full.ensures.value
    ∙ ap (option_map (λ p. p.2.now)) c.in-None.is
