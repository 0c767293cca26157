use Rattle.std.proofs.Common.{◌≡◌, ◌+◌, ◌∙◌, suc, arith, sym, ap}
use Rattle.std.proofs.lemmas.Cmp.{nat_list_eq_equiv}
use Rattle.std.proofs.lemmas.Map.Entries.{hash_map_get_place}
use Rattle.indexmap.specs.IndexMap.{with_value_at}
use Rattle.indexmap.proofs.CallerLemmas.{updates-with_value_at}
use Rattle.pt_engine.specs.declared.names.Row.{Row}
use Rattle.pt_engine.specs.Names.{LineCounts, lines_in, client_of_row, row_of_name}
use Rattle.pt_engine.specs.Places.{key_at}
use Rattle.pt_engine.proofs.Keys.{key_within, row_at}
use Rattle.pt_engine.proofs.Raised.{one_more_fits}
use Rattle.pt_engine.proofs.Rows.{row_raised}
use Rattle.pt_engine.proofs.names.Counts.count_at.Goals as goal

pub pair_mut-row-requires : goal.pair_mut-row-requires
pair_mut-row-requires g c =
    let at = ap (λ (k : LineCounts). key_at k.rows c.args.index) c.self.view_is ∙ c.requires.at in
    key_within c.self.inside.rows.entries c.args.index c.args.name.now at

pub overflow_add-row : goal.overflow_add-row
overflow_add-row g c =
    let rows = c.self.inside.rows in
    let index = c.args.index in
    let name = c.args.name.now in
    let pair = c.pair_mut-row in
    let row = pair.result.1.now in
    let at = ap (λ (k : LineCounts). key_at k.rows index) c.self.view_is ∙ c.requires.at in
    let found =
    ap (λ (k : LineCounts). row_of_name k.rows name) (sym c.self.view_is)
    ∙ hash_map_get_place nat_list_eq_equiv rows index name row pair.ensures.unique
    (row_at rows.entries index name _ at pair.ensures.value) in
    one_more_fits row.lines (lines_in (row_of_name c.args.self.now.rows name)) (ap lines_in found)
    c.requires.within

pub returns : goal.returns
returns g c =
    let inside = c.self.inside in
    let rows = inside.rows in
    let index = c.args.index in
    let name = c.args.name.now in
    let pair = c.pair_mut-row in
    let row = pair.result.1.now in
    let at = ap (λ (k : LineCounts). key_at k.rows index) c.self.view_is ∙ c.requires.at in
    let is = row_at rows.entries index name _ at pair.ensures.value in
    let found = hash_map_get_place nat_list_eq_equiv rows index name row pair.ensures.unique is in
    let more : row.lines + 1 ≡ suc row.lines = omega arith in
    let lines = more ∙ sym (ap (λ r. suc (lines_in r)) found) in
    let client = sym (ap client_of_row found) in
    let raised : Row = record { lines = row.lines + 1; client = row.client } in
    let set =
    (updates-with_value_at rows index raised nat_list_eq_equiv pair.ensures.unique name row is).0 in
    let old : LineCounts =
    record { rows = rows.entries; star = inside.star; unknown = inside.unknown } in
    record {
      number = lines ∙ ap (λ (k : LineCounts). suc (lines_in
          (row_of_name k.rows name))) c.self.view_is;
      client = client ∙ ap (λ (k : LineCounts). client_of_row
          (row_of_name k.rows name)) c.self.view_is;
      raised =
          rw (← c.self.view_is)
          (row_raised old (with_value_at rows index raised).entries name raised set lines client);
    }
