use Rattle.std.proofs.Common.{◌≡◌, ◌∙◌, ℕ, List, Option, Some, None, false, ap, sym, true≢false}
use Rattle.std.specs.Option.{option_copied, option_map}
use Rattle.std.proofs.lemmas.Slice.Eq.{bytes_eq-Decides}
use Rattle.pt_types.specs.Names.{same_name}
use Rattle.pt_table.specs.declared.objects.ObjectRow.{ObjectRow}
use Rattle.pt_table.specs.Slots.{row_in_slot}
use Rattle.pt_table.specs.NameSlots.{name_in}
use Rattle.pt_table.proofs.Lookups.{some_inj, none_some}
use Rattle.pt_table.proofs.Named.{true-same}
use Rattle.pt_table.proofs.object_slots.row_if_named.Goals.{in_default-via-in-Some+else-is_same}
use Rattle.pt_table.proofs.object_slots.row_if_named.Goals.{in_default-via-in_default}
use Rattle.pt_table.proofs.object_slots.row_if_named.Goals as goal

module _ {T : Type 0} (slots : List (Option (ObjectRow T))) (s : ℕ) (name : List ℕ) where
  not_there : row_in_slot slots s ≡ None → name_in slots s ≡ Some name → ⊥
  not_there none there = none_some (sym (ap (option_map (λ row. row.name)) none) ∙ there)

  another : (row : ObjectRow T) → row_in_slot slots s ≡ Some row
      → same_name row.name name ≡ false → name_in slots s ≡ Some name → ⊥
  another row here other there =
      let own : row.name ≡ name =
      some_inj (sym (ap (option_map (λ r. r.name)) here) ∙ there) in
      true≢false (sym ((bytes_eq-Decides row.name name).1 own) ∙ other)

pub returns-in-Some : goal.returns-in-Some
returns-in-Some g c = (
  c.args.slot,
  sym c.in-Some.ensures,
  true-same c.in-Some.row.now.name c.args.name.now (sym c.is_same.ensures ∙ c.if-is_same.true),
)

pub returns-in_default : goal.returns-in_default
returns-in_default g c =
    elim c.in_default.branch [
      | in_default-via-in-Some+else-is_same w ↦
          another c.args.rows.now.slots c.args.slot c.args.name.now w.in-Some.row.now
          (sym w.in-Some.ensures) (sym w.is_same.ensures ∙ w.if-is_same.false)
      | in_default-via-in_default w ↦
          not_there c.args.rows.now.slots c.args.slot c.args.name.now
          (sym c.get.ensures ∙ ap option_copied w.in_default.is)
    ]
