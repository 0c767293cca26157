use Rattle.std.proofs.Common.{◌≡◌, Bool, true, false, Some, sym, ap, ◌∙◌}
use Rattle.std.specs.Bool.{OnTrue}
use Rattle.std.specs.Prelude.{option_map}
use Rattle.pt_table.specs.ObjectRows.{object_value}
use Rattle.pt_records.specs.Objects.{kind_in_row}
use Rattle.pt_records.specs.declared.objects.Object.TheVariants.{Rwlock}
use Rattle.pt_state.specs.Adds.{history_of}
use Rattle.pt_machine.proofs.GrantedStates.{free-lock, lock-free}
use Rattle.pt_machine.proofs.granted_at_once.is_free.Goals as goal

-- if a fact holds whenever a value is true, so does what follows from it
if_true : {P Q : Type 0} (b : Bool) → OnTrue b P → (P → Q) → OnTrue b Q
if_true true p f = f p
if_true false p f = tt

pub returns-in-Some-Rwlock : goal.returns-in-Some-Rwlock
returns-in-Some-Rwlock g c = record {
  free = let s = c.args.state.now in
      let lock = c.in-Some-Rwlock.lock in
      let stored : object_value s.objects c.args.o ≡ Some (Rwlock lock) =
      ap (object_value s.objects) (sym c.o.view_is)
      ∙ (sym c.in-Some-Rwlock.ensures ∙ ap Some c.in-Some-Rwlock.field-0-is) in
      if_true c.is_free_lock.result c.is_free_lock.ensures.free
      (free-lock (history_of s) c.args.kind c.args.o lock c.requires.follows
      (c.requires.object_rows.look.rwlocks c.args.o lock stored));
  all = λ class free.
      let s = c.args.state.now in
      let lock = c.in-Some-Rwlock.lock in
      let stored : object_value s.objects c.args.o ≡ Some (Rwlock lock) =
      ap (object_value s.objects) (sym c.o.view_is)
      ∙ (sym c.in-Some-Rwlock.ensures ∙ ap Some c.in-Some-Rwlock.field-0-is) in
      c.is_free_lock.ensures.all
      (lock-free (history_of s) c.args.kind c.args.o lock c.requires.follows
      (c.requires.object_rows.look.rwlocks c.args.o lock stored)
      (sym (c.requires.object_rows.look.kinds c.args.o) ∙ ap (option_map kind_in_row) stored) class
      free);
}
