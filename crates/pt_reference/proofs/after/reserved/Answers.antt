use Rattle.std.proofs.Common.{◌+◌, sym, ◌∙◌, arith}
use Rattle.pt_model.specs.Histories.{history, ◌▷◌}
use Rattle.pt_reference.proofs.Ends.{both}
use Rattle.pt_reference.proofs.Rooms.{reserved_more, reserved_none, reserved_end}
use Rattle.pt_reference.proofs.after.reserved.Goals as goal

pub loop-i-init : goal.loop-i-init
loop-i-init c = record {
  value = sym (reserved_none (history c.args.entries.now ▷ c.args.entry.now));
  small = omega arith;
}

pub loop-i-preserved : goal.loop-i-preserved
loop-i-preserved c =
    let h = history c.args.entries.now ▷ c.args.entry.now in
    record {
      value = both ◌+◌ c.loop-i.invariant.value c.reserved_at-total.ensures.value
          ∙ sym (reserved_more h c.loop-i.i);
      small = omega (arith, c.reserved_at-total.ensures.within);
    }

pub returns-clause-value : goal.returns-clause-value
returns-clause-value c =
    c.loop-i.invariant.value
    ∙ reserved_end c.args.entries.now c.args.entry.now c.loop-i.i (omega arith)
