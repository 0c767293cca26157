use Rattle.std.proofs.Common.{◌∙◌, ◌<◌, add-one, ap, arith, drop, length, sym}
use Rattle.std.specs.Prelude.{slice_get}
use Rattle.pt_table.specs.Slots.{rows_listed}
use Rattle.pt_table.proofs.Packed.{first, none-after, passed, row_of, skipped, steps-down}
use Rattle.pt_table.proofs.Packed.{was_there}
use Rattle.pt_table.proofs.rows.Rows.scan.Goals.{then-is_some+else-before-eq0, else-is_some}
use Rattle.pt_table.proofs.rows.Rows.scan.Goals as goal

pub loop-i-preserved : goal.loop-i-preserved
loop-i-preserved g c =
    let number = g.R.Numbered.its_number in
    let slots = c.args.self.now.rows.slots in
    let es = c.args.self.now.slots.entries in
    let i = c.loop-i.i in
    let before = c.if-is_some.before in
    let here = slice_get (rows_listed number slots (drop i es)) in
    let within : i < length es = omega (arith, c.loop-i-test.true, c.len-i-end.ensures.len) in
    let there = was_there _ c.listed.result _ c.is_some.result c.listed.ensures
    c.is_some.ensures in
    ap (λ n. slice_get (rows_listed number slots (drop n es)) before) (add-one i)
    ∙ elim c.if-is_some.branch [
      | then-is_some+else-before-eq0 w ↦
          passed number slots i before es within (there ∙ w.if-is_some.true)
          ∙ (ap here (steps-down c.loop-i.before before w.before-is w.if-before-eq0.false)
          ∙ c.loop-i.invariant)
      | else-is_some w ↦
          skipped number slots i before es within (there ∙ w.if-is_some.false)
          ∙ (ap here w.before-is ∙ c.loop-i.invariant)
    ]

pub returns-then-before-eq0 : goal.returns-then-before-eq0
returns-then-before-eq0 g c =
    let number = g.R.Numbered.its_number in
    let slots = c.args.self.now.rows.slots in
    let es = c.args.self.now.slots.entries in
    let i = c.loop-i.i in
    let within : i < length es = omega (arith, c.loop-i-test.true, c.len-i-end.ensures.len) in
    let there = was_there _ c.listed.result _ c.is_some.result c.listed.ensures
    c.is_some.ensures in
    first number slots i es within (there ∙ c.if-is_some.true)
    ∙ (ap (slice_get (rows_listed number slots (drop i es))) (sym c.if-before-eq0.true)
    ∙ c.loop-i.invariant)

pub returns : goal.returns
returns g c =
    let number = g.R.Numbered.its_number in
    let slots = c.args.self.now.rows.slots in
    let es = c.args.self.now.slots.entries in
    ap (λ n. row_of number slots (slice_get es n)) c.len.ensures.len
    ∙ none-after number slots c.loop-i.i c.loop-i.before es
    (omega (arith, c.loop-i-test.false, c.len-i-end.ensures.len))
    ∙ c.loop-i.invariant
