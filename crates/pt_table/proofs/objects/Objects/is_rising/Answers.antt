use Rattle.std.proofs.Common.{sym, ◌∙◌}
use Rattle.pt_table.proofs.Walked.{rise-begins, rise-on, rise-ends, rise-none}
use Rattle.pt_table.proofs.objects.Objects.is_rising.Goals as goal

pub returns-in_default : goal.returns-in_default
returns-in_default g c = rise-none c.args.self.now c.args.head c.in_default.is

pub loop-init : goal.loop-init
loop-init g c = rise-begins c.args.self.now c.args.head c.in-Some.last c.in-Some.is

pub loop-preserved : goal.loop-preserved
loop-preserved g c =
    rise-on c.args.self.now c.args.head c.loop.last c.in-Some-next.next c.loop.invariant
    (sym c.next.ensures ∙ c.in-Some-next.is) c.if-next-last.false

pub returns-in_default-next : goal.returns-in_default-next
returns-in_default-next g c =
    rise-ends c.args.self.now c.args.head c.loop.last c.loop.invariant
    (sym c.next.ensures ∙ c.in_default-next.is)
