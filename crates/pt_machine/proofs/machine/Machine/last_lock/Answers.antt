use Rattle.std.proofs.Common.{sym, ap, ◌∙◌}
use Rattle.pt_table.specs.ObjectRows.{object_value}
use Rattle.pt_records.specs.Counts.{count_or_zero, count_if_passed, is_last_lock}
use Rattle.pt_state.specs.Adds.{history_of}
use Rattle.pt_state.specs.Needed.{last_lock}
use Rattle.pt_state.proofs.LastLocks.{last-kept}
use Rattle.pt_machine.proofs.machine.Machine.last_lock.Goals as goal

pub returns-else-is_last : goal.returns-else-is_last
returns-else-is_last g c =
    let s = c.args.self.now in
    let h = history_of s in
    sym (ap count_if_passed (sym c.is_last.ensures ∙ c.if-is_last.false))
    ∙ (ap (count_or_zero (λ x. count_if_passed (is_last_lock c.args.c x))) c.in-Some.ensures
    ∙ (ap (λ t. count_or_zero (λ x. count_if_passed (is_last_lock c.args.c x))
    (object_value t.objects c.m.inside.0)) c.self.view_is
    ∙ (last-kept h (object_value s.objects) c.requires.follows c.requires.object_rows.look
    c.args.c c.m.inside.0 ∙ ap (last_lock h c.args.c) c.m.view_is)))

pub returns-then-is_last : goal.returns-then-is_last
returns-then-is_last g c =
    let s = c.args.self.now in
    let h = history_of s in
    sym (ap count_if_passed (sym c.is_last.ensures ∙ c.if-is_last.true))
    ∙ (ap (count_or_zero (λ x. count_if_passed (is_last_lock c.args.c x))) c.in-Some.ensures
    ∙ (ap (λ t. count_or_zero (λ x. count_if_passed (is_last_lock c.args.c x))
    (object_value t.objects c.m.inside.0)) c.self.view_is
    ∙ (last-kept h (object_value s.objects) c.requires.follows c.requires.object_rows.look
    c.args.c c.m.inside.0 ∙ ap (last_lock h c.args.c) c.m.view_is)))

pub returns-in-None : goal.returns-in-None
returns-in-None g c =
    let s = c.args.self.now in
    let h = history_of s in
    ap (count_or_zero (λ x. count_if_passed (is_last_lock c.args.c x))) c.in-None.ensures
    ∙ (ap (λ t. count_or_zero (λ x. count_if_passed (is_last_lock c.args.c x))
    (object_value t.objects c.m.inside.0)) c.self.view_is
    ∙ (last-kept h (object_value s.objects) c.requires.follows c.requires.object_rows.look
    c.args.c c.m.inside.0 ∙ ap (last_lock h c.args.c) c.m.view_is))
