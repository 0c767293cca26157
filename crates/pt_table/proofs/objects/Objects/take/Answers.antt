use Rattle.std.proofs.Common.{◌∙◌}
use Rattle.pt_table.proofs.ChainCallers.{same-has}
use Rattle.std.proofs.Common.{◌==◌, cond, false, ap}
use Rattle.pt_table.specs.declared.link.Link.{Link}
use Rattle.pt_table.specs.Linked.{is_linked}
use Rattle.std.proofs.Common.{None, sym}
use Rattle.std.specs.Option.{option_and_then}
use Rattle.pt_table.specs.Linked.{is_this_number, next_number, number_before}
use Rattle.pt_table.proofs.objects.Objects.take.Goals as goal

pub set_own-requires : goal.set_own-requires
set_own-requires g c =
    same-has c.set_next.new.self c.set_before.new.self c.set_before.ensures.rows c.args.number
    ∙ same-has c.args.self.now c.set_next.new.self c.set_next.ensures.rows c.args.number
    ∙ c.requires.row

pub returns-clause-rows : goal.returns-clause-rows
returns-clause-rows g c =
    c.set_own.ensures.rows ∙ (c.set_before.ensures.rows ∙ c.set_next.ensures.rows)

pub returns-clause-linked : goal.returns-clause-linked
returns-clause-linked g c = λ n.
    let own = c.args.number == n in
    c.set_own.ensures.linked n
    ∙ (ap (λ (l : Link). cond own l.linked (is_linked c.set_before.new.self n)) c.out.ensures
    ∙ ap (λ b. cond own false b) (c.set_before.ensures.linked n ∙ c.set_next.ensures.linked n))

pub returns-clause-result : goal.returns-clause-result
returns-clause-result g c =
    sym (ap (option_and_then (λ (l : Link). l.next)) c.link_near-link.ensures)

pub returns-clause-next : goal.returns-clause-next
returns-clause-next g c = λ n.
    let own = c.args.number == n in
    let link = c.link_near-link.result in
    let old = c.args.self.now in
    let next = ap (option_and_then (λ (l : Link). l.next)) c.link_near-link.ensures in
    let before = ap (option_and_then (λ (l : Link). l.before)) c.link_near-link.ensures in
    c.set_own.ensures.next n
    ∙ (ap (λ (l : Link). cond own l.next (next_number c.set_before.new.self n)) c.out.ensures
    ∙ ap (λ x. cond own None x) (c.set_before.ensures.next n ∙ c.set_next.ensures.next n
    ∙ (ap (λ x. cond (is_this_number x n) link.next (next_number old n)) (sym before)
    ∙ ap (λ x. cond (is_this_number (number_before old c.args.number) n) x (next_number old n)) (sym
    next))))

pub returns-clause-before : goal.returns-clause-before
returns-clause-before g c = λ n.
    let own = c.args.number == n in
    let link = c.link_near-link.result in
    let old = c.args.self.now in
    let next = ap (option_and_then (λ (l : Link). l.next)) c.link_near-link.ensures in
    let before = ap (option_and_then (λ (l : Link). l.before)) c.link_near-link.ensures in
    c.set_own.ensures.before n
    ∙ (ap (λ (l : Link). cond own l.before (number_before c.set_before.new.self n)) c.out.ensures
    ∙ ap (λ x. cond own None x) (c.set_before.ensures.before n
    ∙ ap (λ x. cond (is_this_number link.next
    n) link.before x) (c.set_next.ensures.before n)
    ∙ (ap (λ x. cond (is_this_number x n) link.before (number_before old n)) (sym next)
    ∙ ap (λ x. cond (is_this_number (next_number old c.args.number) n) x (number_before old n)) (sym
    before))))

pub set_before-requires : goal.set_before-requires
set_before-requires g c = λ n e.
    c.set_next.ensures.linked n
    ∙ c.requires.next n
    (ap (option_and_then (λ (l : Link). l.next)) c.link_near-link.ensures ∙ e)
