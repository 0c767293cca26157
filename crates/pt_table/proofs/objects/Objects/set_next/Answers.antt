use Rattle.std.proofs.Common.{◌∙◌, ap, sym, cond}
use Rattle.pt_table.specs.Linked.{is_this_number, is_linked, next_number, number_before}
use Rattle.pt_table.proofs.Links.{linked-there, before-found, linked-found, next-once}
use Rattle.pt_table.proofs.Links.{before-once, linked-once, rows_without_links-once, written-same}
use Rattle.pt_table.proofs.objects.Objects.set_next.Goals as goal

pub link_near-its-requires : goal.link_near-its-requires
link_near-its-requires g c =
    linked-there c.args.self.now c.in-Some.number (c.requires c.in-Some.number c.in-Some.is)

pub set_link-requires : goal.set_link-requires
set_link-requires g c =
    linked-there c.args.self.now c.in-Some.number (c.requires c.in-Some.number c.in-Some.is)

pub returns-in-Some-clause-next : goal.returns-in-Some-clause-next
returns-in-Some-clause-next g c = λ n.
    let rows = c.args.self.now in
    let at = c.in-Some.number in
    next-once rows c.set_link.new.self at _
    (linked-there rows at (c.requires at c.in-Some.is)) c.set_link.ensures n
    ∙ ap (λ o. cond (is_this_number o n) c.args.link.next (next_number rows n)) (sym c.in-Some.is)

pub returns-in-Some-clause-before : goal.returns-in-Some-clause-before
returns-in-Some-clause-before g c = λ n.
    let rows = c.args.self.now in
    let at = c.in-Some.number in
    before-once rows c.set_link.new.self at _
    (linked-there rows at (c.requires at c.in-Some.is)) c.set_link.ensures n
    ∙ written-same (number_before rows) at _
    (before-found rows at c.link_near-its.result c.link_near-its.ensures) n

pub returns-in-Some-clause-linked : goal.returns-in-Some-clause-linked
returns-in-Some-clause-linked g c = λ n.
    let rows = c.args.self.now in
    let at = c.in-Some.number in
    linked-once rows c.set_link.new.self at _
    (linked-there rows at (c.requires at c.in-Some.is)) c.set_link.ensures n
    ∙ written-same (is_linked rows) at _
    (linked-found rows at c.link_near-its.result c.link_near-its.ensures) n

pub returns-in-Some-clause-rows : goal.returns-in-Some-clause-rows
returns-in-Some-clause-rows g c =
    let rows = c.args.self.now in
    let at = c.in-Some.number in
    rows_without_links-once rows c.set_link.new.self at _
    (linked-there rows at (c.requires at c.in-Some.is)) c.set_link.ensures
