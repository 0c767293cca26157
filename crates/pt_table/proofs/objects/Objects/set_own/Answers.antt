use Rattle.pt_table.proofs.Links.{next-once, before-once, linked-once, rows_without_links-once}
use Rattle.pt_table.proofs.objects.Objects.set_own.Goals as goal

pub returns-clause-next : goal.returns-clause-next
returns-clause-next g c =
    next-once c.args.self.now c.set_link.new.self c.args.number _ c.requires c.set_link.ensures

pub returns-clause-before : goal.returns-clause-before
returns-clause-before g c =
    before-once c.args.self.now c.set_link.new.self c.args.number _ c.requires c.set_link.ensures

pub returns-clause-linked : goal.returns-clause-linked
returns-clause-linked g c =
    linked-once c.args.self.now c.set_link.new.self c.args.number _ c.requires c.set_link.ensures

pub returns-clause-rows : goal.returns-clause-rows
returns-clause-rows g c =
    rows_without_links-once c.args.self.now c.set_link.new.self c.args.number _ c.requires
    c.set_link.ensures
