use Rattle.std.proofs.Common.{◌==◌, ◌∙◌, Some, cond, ap}
use Rattle.pt_table.specs.Linked.{is_linked, is_this_number, next_number, number_before}
use Rattle.pt_table.proofs.Entered.{put-first, keeps-first, head-linked}
use Rattle.pt_table.proofs.Kept.{or-else}
use Rattle.pt_table.proofs.objects.Objects.link.Goals as goal

pub set_before-requires : goal.set_before-requires
set_before-requires g c = λ n e.
    let old = c.args.self.now in
    c.set_own.ensures.linked n
    ∙ head-linked (next_number old) (number_before old) (is_linked old) c.args.number c.args.head
    c.requires.chain.0 c.requires.chain.1 n e

pub returns-clause-chain : goal.returns-clause-chain
returns-clause-chain g c = λ numbers l.
    let old = c.args.self.now in
    let new = c.set_before.new.self in
    put-first (next_number old) (number_before old) (is_linked old) (next_number new)
    (number_before new) (is_linked new) c.args.number c.requires.free c.args.head
    (λ n. c.set_before.ensures.linked n ∙ c.set_own.ensures.linked n)
    (λ n. c.set_before.ensures.next n ∙ c.set_own.ensures.next n)
    (λ n. c.set_before.ensures.before n
    ∙ ap (cond (is_this_number c.args.head n) (Some c.args.number)) (c.set_own.ensures.before n))
    numbers l

pub returns-clause-others : goal.returns-clause-others
returns-clause-others g c = λ numbers l other others m apart.
    let old = c.args.self.now in
    let new = c.set_before.new.self in
    keeps-first (next_number old) (number_before old) (is_linked old) (next_number new)
    (number_before new) (is_linked new) c.args.number c.requires.free c.args.head
    (λ n. c.set_before.ensures.linked n ∙ c.set_own.ensures.linked n)
    (λ n. c.set_before.ensures.next n ∙ c.set_own.ensures.next n)
    (λ n. c.set_before.ensures.before n
    ∙ ap (cond (is_this_number c.args.head n) (Some c.args.number)) (c.set_own.ensures.before n))
    numbers l other others m apart

pub returns-clause-rows : goal.returns-clause-rows
returns-clause-rows g c = c.set_before.ensures.rows ∙ c.set_own.ensures.rows

pub returns-clause-linked : goal.returns-clause-linked
returns-clause-linked g c = λ n.
    c.set_before.ensures.linked n
    ∙ (c.set_own.ensures.linked n ∙ or-else (c.args.number == n) (is_linked c.args.self.now n))
