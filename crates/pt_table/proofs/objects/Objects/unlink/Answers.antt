use Rattle.std.proofs.Common.{◌∙◌, Some, None, cond, sym, ap, subst}
use Rattle.std.proofs.lemmas.Bool.{eq-eqb}
use Rattle.pt_table.specs.Linked.{is_linked, next_number, number_before, but_number, IsRowChain}
use Rattle.pt_table.specs.Linked.{IsOneOf}
use Rattle.pt_table.proofs.Lookups.{none_some}
use Rattle.pt_table.proofs.Links.{linked-there}
use Rattle.pt_table.proofs.Chained.{differs, all-linked, next-listed, before-listed, same-list}
use Rattle.pt_table.proofs.Taken.{take-from, keeps-from}
use Rattle.pt_table.proofs.objects.Objects.unlink.Goals as goal

pub take-after-requires-clause-row : goal.take-after-requires-clause-row
take-after-requires-clause-row g c =
    let old = c.args.self.now in
    linked-there old c.args.number
    (all-linked (next_number old) (number_before old) (is_linked old) None (Some c.args.head)
    c.requires.0 c.requires.1 c.args.number c.requires.2)

pub take-after-requires-clause-next : goal.take-after-requires-clause-next
take-after-requires-clause-next g c = λ n e.
    let old = c.args.self.now in
    all-linked (next_number old) (number_before old) (is_linked old) None (Some c.args.head)
    c.requires.0 c.requires.1 n
    (next-listed (next_number old) (number_before old) (is_linked old) None (Some c.args.head)
    c.requires.0 c.requires.1 c.args.number n c.requires.2 e)

pub take-after-requires-clause-before : goal.take-after-requires-clause-before
take-after-requires-clause-before g c = λ n e.
    let old = c.args.self.now in
    all-linked (next_number old) (number_before old) (is_linked old) None (Some c.args.head)
    c.requires.0 c.requires.1 n
    (before-listed (next_number old) (number_before old) (is_linked old) None (Some c.args.head)
    c.requires.0 c.requires.1 c.args.number n c.requires.2 e (λ f. none_some f))

pub returns-then-head-number-clause-chain : goal.returns-then-head-number-clause-chain
returns-then-head-number-clause-chain g c = λ numbers l.
    let old = c.args.self.now in
    let new = c.take-after.new.self in
    let listed = subst (λ ns. IsOneOf ns c.args.number)
    (same-list (next_number old) (number_before old) (is_linked old) None (Some c.args.head)
    c.requires.0 numbers c.requires.1 l) c.requires.2 in
    subst (λ h. IsRowChain new h (but_number numbers c.args.number))
    (ap (λ b. cond b (next_number old c.args.number) (Some c.args.head))
    (eq-eqb c.args.head c.args.number c.if-head-number.true) ∙ sym c.take-after.ensures.result)
    (take-from (next_number old) (number_before old) (is_linked old) (next_number new)
    (number_before new) (is_linked new) c.args.number c.take-after.ensures.linked
    c.take-after.ensures.next c.take-after.ensures.before (Some c.args.head) numbers l listed)

pub returns-then-head-number-clause-others : goal.returns-then-head-number-clause-others
returns-then-head-number-clause-others g c = λ numbers l other others m apart.
    let old = c.args.self.now in
    let new = c.take-after.new.self in
    let listed = subst (λ ns. IsOneOf ns c.args.number)
    (same-list (next_number old) (number_before old) (is_linked old) None (Some c.args.head)
    c.requires.0 numbers c.requires.1 l) c.requires.2 in
    keeps-from (next_number old) (number_before old) (is_linked old) (next_number new)
    (number_before new) (is_linked new) c.args.number c.take-after.ensures.linked
    c.take-after.ensures.next c.take-after.ensures.before (Some c.args.head) numbers l listed
    other others m apart

pub returns-else-head-number-clause-chain : goal.returns-else-head-number-clause-chain
returns-else-head-number-clause-chain g c = λ numbers l.
    let old = c.args.self.now in
    let new = c.take-after.new.self in
    let listed = subst (λ ns. IsOneOf ns c.args.number)
    (same-list (next_number old) (number_before old) (is_linked old) None (Some c.args.head)
    c.requires.0 numbers c.requires.1 l) c.requires.2 in
    subst (λ h. IsRowChain new h (but_number numbers c.args.number))
    (ap (λ b. cond b (next_number old c.args.number) (Some c.args.head))
    (differs c.args.head c.args.number c.if-head-number.false))
    (take-from (next_number old) (number_before old) (is_linked old) (next_number new)
    (number_before new) (is_linked new) c.args.number c.take-after.ensures.linked
    c.take-after.ensures.next c.take-after.ensures.before (Some c.args.head) numbers l listed)

pub returns-else-head-number-clause-others : goal.returns-else-head-number-clause-others
returns-else-head-number-clause-others g c = λ numbers l other others m apart.
    let old = c.args.self.now in
    let new = c.take-after.new.self in
    let listed = subst (λ ns. IsOneOf ns c.args.number)
    (same-list (next_number old) (number_before old) (is_linked old) None (Some c.args.head)
    c.requires.0 numbers c.requires.1 l) c.requires.2 in
    keeps-from (next_number old) (number_before old) (is_linked old) (next_number new)
    (number_before new) (is_linked new) c.args.number c.take-after.ensures.linked
    c.take-after.ensures.next c.take-after.ensures.before (Some c.args.head) numbers l listed
    other others m apart
