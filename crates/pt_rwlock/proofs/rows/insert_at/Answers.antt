use Rattle.std.proofs.Common.{◌∙◌, ap, sym, subst, cond, is_ok, arith}
use Rattle.std.specs.List.{insert}
use Rattle.std.specs.Map.{lookup}
use Rattle.std.specs.BTreeMap.{is_at}
use Rattle.std.specs.Ordering.{nat_cmp}
use Rattle.pt_rwlock.specs.RowPlaces.{IsInOrder}
use Rattle.pt_rwlock.proofs.PlaceLemmas.{insert-there, lookup-inserted, order-inserted, place-most}
use Rattle.pt_rwlock.proofs.rows.insert_at.Goals as goal

pub insert-requires : goal.insert-requires
insert-requires g c =
    let most = place-most c.args.rows.now.items c.args.client in
    let at = c.requires.place in
    omega (arith, most, at)

pub returns-in-Ok-clause-rows : goal.returns-in-Ok-clause-rows
returns-in-Ok-clause-rows g c =
    let items = c.args.rows.now.items in
    c.insert.ensures.items
    ∙ ap (λ r. cond (is_ok r) (insert items c.args.place (c.args.client, 0)) items) c.in-Ok.is
    ∙ ap (λ p. insert items p (c.args.client, 0)) c.requires.place
    ∙ insert-there items c.args.client 0 c.requires.ordered c.requires.new

pub returns-in-Ok-clause-others : goal.returns-in-Ok-clause-others
returns-in-Ok-clause-others g c = λ other.
    ap (lookup (is_at (nat_cmp other))) (returns-in-Ok-clause-rows g c)
    ∙ lookup-inserted c.args.rows.now.items c.args.client 0 other

pub returns-in-Ok-clause-order : goal.returns-in-Ok-clause-order
returns-in-Ok-clause-order g c =
    subst IsInOrder (sym (returns-in-Ok-clause-rows g c))
    (order-inserted c.args.rows.now.items c.args.client 0 c.requires.ordered)

pub returns-in-Err-clause-order : goal.returns-in-Err-clause-order
returns-in-Err-clause-order g c =
    subst IsInOrder (sym c.in-Err.ensures.items) c.requires.ordered
