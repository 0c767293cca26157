use Rattle.std.proofs.Common.{subst, take}
use Rattle.std.specs.Prelude.{IsPermutation}
use Rattle.pt_table.proofs.ChainCallers.{chain-linked}
use Rattle.pt_table.proofs.Links.{linked-there}
use Rattle.pt_table.proofs.Sorted.{sorted-rise, was-there, sorted-to, others-kept, linked-again}
use Rattle.pt_table.proofs.objects.Objects.sort_by.Goals as goal

pub link_each-requires-clause-rising : goal.link_each-requires-clause-rising
link_each-requires-clause-rising g c =
    let ns = take c.gather-count.result c.gather-count.new.numbers in
    let ms = c.sort_numbers.new.numbers in
    let moved = subst (λ xs. IsPermutation xs ms) c.split_at_mut-numbers.ensures.front
    c.sort_numbers.ensures.unchanged in
    sorted-rise c.args.self.now c.args.head ns ms c.gather-count.ensures.chain moved
    c.sort_numbers.ensures.order

pub link_each-requires-clause-rows : goal.link_each-requires-clause-rows
link_each-requires-clause-rows g c = λ n i.
    let old = c.args.self.now in
    let ns = take c.gather-count.result c.gather-count.new.numbers in
    let ms = c.sort_numbers.new.numbers in
    let moved = subst (λ xs. IsPermutation xs ms) c.split_at_mut-numbers.ensures.front
    c.sort_numbers.ensures.unchanged in
    linked-there old n (chain-linked old c.args.head ns c.gather-count.ensures.chain n
    (was-there old c.args.head ns ms c.gather-count.ensures.chain moved n i))

pub returns-clause-chain : goal.returns-clause-chain
returns-clause-chain g c =
    let ns = take c.gather-count.result c.gather-count.new.numbers in
    let ms = c.sort_numbers.new.numbers in
    let moved = subst (λ xs. IsPermutation xs ms) c.split_at_mut-numbers.ensures.front
    c.sort_numbers.ensures.unchanged in
    sorted-to c.args.self.now c.args.head ns ms c.gather-count.ensures.chain moved
    c.link_each.new.self c.link_each.result c.sort_numbers.ensures.order
    c.link_each.ensures.chain

pub returns-clause-others : goal.returns-clause-others
returns-clause-others g c =
    let ns = take c.gather-count.result c.gather-count.new.numbers in
    let ms = c.sort_numbers.new.numbers in
    let moved = subst (λ xs. IsPermutation xs ms) c.split_at_mut-numbers.ensures.front
    c.sort_numbers.ensures.unchanged in
    others-kept c.args.self.now c.args.head ns ms c.gather-count.ensures.chain moved
    c.link_each.new.self c.link_each.ensures.next c.link_each.ensures.before
    c.link_each.ensures.linked

pub returns-clause-linked : goal.returns-clause-linked
returns-clause-linked g c =
    let ns = take c.gather-count.result c.gather-count.new.numbers in
    let ms = c.sort_numbers.new.numbers in
    let moved = subst (λ xs. IsPermutation xs ms) c.split_at_mut-numbers.ensures.front
    c.sort_numbers.ensures.unchanged in
    linked-again c.args.self.now c.args.head ns ms c.gather-count.ensures.chain moved
    c.link_each.new.self c.link_each.result c.link_each.ensures.chain c.link_each.ensures.linked

pub returns-clause-rows : goal.returns-clause-rows
returns-clause-rows g c = c.link_each.ensures.rows
