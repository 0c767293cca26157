use Rattle.std.proofs.Common.{◌<◌, ◌+◌, take, length, sym, subst, refl, arith}
use Rattle.std.proofs.Math.ListN.{set}
use Rattle.std.proofs.lemmas.List.{length-set, length-take-le}
use Rattle.pt_table.specs.Linked.{next_number}
use Rattle.pt_table.proofs.Gathered.{IsGathered, gathers-none, has-room, one-written, gathers-more}
use Rattle.pt_table.proofs.Gathered.{gathers-all}
use Rattle.pt_table.proofs.objects.Objects.gather.Goals as goal

pub loop-rest-init : goal.loop-rest-init
loop-rest-init g c = (
  gathers-none c.args.self.now c.args.head c.requires.chain.0 c.requires.chain.1
      (take 0 c.args.numbers.now) refl,
  omega arith,
)

pub bounds-numbers-count : goal.bounds-numbers-count
bounds-numbers-count g c =
    let room = has-room c.args.self.now c.args.head c.loop-rest.rest
    (take c.loop-rest.count c.loop-rest.numbers) c.loop-rest.invariant.0
    (length c.args.numbers.now) c.requires.room c.in-Some.first c.in-Some.is in
    let front = length-take-le c.loop-rest.count c.loop-rest.numbers c.loop-rest.invariant.1 in
    omega (arith, room, front, c.loop-rest.auto.numbers)

pub loop-rest-smaller : goal.loop-rest-smaller
loop-rest-smaller g c =
    let room = has-room c.args.self.now c.args.head c.loop-rest.rest
    (take c.loop-rest.count c.loop-rest.numbers) c.loop-rest.invariant.0
    (length c.args.numbers.now) c.requires.room c.in-Some.first c.in-Some.is in
    let front = length-take-le c.loop-rest.count c.loop-rest.numbers c.loop-rest.invariant.1 in
    omega (arith, room, front)

pub loop-rest-preserved : goal.loop-rest-preserved
loop-rest-preserved g c =
    let rows = c.args.self.now in
    let head = c.args.head in
    let done = take c.loop-rest.count c.loop-rest.numbers in
    let first = c.in-Some.first in
    let room = has-room rows head c.loop-rest.rest done c.loop-rest.invariant.0
    (length c.args.numbers.now) c.requires.room first c.in-Some.is in
    let front = length-take-le c.loop-rest.count c.loop-rest.numbers c.loop-rest.invariant.1 in
    let within : c.loop-rest.count < length c.loop-rest.numbers =
    omega (arith, room, front, c.loop-rest.auto.numbers) in
    let len = length-set c.loop-rest.numbers c.loop-rest.count first in (
      subst (λ rest. IsGathered rows head rest
          (take (c.loop-rest.count + 1) (set c.loop-rest.numbers c.loop-rest.count first)))
          (sym c.next-rest.ensures)
          (subst (IsGathered rows head (next_number rows first))
          (sym (one-written c.loop-rest.count c.loop-rest.numbers first within))
          (gathers-more rows head c.loop-rest.rest done c.loop-rest.invariant.0 first
          c.in-Some.is)),
      omega (arith, within, len),
    )

pub returns-clause-chain : goal.returns-clause-chain
returns-clause-chain g c =
    gathers-all c.args.self.now c.args.head c.loop-rest.rest
    (take c.loop-rest.count c.loop-rest.numbers) c.loop-rest.invariant.0 c.in_default.is
