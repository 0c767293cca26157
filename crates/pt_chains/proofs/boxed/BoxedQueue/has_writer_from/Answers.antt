use Rattle.std.proofs.Common.{sym, ap, ◌∙◌, subst, is_some, arith}
use Rattle.std.proofs.lemmas.Bool.Decides.{nat_tests}
use Rattle.std.proofs.lemmas.Bool.{false≢true}
use Rattle.pt_chains.specs.Boxes.{IsLone}
use Rattle.pt_chains.proofs.LoneWriters.{lone-reader-from, lone-writer-below, lone-writer-from}
use Rattle.pt_chains.proofs.SeenLemmas.{lone-waits, lone-within, no-writer-from, seen-lone}
use Rattle.std.specs.Prelude.{◌↔◌, IsTrue}
use Rattle.pt_chains.specs.declared.sides.Queue.{Queue}
use Rattle.pt_chains.specs.Chains.{HasWriterFrom}
use Rattle.pt_chains.proofs.SeenLemmas.{seen-boxed, boxed-waits}
use Rattle.pt_chains.proofs.boxed.BoxedQueue.has_writer_from.Goals as goal

pub returns-then-self : goal.returns-then-self
returns-then-self g c =
    let own = c.self.inside in
    let some = c.if-not-is_none.ensures in
    let within = lone-within (λ b. b.value) own.boxed own.head own.tail own.count own.writer own.p
    c.args.self.now c.self.view_is c.self.invariant some in
    let waits = lone-waits (λ b. b.value) own.boxed own.head own.tail own.count own.writer own.p
    c.args.self.now c.self.view_is c.self.invariant some in
    let is = subst (λ k. IsLone k own.p own.head own.tail own.count c.args.self.now) c.if-self.true
    (seen-lone (λ b. b.value) own.boxed own.head own.tail own.count own.writer own.p
    c.args.self.now c.self.view_is c.self.invariant some) in (
      λ t. lone-writer-from own.p own.count own.head own.tail c.args.self.now within waits is
          c.args.p (grind (arith, nat_tests, t)),
      λ w. let le = lone-writer-below own.p own.count own.head own.tail c.args.self.now within is
          c.args.p w in
          grind (arith, nat_tests, le),
    )

pub returns-else-self : goal.returns-else-self
returns-else-self g c =
    let own = c.self.inside in
    let some = c.if-not-is_none.ensures in
    let within = lone-within (λ b. b.value) own.boxed own.head own.tail own.count own.writer own.p
    c.args.self.now c.self.view_is c.self.invariant some in
    let is = subst (λ k. IsLone k own.p own.head own.tail own.count c.args.self.now) c.if-self.false
    (seen-lone (λ b. b.value) own.boxed own.head own.tail own.count own.writer own.p
    c.args.self.now c.self.view_is c.self.invariant some) in (
      λ t. absurd (false≢true (sym c.if-self.false ∙ t)),
      λ w. absurd (lone-reader-from own.p own.count own.head own.tail c.args.self.now within is
          c.args.p w),
    )

pub returns-in-None : goal.returns-in-None
returns-in-None g c =
    let own = c.self.inside in
    no-writer-from (λ b. b.value) own.boxed own.head own.tail own.count own.writer own.p
    c.args.self.now c.self.view_is c.self.invariant (ap is_some c.in-None.is) c.args.p

pub has_writer_from-requires : goal.has_writer_from-requires
has_writer_from-requires g c =
    let own = c.self.inside in
    let waits = boxed-waits (λ b. b.value) own.boxed own.head own.tail own.count own.writer own.p
    c.args.self.now c.self.view_is c.self.invariant c.if-not-is_none.ensures c.in-Some.queue
    c.in-Some.is in
    λ z. waits (ap (λ (q : Queue). q.len) (sym c.deref.ensures) ∙ z)

pub returns-in-Some : goal.returns-in-Some
returns-in-Some g c =
    let own = c.self.inside in
    let seen = seen-boxed (λ b. b.value) own.boxed own.head own.tail own.count own.writer own.p
    c.args.self.now c.self.view_is c.self.invariant c.if-not-is_none.ensures c.in-Some.queue
    c.in-Some.is in
    subst (λ q. IsTrue c.has_writer_from.result ↔ HasWriterFrom q c.args.p)
    (c.deref.ensures ∙ seen) c.has_writer_from.ensures
