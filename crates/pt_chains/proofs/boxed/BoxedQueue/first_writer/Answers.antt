use Rattle.std.proofs.Common.{sym, ap, ◌∙◌, subst, is_some}
use Rattle.pt_chains.specs.Boxes.{IsLone}
use Rattle.pt_chains.specs.Chains.{IsFirstWriter}
use Rattle.pt_chains.proofs.LoneWriters.{first-lone-writer, no-lone-writer}
use Rattle.pt_chains.proofs.SeenLemmas.{lone-waits, lone-within, none-first-writer, seen-lone}
use Rattle.pt_chains.proofs.SeenLemmas.{seen-boxed}
use Rattle.pt_chains.proofs.boxed.BoxedQueue.first_writer.Goals as goal

pub returns-then-self : goal.returns-then-self
returns-then-self g c =
    let own = c.self.inside in
    let is = sym c.get.ensures ∙ c.in-Some.is in
    let some = ap is_some is in
    subst (IsFirstWriter c.args.self.now) is
    (first-lone-writer own.p own.count own.head own.tail c.args.self.now
    (lone-within (λ b. b.value) own.boxed own.head own.tail own.count own.writer own.p
    c.args.self.now c.self.view_is c.self.invariant some)
    (lone-waits (λ b. b.value) own.boxed own.head own.tail own.count own.writer own.p
    c.args.self.now c.self.view_is c.self.invariant some)
    (subst (λ k. IsLone k own.p own.head own.tail own.count c.args.self.now) c.if-self.true
    (seen-lone (λ b. b.value) own.boxed own.head own.tail own.count own.writer own.p
    c.args.self.now c.self.view_is c.self.invariant some)))

pub returns-else-self : goal.returns-else-self
returns-else-self g c =
    let own = c.self.inside in
    let some = ap is_some (sym c.get.ensures ∙ c.in-Some.is) in
    no-lone-writer own.p own.count own.head own.tail c.args.self.now
    (lone-within (λ b. b.value) own.boxed own.head own.tail own.count own.writer own.p
    c.args.self.now c.self.view_is c.self.invariant some)
    (subst (λ k. IsLone k own.p own.head own.tail own.count c.args.self.now) c.if-self.false
    (seen-lone (λ b. b.value) own.boxed own.head own.tail own.count own.writer own.p
    c.args.self.now c.self.view_is c.self.invariant some))

pub returns-in-None : goal.returns-in-None
returns-in-None g c =
    let own = c.self.inside in
    none-first-writer (λ b. b.value) own.boxed own.head own.tail own.count own.writer own.p
    c.args.self.now c.self.view_is c.self.invariant (ap is_some c.in-None.is)

pub returns-in-Some-boxed : goal.returns-in-Some-boxed
returns-in-Some-boxed g c =
    let own = c.self.inside in
    let none = ap is_some (sym c.get.ensures ∙ c.in_default.is) in
    let seen = seen-boxed (λ b. b.value) own.boxed own.head own.tail own.count own.writer own.p
    c.args.self.now c.self.view_is c.self.invariant none c.in-Some-boxed.queue c.in-Some-boxed.is in
    subst (λ q. IsFirstWriter q c.first_writer.result) (c.deref.ensures ∙ seen)
    c.first_writer.ensures
