use Rattle.std.proofs.Common.{sym, ap, ◌∙◌, subst, is_some}
use Rattle.pt_chains.specs.Chains.{IsFirst}
use Rattle.pt_chains.proofs.LoneLemmas.{first-lone}
use Rattle.pt_chains.proofs.SeenLemmas.{lone-waits, lone-within, none-first, seen-lone}
use Rattle.pt_chains.proofs.SeenLemmas.{seen-boxed}
use Rattle.pt_chains.proofs.boxed.BoxedQueue.first.Goals as goal

pub returns-in-Some : goal.returns-in-Some
returns-in-Some g c =
    let own = c.self.inside in
    let is = sym c.get.ensures ∙ c.in-Some.is in
    let some = ap is_some is in
    subst (IsFirst c.args.self.now) is
    (first-lone own.writer own.p own.count own.head own.tail c.args.self.now
    (lone-within (λ b. b.value) own.boxed own.head own.tail own.count own.writer own.p
    c.args.self.now c.self.view_is c.self.invariant some)
    (seen-lone (λ b. b.value) own.boxed own.head own.tail own.count own.writer own.p
    c.args.self.now c.self.view_is c.self.invariant some)
    (lone-waits (λ b. b.value) own.boxed own.head own.tail own.count own.writer own.p
    c.args.self.now c.self.view_is c.self.invariant some))

pub returns-in-None : goal.returns-in-None
returns-in-None g c =
    let own = c.self.inside in
    none-first (λ b. b.value) own.boxed own.head own.tail own.count own.writer own.p
    c.args.self.now c.self.view_is c.self.invariant (ap is_some c.in-None.is)

pub returns-in-Some-boxed : goal.returns-in-Some-boxed
returns-in-Some-boxed g c =
    let own = c.self.inside in
    let none = ap is_some (sym c.get.ensures ∙ c.in_default.is) in
    let seen = seen-boxed (λ b. b.value) own.boxed own.head own.tail own.count own.writer own.p
    c.args.self.now c.self.view_is c.self.invariant none c.in-Some-boxed.queue c.in-Some-boxed.is in
    subst (λ q. IsFirst q c.first.result) (c.deref.ensures ∙ seen) c.first.ensures
