use Rattle.std.proofs.Common.{◌≡◌, ◌<◌, ℕ, List, Option, IfSome, arith, refl, sym, ap, ◌∙◌, subst}
use Rattle.pt_cells.specs.Cells.{SeenView}
use Rattle.std.proofs.lemmas.Bool.{false≢true}
use Rattle.pt_model.specs.Clients.{is_alive}
use Rattle.pt_legal.specs.Cores.{history_of}
use Rattle.pt_hub.specs.declared.pass.Receipt.{Receipt}
use Rattle.pt_hub.specs.AnsweringCores.{AnsweringCoreView, hub_core, count_if_true}
use Rattle.pt_hub.specs.Hubs.{HubView, next_place}
use Rattle.pt_hub.specs.Passes.{LeftView, last_place}
use Rattle.pt_hub.proofs.HubEvents.{dies}
use Rattle.pt_hub.proofs.HubLemmas.{hub-died, hub-hub_core}
use Rattle.pt_hub.proofs.KnownRefusals.{death-lives}
use Rattle.pt_hub.proofs.OwnCalls.{own-death}
use Rattle.pt_hub.proofs.hub.Hub.die.Goals as goal
use Rattle.pt_hub.proofs.hub.Hub.die.Goals.{in-Some, in-None}

pub invariant_of-self : goal.invariant_of-self
invariant_of-self g c =
    let old : HubView =
    record {
      inner = c.self.inside.inner;
      marks = c.self.inside.marks.entries;
      session_count =
          c.self.inside.session_count;
      booked = c.self.inside.tally.total;
    } in
    let new : HubView =
    record {
      inner = c.die.new.self;
      marks = c.self.inside.marks.entries;
      session_count =
          c.self.inside.session_count;
      booked = c.count.new.self.total;
    } in
    hub-died old new c.self.inside.tally c.count.new.self c.self.invariant _ c.in-Some.field-0
    c.len-died_at.ensures.starts c.in-Some.ensures.some
    c.count.ensures.outer (omega (arith, c.count.ensures.left)) refl c.count.ensures.total

pub returns-clause-alive : goal.returns-clause-alive
returns-clause-alive g c =
    let old : HubView =
    record {
      inner = c.self.inside.inner;
      marks = c.self.inside.marks.entries;
      session_count = c.self.inside.session_count;
      booked = c.self.inside.tally.total;
    } in
    rw (← c.self.view_is, ← c.pass.view_is)
    elim c.match-die.branch [
      | in-Some w ↦ rw w.self-is (λ lives.
          dies old c.pass.inside.client c.die.new.self w.count.new.self.total w.in-Some.field-0
          w.in-Some.ensures.some (w.in-Some.ensures.account refl) (w.in-Some.ensures.cells refl))
      | in-None w ↦ λ lives. absurd (false≢true (sym w.in-None.ensures.none.0 ∙ lives))
    ]

pub returns-clause-dead : goal.returns-clause-dead
returns-clause-dead g c =
    rw (← c.self.view_is, ← c.pass.view_is)
    elim c.match-die.branch [
      | in-Some w ↦ λ dead. absurd (false≢true (sym dead
          ∙ death-lives (hub_core c.self.inside.inner) c.pass.inside.client
          w.in-Some.ensures.some.writes.accepted))
      | in-None w ↦ λ dead. w.self-is ∙ ap (λ (d : AnsweringCoreView). record {
        inner = d;
        marks = c.self.inside.marks.entries;
        session_count = c.self.inside.session_count;
        booked = c.self.inside.tally.total;
      }) w.in-None.ensures.none.1
    ]

pub returns-clause-left : goal.returns-clause-left
returns-clause-left g c =
    let left : ℕ → ℕ → LeftView = λ (n m : ℕ). record {
      client = c.pass.inside.client;
      priority = c.pass.inside.priority;
      joined = c.pass.inside.seen;
      discarded = c.pass.inside.discarded;
      receipts = c.pass.inside.receipts.items;
      died_at = n;
      seen = c.match-die.deaths.1;
      deaths = m;
    } in
    let count : ℕ × Option SeenView → ℕ = λ p. p.0 in
    let many : c.match-die.deaths.0
    ≡ count_if_true (is_alive (history_of (hub_core c.self.inside.inner)) c.pass.inside.client) =
    elim c.match-die.branch [
      | in-Some w ↦ ap count w.deaths-is
          ∙ sym (ap count_if_true (death-lives (hub_core c.self.inside.inner)
          c.pass.inside.client w.in-Some.ensures.some.writes.accepted))
      | in-None w ↦ ap count w.deaths-is ∙ sym (ap count_if_true w.in-None.ensures.none.0)
    ] in
    rw (← c.self.view_is, ← c.pass.view_is)
    (ap (λ n. left n c.match-die.deaths.0) c.len-died_at.ensures.value
    ∙ ap (left (next_place c.self.inside.inner)) many)

pub invariant_of-self-in-None : goal.invariant_of-self-in-None
invariant_of-self-in-None g c =
    let old : HubView =
    record {
      inner = c.self.inside.inner;
      marks = c.self.inside.marks.entries;
      session_count = c.self.inside.session_count;
      booked = c.self.inside.tally.total;
    } in
    hub-hub_core old c.die.new.self c.self.inside.tally c.self.invariant c.in-None.ensures.none.1

-- what the client leaves has seen its Death, if anything, above its calls
pub invariant_of-result : goal.invariant_of-result
invariant_of-result g c =
    elim c.match-die.branch [
      | in-Some w ↦ rw (w.share-is, w.deaths-is) (
        w.count.ensures.parts ∙ c.pass.invariant.0,
        omega arith,
        omega (arith, w.count.ensures.amount, c.pass.invariant.1),
        c.pass.invariant.2,
        c.pass.invariant.3,
        record {
          own = own-death (hub_core c.self.inside.inner)
              (hub_core c.die.new.self) c.die.new.self.core
              w.seen_after.result w.in-Some.field-0 c.pass.inside.client c.len-died_at.result
              w.in-Some.ensures.some.writes c.len-died_at.ensures.value
              w.seen_after.ensures.stored w.seen_after.ensures.entry;
          last = subst (λ (n : ℕ). IfSome w.seen_after.result
              (λ s. last_place n c.pass.inside.receipts.items < c.len-died_at.result))
              c.client.view_is
              (subst (λ (rs : List Receipt). IfSome w.seen_after.result
              (λ s. last_place c.client.inside.0 rs < c.len-died_at.result))
              w.as_slice.ensures.value w.seen_after.ensures.later);
        },
      )
      | in-None w ↦ rw (w.share-is, w.deaths-is) (
        c.pass.invariant.0,
        omega arith,
        omega (arith, c.pass.invariant.1),
        c.pass.invariant.2,
        c.pass.invariant.3,
        record { own = tt; last = tt },
      )
    ]
