use Rattle.std.proofs.Common.{◌≡◌, ◌≤◌, ℕ, ◌+◌, max, sym, ◌∙◌, subst, arith}
use Rattle.std.proofs.Math.Nat.{le-max_left, le-max_right, max-le}
use Rattle.pt_model.specs.declared.entry.Entry.{Entry}
use Rattle.pt_model.specs.Histories.{Begin, ◌▷◌}
use Rattle.pt_model.specs.Room.{need, entry_for}
use Rattle.pt_model.specs.Seals.{seal}
use Rattle.pt_model.specs.Steps.{Step}
use Rattle.pt_state.specs.Adds.{history_of}
use Rattle.pt_history.specs.Stored.{Stored}
use Rattle.pt_machine.specs.AfterSeal.{AddsSealed}
use Rattle.pt_core.specs.Settling.{Settles}
use Rattle.pt_core.proofs.OpenLemmas.{room-asked}
use Rattle.pt_core.proofs.RenewingLemmas.{entry-renewed, step-renewed, roomy-added, enters-renewed}
use Rattle.pt_core.proofs.RenewingLemmas.{roomy-kept}
use Rattle.pt_core.proofs.SealedCores.{settled}
use Rattle.pt_core.proofs.ValidStateLemmas.{entry_replies-outer}
use Rattle.pt_core.proofs.sealed_entry.enter_sealed.Goals as goal

pub push_outer_sealed-requires-clause-settled : goal.push_outer_sealed-requires-clause-settled
push_outer_sealed-requires-clause-settled g c = settled c.args.body.now c.requires.valid

pub push_outer_sealed-requires-clause-step : goal.push_outer_sealed-requires-clause-step
push_outer_sealed-requires-clause-step g c =
    let s = c.args.body.now in
    let v = c.args.event.now in
    subst (λ (e : Entry). Step (Begin (seal (history_of s))) e)
    (entry-renewed s c.requires.valid v c.requires.accepted)
    (step-renewed s c.requires.valid v c.requires.accepted)

within_room : (k r room n : ℕ) → k ≤ 1 → r ≡ max room (1 + n) → k ≤ r
within_room k r room n le e = omega (arith, le-max_right room (1 + n))

pub push_outer_sealed-requires-clause-spare : goal.push_outer_sealed-requires-clause-spare
push_outer_sealed-requires-clause-spare g c =
    within_room _ c.max-room.result c.room.result c.args.need
    (entry_replies-outer (Begin (seal
    (history_of c.args.body.now))) c.args.event.now) c.max-room.ensures

pub settle-requires : goal.settle-requires
settle-requires g c =
    let s = c.args.body.now in
    let v = c.args.event.now in
    let n = c.max-room.result in
    let needed = 1 + need (history_of s ▷ entry_for (history_of s) v) in
    let asked : n ≡ max s.stored.room needed =
    c.max-room.ensures ∙ room-asked (history_of s) v s.stored.room c.room.result c.args.need
    c.room.ensures.room c.requires.need in
    roomy-added s c.requires.valid v c.requires.accepted n
    (omega (arith, asked, le-max_right s.stored.room needed))
    (omega (arith, asked, le-max_left s.stored.room needed))
    (omega (
      arith,
      asked,
      max-le {a = s.stored.room} {b = needed} {k = s.stored.limit}
          (omega (arith, c.requires.valid.valid_store.fits)) c.requires.fits,
    ))
    c.push_outer_sealed.new.self
    (subst (λ (e : Entry). AddsSealed s n e c.push_outer_sealed.new.self)
    (sym (entry-renewed s c.requires.valid v c.requires.accepted))
    c.in_ok-unsealed.ensures.ok)

pub returns-clause-room : goal.returns-clause-room
returns-clause-room g c = roomy-kept c.settle.new.body c.take_memory.new.self
    c.take_memory.ensures c.settle.ensures.room

pub returns-clause-ok : goal.returns-clause-ok
returns-clause-ok g c =
    let s = c.args.body.now in
    let v = c.args.event.now in
    let n = c.max-room.result in
    let needed = 1 + need (history_of s ▷ entry_for (history_of s) v) in
    let asked : n ≡ max s.stored.room needed =
    c.max-room.ensures ∙ room-asked (history_of s) v s.stored.room c.room.result c.args.need
    c.room.ensures.room c.requires.need in
    enters-renewed s c.requires.valid v c.requires.accepted n
    (omega (arith, asked, le-max_right s.stored.room needed))
    (omega (arith, asked, le-max_left s.stored.room needed))
    (omega (
      arith,
      asked,
      max-le {a = s.stored.room} {b = needed} {k = s.stored.limit}
          (omega (arith, c.requires.valid.valid_store.fits)) c.requires.fits,
    ))
    c.push_outer_sealed.new.self
    (subst (λ (e : Entry). AddsSealed s n e c.push_outer_sealed.new.self)
    (sym (entry-renewed s c.requires.valid v c.requires.accepted))
    c.in_ok-unsealed.ensures.ok)
    c.take_memory.new.self.stored
    (subst (λ (t : Stored). Settles c.push_outer_sealed.new.self.stored t)
    (sym c.take_memory.ensures.stored) c.settle.ensures.settles)
