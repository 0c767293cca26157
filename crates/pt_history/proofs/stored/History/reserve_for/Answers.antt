use Rattle.std.proofs.Common.{◌≡◌, ap, refl, arith}
use Rattle.pt_model.specs.StartRows.{rows_of_start}
use Rattle.pt_history.specs.Stored.{Stored, entries_of}
use Rattle.pt_history.proofs.Room.{seen-room, seen-length, not-full, else-memory}
use Rattle.pt_history.proofs.stored.History.reserve_for.Goals as goal

pub overflow_sub-self-inside : goal.overflow_sub-self-inside
overflow_sub-self-inside g c = omega (arith, c.len.ensures, c.self.invariant.0.fits)

pub returns-then-room-self-clause-full : goal.returns-then-room-self-clause-full
returns-then-room-self-clause-full g c =
    let i = c.self.inside in
    let many = seen-length c.args.self.now
    (rows_of_start i.start) i.start.at i.limit i.room i.records
    i.entries.items c.self.view_is in
    let most : i.limit ≡ c.args.self.now.limit = ap (λ (s : Stored). s.limit) c.self.view_is in (
      λ e. omega (arith, many, most, i.entries.ok.0, c.len.ensures, c.if-room-self.true),
      λ h. refl,
    )

pub returns-then-room-self-clause-unchanged : goal.returns-then-room-self-clause-unchanged
returns-then-room-self-clause-unchanged g c = refl

pub returns-then-room-self-clause-succeeds_if : goal.returns-then-room-self-clause-succeeds_if
returns-then-room-self-clause-succeeds_if g c =
    let i = c.self.inside in
    let room : i.room ≡ c.args.self.now.room = ap (λ (s : Stored). s.room) c.self.view_is in
    λ h. absurd
    (omega (arith, h, room, c.len.ensures, c.self.invariant.0.fits, c.if-room-self.true))

pub grow_for-requires-clause-within : goal.grow_for-requires-clause-within
grow_for-requires-clause-within g c =
    let i = c.self.inside in
    let many = seen-length c.args.self.now
    (rows_of_start i.start) i.start.at i.limit i.room i.records
    i.entries.items c.self.view_is in
    let most : i.limit ≡ c.args.self.now.limit = ap (λ (s : Stored). s.limit) c.self.view_is in
    omega (
      arith,
      many,
      most,
      i.entries.ok.0,
      c.len.ensures,
      c.self.invariant.0.fits,
      c.if-room-self.false,
    )

pub returns-then-room-self-2-clause-ok : goal.returns-then-room-self-2-clause-ok
returns-then-room-self-2-clause-ok g c = c.grow_for.ensures.ok

pub returns-then-room-self-2-clause-full : goal.returns-then-room-self-2-clause-full
returns-then-room-self-2-clause-full g c =
    let i = c.self.inside in
    let many = seen-length c.args.self.now
    (rows_of_start i.start) i.start.at i.limit i.room i.records
    i.entries.items c.self.view_is in
    let most : i.limit ≡ c.args.self.now.limit = ap (λ (s : Stored). s.limit) c.self.view_is in (
      λ e. not-full c.grow_for.result _ c.grow_for.ensures.err e,
      λ h. absurd (omega (
        arith,
        h,
        many,
        most,
        i.entries.ok.0,
        c.len.ensures,
        c.self.invariant.0.fits,
        c.if-room-self.false,
      )),
    )

pub returns-then-room-self-2-clause-unchanged : goal.returns-then-room-self-2-clause-unchanged
returns-then-room-self-2-clause-unchanged g c = c.grow_for.ensures.unchanged

pub returns-then-room-self-2-clause-err : goal.returns-then-room-self-2-clause-err
returns-then-room-self-2-clause-err g c =
    else-memory c.grow_for.result c.grow_for.ensures.err

pub returns-then-room-self-2-clause-succeeds_if : goal.returns-then-room-self-2-clause-succeeds_if
returns-then-room-self-2-clause-succeeds_if g c =
    let room : c.self.inside.room ≡ c.args.self.now.room =
    ap (λ (s : Stored). s.room) c.self.view_is in
    λ h. absurd (omega (arith, h, room, c.self.invariant.0.enough, c.if-room-self-2.true))

pub invariant_of-self : goal.invariant_of-self
invariant_of-self g c = (
  record {
    fits = omega (arith, c.len.ensures, c.self.invariant.0.fits, c.if-room-self.false);
    enough = c.if-room-self-2.false;
    has_capacity = c.self.invariant.0.has_capacity;
    places = c.self.invariant.0.places;
  },
  c.self.invariant.1,
  c.self.invariant.2,
  c.self.invariant.3,
)

pub returns-clause-ok : goal.returns-clause-ok
returns-clause-ok g c =
    let i = c.self.inside in
    seen-room c.args.self.now (rows_of_start i.start)
    (entries_of i.start.at i.records i.entries.items)
    (entries_of i.start.at i.records i.entries.items) i.limit i.room c.args.room refl
    c.self.view_is

pub returns-clause-full : goal.returns-clause-full
returns-clause-full g c =
    let i = c.self.inside in
    let many = seen-length c.args.self.now
    (rows_of_start i.start) i.start.at i.limit i.room i.records
    i.entries.items c.self.view_is in
    let most : i.limit ≡ c.args.self.now.limit = ap (λ (s : Stored). s.limit) c.self.view_is in (
      λ e. not-full _ _ tt e,
      λ h. absurd (omega (
        arith,
        h,
        many,
        most,
        i.entries.ok.0,
        c.len.ensures,
        c.self.invariant.0.fits,
        c.if-room-self.false,
      )),
    )
