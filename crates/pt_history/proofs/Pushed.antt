-- A stored history with one more entry.
use Rattle.std.proofs.Common.{ℕ, ◌≡◌, ◌+◌, ◌-◌, ◌<◌, ◌≤◌, List, [], ◌∷◌, ◌++◌, ap, sym, ◌∙◌}
use Rattle.std.proofs.Common.{subst, arith, if◌then◌else◌}
use Rattle.std.specs.Prelude.{Vec, vec_len, vec_capacity, ◌^◌}
use Rattle.pt_model.specs.declared.entry.Entry.{Entry}
use Rattle.pt_model.specs.Histories.{is_forced}
use Rattle.pt_model.specs.StartRows.{rows_of_start}
use Rattle.pt_history.specs.declared.compact.Compact.{Compact}
use Rattle.pt_history.specs.declared.records.Records.{Records}
use Rattle.pt_history.specs.declared.stored.History.TheInside.{Inside}
use Rattle.pt_history.specs.Compact.{base_of}
use Rattle.pt_history.specs.Records.{Shows}
use Rattle.pt_history.specs.Stored.{Stored, Appends, CanAppend, IsWithin, IsCounted, IsRecorded}
use Rattle.pt_history.specs.Stored.{entries_of, stored_with}
use Rattle.pt_history.proofs.Counts.{outer-most}
use Rattle.pt_history.proofs.Unchanged.{viewed, length-entries, entries-more, counted-more, recorded-more}

module _ {A : Type 0} (i : Inside A) (seen : Stored)
    (view : viewed (rows_of_start i.start) (entries_of i.start.at i.records i.entries.items) i.limit
    i.room ≡ seen)
    (some : 0 < seen.room)
    (holds : IsWithin i.start.at (vec_len i.entries) i.room i.memory i.limit
    (vec_capacity i.entries)
    × IsCounted (rows_of_start i.start) (entries_of i.start.at i.records i.entries.items) i.outer
    × IsRecorded i.records i.entries.items i.memory
    × (i.base ≡ base_of i.start.at))
  where
    room-is : i.room ≡ seen.room
    room-is = ap (λ (s : Stored). s.room) view

    -- there is room for one more entry
    pub can-append : CanAppend i.entries i.room i.memory
    can-append = record {
      some = omega (arith, some, room-is);
      enough = holds.0.enough;
      has_capacity = holds.0.has_capacity;
    }

    -- the number of outer entries can grow
    pub outer-fits : (m : ℕ) → m ≤ 1 → i.outer + m < 2 ^ 64
    outer-fits m one =
        let least = outer-most (rows_of_start i.start)
        (entries_of i.start.at i.records i.entries.items)
        holds.1.before in
        let many = length-entries i.start.at i.records i.entries.items in
        omega (arith, one, holds.1.all, least, many, i.entries.ok.0, holds.0.fits, holds.0.places)

    -- an entry was appended
    module _ (new : Records A) (ys : Vec Compact A) (c : Compact) (e : Entry)
        (room memory : ℕ) (a : Appends c i.entries ys i.room room i.memory memory)
        (shows : Shows i.base e i.records new c)
      where
        more : entries_of i.start.at new ys.items
            ≡ entries_of i.start.at i.records i.entries.items ++ e ∷ []
        more =
            entries-more i.start.at i.base i.records new i.entries.items ys.items c e i.memory
            holds.3 a.items shows holds.2

        -- the invariant holds still
        pub holds-appended : (outer m : ℕ) → outer ≡ i.outer + m
            → m ≡ (if is_forced e then 0 else 1)
            → IsWithin i.start.at (vec_len ys) room memory i.limit (vec_capacity ys)
            × IsCounted (rows_of_start i.start) (entries_of i.start.at new ys.items) outer
            × IsRecorded new ys.items memory
            × (i.base ≡ base_of i.start.at)
        holds-appended outer m sum one = (
          record {
            fits = omega (arith, holds.0.fits, some, room-is, a.len, a.less_room);
            enough = omega (arith, holds.0.enough, a.less_room, a.less_memory);
            has_capacity = omega (
              arith,
              holds.0.has_capacity,
              holds.0.enough,
              some,
              room-is,
              a.len,
              a.capacity,
              a.less_memory,
            );
            places = holds.0.places;
          },
          subst (IsCounted (rows_of_start i.start) (entries_of i.start.at new ys.items)) (sym sum)
              (counted-more (rows_of_start i.start) i.start.at i.records new i.entries.items
              ys.items e
              i.outer m more one holds.1),
          subst (IsRecorded new ys.items) (sym a.less_memory)
              (recorded-more i.base i.records new i.entries.items ys.items c e i.memory a.items
              (omega (arith, some, room-is, holds.0.enough)) shows holds.2),
          holds.3,
        )

        -- the history has the entry, and room for one less
        pub seen-appended : viewed (rows_of_start i.start)
            (entries_of i.start.at new ys.items) i.limit room
            ≡ stored_with e seen
        seen-appended =
            ap (λ (es : List Entry). viewed (rows_of_start i.start) es i.limit room) more
            ∙ (ap (viewed (rows_of_start i.start)
            (entries_of i.start.at i.records i.entries.items ++ e ∷ []) i.limit) a.less_room
            ∙ ap (stored_with e) view)
