-- Deadlines that are dropped, row by row.
use Rattle.std.proofs.Common.{◌≡◌, ℕ, zero, suc, ◌+◌, ◌≤◌, ◌==◌, Bool, true, false, cond, ◌&&◌}
use Rattle.std.proofs.Common.{◌||◌, List, [], ◌∷◌, Option, Some, None, is_some, length, refl, sym}
use Rattle.std.proofs.Common.{ap, ◌∙◌, take, take_all, add-one}
use Rattle.std.specs.List.{list_any, cons_option}
use Rattle.pt_types.specs.declared.time.Clock.{Clock}
use Rattle.pt_types.specs.declared.time.Clock.TheVariants.{Mono, Real}
use Rattle.pt_types.specs.Times.{Timespec}
use Rattle.pt_timers.specs.Deadlines.{IsLeast, deadline_at}
use Rattle.pt_table.specs.declared.clients.ClientRow.{ClientRow}
use Rattle.pt_table.specs.ClientRows.{nth_value}
use Rattle.pt_model.specs.Found.{is_some_and}
use Rattle.pt_records.specs.declared.clients.Caller.{Caller}
use Rattle.pt_records.specs.declared.clients.Open.{Open}
use Rattle.pt_records.specs.Callers.{open_in, opens_of}
use Rattle.pt_machine.specs.CallDeadlines.{was_moved_at}

-- whether the entry at place k moved the call at place p
abbrev pub went : ℕ → ℕ → Open → Bool
went k p o = was_moved_at k o && (o.call.place == p)

-- the deadline at place p, after those of the calls that the entry at place k moved are dropped
abbrev pub dropped : ℕ → List Open → Option (Clock × ℕ) → ℕ → Option (Clock × ℕ)
dropped k opens before p = cond (list_any (went k p) opens) None before

or_none : (a : Bool) → a ≡ (a || false)
or_none true = refl
or_none false = refl

or_later : (a b c d : Bool) → c ≡ (b || d) → (a || c) ≡ ((a || b) || d)
or_later true b c d e = refl
or_later false b c d e = e

any_first : (q : Open → Bool) (first : Option Open) (os : List Open)
    → list_any q (cons_option first os) ≡ (is_some_and q first || list_any q os)
any_first q None os = refl
any_first q (Some o) os = refl

-- a test of the calls in one more row
any-more : (q : Open → Bool) (rows : List (ClientRow Caller)) (i : ℕ)
    → list_any q (opens_of (take (i + 1) rows))
    ≡ (list_any q (opens_of (take i rows)) || is_some_and q (open_in (nth_value rows i)))
any-more q rows i = ap (λ n. list_any q (opens_of (take n rows))) (add-one i) ∙ more rows i
  where
    more : (rows : List (ClientRow Caller)) (i : ℕ) → list_any q (opens_of (take (suc i) rows))
        ≡ (list_any q (opens_of (take i rows)) || is_some_and q (open_in (nth_value rows i)))
    more [] zero = refl
    more [] (suc i) = refl
    more (row ∷ rows) zero = any_first q row.value.open []
        ∙ sym (or_none (is_some_and q row.value.open))
    more (row ∷ rows) (suc i) =
        any_first q row.value.open (opens_of (take (suc i) rows))
        ∙ (or_later (is_some_and q row.value.open) (list_any q (opens_of (take i rows))) _ _
        (more rows i)
        ∙ ap (λ b. b || is_some_and q (open_in (nth_value rows i)))
        (sym (any_first q row.value.open (opens_of (take i rows)))))

dropped_again : (a b : Bool) (x y : Option (Clock × ℕ)) → x ≡ cond a None y
    → cond b None x ≡ cond (a || b) None y
dropped_again true true x y e = refl
dropped_again true false x y e = e
dropped_again false true x y e = refl
dropped_again false false x y e = e

module _ (k : ℕ) (rows : List (ClientRow Caller)) (i : ℕ) (before now : ℕ → Option (Clock × ℕ))
    (so_far : (p : ℕ) → now p ≡ dropped k (opens_of (take i rows)) (before p) p) where
  -- one more row
  more : (p : ℕ) → cond (is_some_and (went k p) (open_in (nth_value rows i))) None (now p)
      ≡ dropped k (opens_of (take (i + 1) rows)) (before p) p
  more p =
      dropped_again (list_any (went k p) (opens_of (take i rows)))
      (is_some_and (went k p) (open_in (nth_value rows i))) (now p) (before p) (so_far p)
      ∙ ap (λ b. cond b None (before p)) (sym (any-more (went k p) rows i))

  -- a row whose call was moved
  pub row-moved : (o : Open) → open_in (nth_value rows i) ≡ Some o → was_moved_at k o ≡ true
      → (next : ℕ → Option (Clock × ℕ)) → ((p : ℕ) → next p ≡ cond (o.call.place == p) None (now p))
      → (p : ℕ) → next p ≡ dropped k (opens_of (take (i + 1) rows)) (before p) p
  row-moved o row moved next does p =
      does p
      ∙ (ap (λ b. cond (b && (o.call.place == p)) None (now p)) (sym moved)
      ∙ (ap (λ x. cond (is_some_and (went k p) x) None (now p)) (sym row) ∙ more p))

  -- a row whose call wasn't
  pub row-kept : (o : Open) → open_in (nth_value rows i) ≡ Some o → was_moved_at k o ≡ false
      → (p : ℕ) → now p ≡ dropped k (opens_of (take (i + 1) rows)) (before p) p
  row-kept o row moved p =
      ap (λ b. cond (b && (o.call.place == p)) None (now p)) (sym moved)
      ∙ (ap (λ x. cond (is_some_and (went k p) x) None (now p)) (sym row) ∙ more p)

  -- a row with no call
  pub row-empty : open_in (nth_value rows i) ≡ None
      → (p : ℕ) → now p ≡ dropped k (opens_of (take (i + 1) rows)) (before p) p
  row-empty row p = ap (λ x. cond (is_some_and (went k p) x) None (now p)) (sym row) ∙ more p

-- at the end all rows were seen
pub rows-all : (k : ℕ) (rows : List (ClientRow Caller)) (n : ℕ) → length rows ≤ n
    → (before : Option (Clock × ℕ)) (p : ℕ)
    → dropped k (opens_of (take n rows)) before p ≡ dropped k (opens_of rows) before p
rows-all k rows n all before p =
    ap (λ rs. dropped k (opens_of rs) before p) (take_all n rows all)

-- if none is set, none is dropped
pub drops-none : (b : Bool) (before : Option (Clock × ℕ)) → before ≡ None
    → before ≡ cond b None before
drops-none true before e = e
drops-none false before e = refl

-- no deadline is set if neither clock has one
unset : (ts : List (ℕ × (Clock × ℕ))) → ((q m : ℕ) → deadline_at ts q ≡ Some (Real, m) → ⊥)
    → ((q m : ℕ) → deadline_at ts q ≡ Some (Mono, m) → ⊥) → (p : ℕ) → deadline_at ts p ≡ None
unset ts real mono p = go (deadline_at ts p) refl
  where
    go : (found : Option (Clock × ℕ)) → deadline_at ts p ≡ found → found ≡ None
    go None e = refl
    go (Some (Real, m)) e = absurd (real p m e)
    go (Some (Mono, m)) e = absurd (mono p m e)

pub unset-by : (ts : List (ℕ × (Clock × ℕ))) (real mono : Option Timespec) → IsLeast ts Real real
    → IsLeast ts Mono mono → real ≡ None → is_some mono ≡ false → (p : ℕ)
    → deadline_at ts p ≡ None
unset-by ts None None r m e f = unset ts r m
unset-by ts None (Some d) r m e f = absurd cc
unset-by ts (Some d) mono r m e f = absurd cc
