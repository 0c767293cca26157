-- What is known of a queue's row by its slot.
use Rattle.std.proofs.Common.{◌≡◌, ℕ, suc, ◌==◌, Bool, true, false, cond, List, [], ◌∷◌, length}
use Rattle.std.proofs.Common.{Option, Some, None, is_some, nat_eq, eq-eqb, refl, sym, ap, ◌∙◌, ◌+◌}
use Rattle.std.proofs.Common.{subst, arith}
use Rattle.std.specs.Prelude.{IsSome, unwrap_or}
use Rattle.std.specs.Option.{option_map, option_copied, option_copied_mut}
use Rattle.std.specs.Map.{lookup}
use denote.Ref.{Bor, MutBor}
use Rattle.std.proofs.lemmas.Bool.Decides.{nat_tests}
use Rattle.std.proofs.lemmas.Bool.{false≢true}
use Rattle.pt_chains.specs.declared.sides.Queue.{Queue}
use Rattle.pt_waitq.specs.Waits.{is_listed}
use Rattle.pt_chains.specs.Chains.{numbers, Unique}
use Rattle.pt_chains.specs.Boxes.{no_queue}
use Rattle.pt_chains.specs.Rows.{RowsView, row_in, row_number, chains_in, rows_by, rows_of, AreRows}
use Rattle.pt_chains.proofs.ChainLemmas.{listed-lookup, some_same}

pub none_some : {X P : Type 0} (x : X) → None ≡ Some x → P
none_some x e = absurd (cc e)

-- what is true of a value is true of the one that was found
pub found-row : {X : Type 0} (P : X → Type 0) (f : Option X) (x y : X) → Some x ≡ f → f ≡ Some y
    → P x → P y
found-row P f x y found is p = subst P (ap (λ o. unwrap_or o x) (found ∙ is)) p

pub no-row : {X P : Type 0} (f : Option X) (y : X) → None ≡ f → f ≡ Some y → P
no-row f y none is = absurd (cc (none, is))

-- the row of a number is the one in its slot
pub lookup-rows : (places : List (ℕ × ℕ)) (slots : List (Option (ℕ × Queue))) (o : ℕ)
    → lookup (nat_eq o) (rows_by places slots)
    ≡ option_map (chains_in slots) (lookup (nat_eq o) places)
lookup-rows [] slots o = refl
lookup-rows (e ∷ es) slots o = go (nat_eq o e.0) (lookup-rows es slots o)
  where
    go : (b : Bool) → lookup (nat_eq o) (rows_by es slots)
        ≡ option_map (chains_in slots) (lookup (nat_eq o) es)
        → cond b (Some (chains_in slots e.1)) (lookup (nat_eq o) (rows_by es slots))
        ≡ option_map (chains_in slots) (cond b (Some e.1) (lookup (nat_eq o) es))
    go true ih = refl
    go false ih = ih

pub numbers-rows : (places : List (ℕ × ℕ)) (slots : List (Option (ℕ × Queue)))
    → numbers (rows_by places slots) ≡ numbers places
numbers-rows [] slots = refl
numbers-rows (e ∷ es) slots = ap (λ ns. e.0 ∷ ns) (numbers-rows es slots)

pub length-rows : (places : List (ℕ × ℕ)) (slots : List (Option (ℕ × Queue)))
    → length (rows_by places slots) ≡ length places
length-rows [] slots = refl
length-rows (e ∷ es) slots = ap suc (length-rows es slots)

pub placed-row : (places : List (ℕ × ℕ)) (slots : List (Option (ℕ × Queue))) (o s : ℕ)
    → lookup (nat_eq o) places ≡ Some s
    → lookup (nat_eq o) (rows_by places slots) ≡ Some (chains_in slots s)
placed-row places slots o s at =
    lookup-rows places slots o ∙ ap (option_map (chains_in slots)) at

pub unplaced-row : (places : List (ℕ × ℕ)) (slots : List (Option (ℕ × Queue))) (o : ℕ)
    → lookup (nat_eq o) places ≡ None → lookup (nat_eq o) (rows_by places slots) ≡ None
unplaced-row places slots o none =
    lookup-rows places slots o ∙ ap (option_map (chains_in slots)) none

-- a number with a row has a place
pub row-placed : (places : List (ℕ × ℕ)) (slots : List (Option (ℕ × Queue))) (o : ℕ)
    → IsSome (lookup (nat_eq o) (rows_by places slots)) → IsSome (lookup (nat_eq o) places)
row-placed places slots o there =
    go (lookup (nat_eq o) places) (sym (ap is_some (lookup-rows places slots o)) ∙ there)
  where
    go : (f : Option ℕ) → is_some (option_map (chains_in slots) f) ≡ true → IsSome f
    go (Some s) e = refl
    go None e = e

pub rows-numbered : (v w : RowsView) → w.places ≡ v.places
    → numbers (rows_of w) ≡ numbers (rows_of v)
rows-numbered v w same =
    numbers-rows w.places w.slots ∙ (ap numbers same ∙ sym (numbers-rows v.places v.slots))

pub listed-rows : (places : List (ℕ × ℕ)) (slots : List (Option (ℕ × Queue))) (x : ℕ)
    → is_listed x (numbers (rows_by places slots)) ≡ is_some (lookup (nat_eq x) places)
listed-rows places slots x =
    ap (is_listed x) (numbers-rows places slots) ∙ listed-lookup x places

pub placed-listed : (places : List (ℕ × ℕ)) (slots : List (Option (ℕ × Queue))) (o s : ℕ)
    → lookup (nat_eq o) places ≡ Some s → is_listed o (numbers (rows_by places slots)) ≡ true
placed-listed places slots o s at = listed-rows places slots o ∙ ap is_some at

module _ (places : List (ℕ × ℕ)) (slots : List (Option (ℕ × Queue)))
    (a : AreRows places slots) where
  -- a row in a slot is the row of the number in it
  pub row-here : (o s : ℕ) (q : Queue) → row_in slots s ≡ Some (o, q)
      → lookup (nat_eq o) (rows_by places slots) ≡ Some q
  row-here o s q e =
      placed-row places slots o s (a.own s o (ap (option_map (λ (r : ℕ × Queue). r.0)) e))
      ∙ ap (λ f. Some (unwrap_or (option_map (λ (r : ℕ × Queue). r.1) f) no_queue)) e

  -- other numbers have other slots
  pub other-slot : (o x s t : ℕ) → lookup (nat_eq o) places ≡ Some s
      → lookup (nat_eq x) places ≡ Some t → (o == x) ≡ false → (s == t) ≡ false
  other-slot o x s t at is far = go (s == t) refl
    where
      go : (b : Bool) → (s == t) ≡ b → b ≡ false
      go false e = refl
      go true e =
          let same : s ≡ t = grind (arith, nat_tests) in
          let own = some_same o x (sym (a.there o s at)
          ∙ (ap (row_number slots) same ∙ a.there x t is)) in
          absurd (false≢true (sym far ∙ eq-eqb o x own))

  -- a number's slot has a row
  pub placed-there : (o s : ℕ) → lookup (nat_eq o) places ≡ Some s → IsSome (row_in slots s)
  placed-there o s at = go (row_in slots s) (a.there o s at)
    where
      go : (f : Option (ℕ × Queue)) → option_map (λ (r : ℕ × Queue). r.0) f ≡ Some o → IsSome f
      go (Some r) e = refl
      go None e = none_some o e

-- the chains in a slot are those of the row there
pub chains-there : (slots : List (Option (ℕ × Queue))) (s : ℕ) (r : ℕ × Queue)
    → row_in slots s ≡ Some r → r.1 ≡ chains_in slots s
chains-there slots s r e =
    sym (ap (λ f. unwrap_or (option_map (λ (r : ℕ × Queue). r.1) f) no_queue) e)

pub one-number : (m n : ℕ) → nat_eq m n ≡ true → m ≡ n
one-number m n e = grind (arith, nat_tests)

pub filled-row : (o : ℕ) (q : Queue) (f : Option (ℕ × Queue)) → f ≡ Some (o, q) → q ≡ no_queue
    → f ≡ Some (o, no_queue)
filled-row o q f is empty = is ∙ ap (λ p. Some (o, p)) empty

pub found-there : {X : Type 0} (o : Option (Bor X)) → is_some o ≡ is_some (option_copied o)
found-there None = refl
found-there (Some x) = refl

pub one-more : (old : Option ℕ) (m n : ℕ) → old ≡ None → m ≡ n + cond (is_some old) 0 1
    → m ≡ n + 1
one-more None m n none is = is
one-more (Some x) m n none is = none_some x (sym none)

pub rows-once : (places : List (ℕ × ℕ)) (slots : List (Option (ℕ × Queue))) → AreRows places slots
    → Unique (numbers (rows_by places slots))
rows-once places slots a = subst Unique (sym (numbers-rows places slots)) a.once

pub lent-there : {X : Type 0} (o : Option (MutBor X)) → is_some o ≡ is_some (option_copied_mut o)
lent-there None = refl
lent-there (Some x) = refl

-- the same numbers in the same slots
module _ (places places' : List (ℕ × ℕ)) (slots : List (Option (ℕ × Queue)))
    (same : (x : ℕ) → lookup (nat_eq x) places' ≡ lookup (nat_eq x) places) where
  pub rows-placed : (x : ℕ)
      → lookup (nat_eq x) (rows_by places' slots) ≡ lookup (nat_eq x) (rows_by places slots)
  rows-placed x =
      lookup-rows places' slots x
      ∙ (ap (option_map (chains_in slots)) (same x) ∙ sym (lookup-rows places slots x))

  pub placed-still : AreRows places slots → Unique (numbers places') → AreRows places' slots
  placed-still a once =
      record {
        there = λ o s e. a.there o s (sym (same o) ∙ e);
        own = λ s o e. same o ∙ a.own s o e;
        once = once;
      }

-- no row
pub rows-none : (places : List (ℕ × ℕ)) (slots : List (Option (ℕ × Queue))) → places ≡ []
    → slots ≡ [] → AreRows places slots
rows-none places slots none empty =
    subst (λ ps. AreRows ps slots) (sym none)
    (subst (AreRows []) (sym empty) (record {
      there = λ o s e. none_some s e;
      own = λ s o e. none_some o e;
      once = tt;
    }))

-- a number without a row has no place
pub no-place : (places : List (ℕ × ℕ)) (slots : List (Option (ℕ × Queue))) (o : ℕ)
    → lookup (nat_eq o) (rows_by places slots) ≡ None → lookup (nat_eq o) places ≡ None
no-place places slots o none =
    go (lookup (nat_eq o) places) (sym (lookup-rows places slots o) ∙ none)
  where
    go : (f : Option ℕ) → option_map (chains_in slots) f ≡ None → f ≡ None
    go None e = refl
    go (Some s) e = none_some (chains_in slots s) (sym e)
