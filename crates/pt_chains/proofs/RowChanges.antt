-- A row that is written, added or taken away: what is then true of all rows.
use Rattle.std.proofs.Common.{◌≡◌, ◌≢◌, ◌<◌, ℕ, zero, suc, ◌==◌, Bool, true, false, cond, ◌||◌}
use Rattle.std.proofs.Common.{List, [], ◌∷◌, length, Option, Some, None, is_some, nat_eq, eq-eqb}
use Rattle.std.proofs.Common.{refl, sym, ap, ◌∙◌, arith}
use Rattle.std.specs.Prelude.{unwrap_or, slice_set}
use Rattle.std.specs.Option.{option_map}
use Rattle.std.specs.Map.{lookup}
use Rattle.std.proofs.lemmas.Bool.Decides.{nat_tests}
use Rattle.std.proofs.lemmas.Bool.{false≢true}
use Rattle.pt_chains.specs.declared.sides.Queue.{Queue}
use Rattle.pt_waitq.specs.Waits.{is_listed}
use Rattle.pt_chains.specs.Chains.{numbers, Unique}
use Rattle.pt_chains.specs.Boxes.{no_queue}
use Rattle.pt_chains.specs.OpenQueues.{queue_at}
use Rattle.pt_chains.specs.Rows.{row_in, row_number, chains_in, rows_by, AreRows}
use Rattle.pt_chains.proofs.ChainLemmas.{some_same}
use Rattle.pt_chains.proofs.ReadLemmas.{read-set}
use Rattle.pt_chains.proofs.RowLemmas.{none_some, lookup-rows, listed-rows, other-slot}

-- the row in a slot is written
module _ (places : List (ℕ × ℕ)) (slots slots' : List (Option (ℕ × Queue))) (s : ℕ)
    (a : AreRows places slots) (head : row_number slots' s ≡ row_number slots s)
    (others : (t : ℕ) → t ≢ s → row_in slots' t ≡ row_in slots t) where
  pub number-kept : (t : ℕ) → row_number slots' t ≡ row_number slots t
  number-kept t = go (t == s) refl
    where
      go : (b : Bool) → (t == s) ≡ b → row_number slots' t ≡ row_number slots t
      go true e =
          let same : t ≡ s = grind (arith, nat_tests) in
          ap (row_number slots') same ∙ (head ∙ ap (row_number slots) (sym same))
      go false e =
          ap (option_map (λ (r : ℕ × Queue). r.0))
          (others t (λ same. false≢true (sym e ∙ eq-eqb t s same)))

  pub rows-written : AreRows places slots'
  rows-written =
      record {
        there = λ o t e. number-kept t ∙ a.there o t e;
        own = λ t o e. a.own t o (sym (number-kept t) ∙ e);
        once = a.once;
      }

  pub others-written : (o x : ℕ) → lookup (nat_eq o) places ≡ Some s → (o == x) ≡ false
      → lookup (nat_eq x) (rows_by places slots') ≡ lookup (nat_eq x) (rows_by places slots)
  others-written o x at far =
      lookup-rows places slots' x
      ∙ (go (lookup (nat_eq x) places) refl ∙ sym (lookup-rows places slots x))
    where
      go : (f : Option ℕ) → lookup (nat_eq x) places ≡ f
          → option_map (chains_in slots') f ≡ option_map (chains_in slots) f
      go None e = refl
      go (Some t) e =
          ap (λ f. Some (unwrap_or (option_map (λ (r : ℕ × Queue). r.1) f) no_queue))
          (others t (λ same. false≢true (sym (other-slot places slots a o x s t at e far)
          ∙ eq-eqb s t (sym same))))

-- the chains of a row are written, in its slot
module _ (places : List (ℕ × ℕ)) (slots : List (Option (ℕ × Queue))) (s : ℕ) (r : ℕ × Queue)
    (q : Queue) (a : AreRows places slots) (is : row_in slots s ≡ Some r) where
  within : s < length slots
  within = go slots s is
    where
      go : (xs : List (Option (ℕ × Queue))) (n : ℕ) → row_in xs n ≡ Some r → n < length xs
      go [] n h = none_some r h
      go (x ∷ xs) zero h = omega arith
      go (x ∷ xs) (suc n) h = let l = go xs n h in omega (arith, l)

  written : (t : ℕ) → row_in (slice_set slots s (Some (r.0, q))) t
      ≡ cond (s == t) (Some (r.0, q)) (row_in slots t)
  written t = read-set slots s t (Some (r.0, q)) None within

  set-here : row_in (slice_set slots s (Some (r.0, q))) s ≡ Some (r.0, q)
  set-here =
      written s ∙ ap (λ b. cond b (Some (r.0, q)) (row_in slots s)) (eq-eqb s s refl)

  pub chains-set : chains_in (slice_set slots s (Some (r.0, q))) s ≡ q
  chains-set =
      ap (λ f. unwrap_or (option_map (λ (r : ℕ × Queue). r.1) f) no_queue) set-here

  head : row_number (slice_set slots s (Some (r.0, q))) s ≡ row_number slots s
  head =
      ap (option_map (λ (r : ℕ × Queue). r.0)) set-here
      ∙ sym (ap (option_map (λ (r : ℕ × Queue). r.0)) is)

  others : (t : ℕ) → t ≢ s → row_in (slice_set slots s (Some (r.0, q))) t ≡ row_in slots t
  others t far = written t ∙ go (s == t) refl
    where
      go : (b : Bool) → (s == t) ≡ b → cond b (Some (r.0, q)) (row_in slots t) ≡ row_in slots t
      go false e = refl
      go true e = absurd (far (grind (arith, nat_tests)))

  pub rows-set : AreRows places (slice_set slots s (Some (r.0, q)))
  rows-set = rows-written places slots (slice_set slots s (Some (r.0, q))) s a head others

  pub others-set : (o x : ℕ) → lookup (nat_eq o) places ≡ Some s → (o == x) ≡ false
      → lookup (nat_eq x) (rows_by places (slice_set slots s (Some (r.0, q))))
      ≡ lookup (nat_eq x) (rows_by places slots)
  others-set = others-written places slots (slice_set slots s (Some (r.0, q))) s a head others

-- a number gets a row, in a slot that had none
module _ (places places' : List (ℕ × ℕ)) (slots slots' : List (Option (ℕ × Queue))) (o s : ℕ)
    (a : AreRows places slots) (none : lookup (nat_eq o) places ≡ None)
    (placed : (x : ℕ)
    → lookup (nat_eq x) places' ≡ cond (o == x) (Some s) (lookup (nat_eq x) places))
    (vacant : row_in slots s ≡ None) (filled : row_in slots' s ≡ Some (o, no_queue))
    (others : (t : ℕ) → t ≢ s → row_in slots' t ≡ row_in slots t) where
  disjoint : (x t : ℕ) → lookup (nat_eq x) places ≡ Some t → t ≢ s
  disjoint x t e same =
      none_some x (sym (ap (option_map (λ (r : ℕ × Queue). r.0)) vacant)
      ∙ (ap (row_number slots) (sym same) ∙ a.there x t e))

  there-added : (x t : ℕ) (b : Bool) → (o == x) ≡ b
      → cond b (Some s) (lookup (nat_eq x) places) ≡ Some t → row_number slots' t ≡ Some x
  there-added x t true e h =
      let same : o ≡ x = grind (arith, nat_tests) in
      ap (row_number slots') (sym (some_same s t h))
      ∙ (ap (option_map (λ (r : ℕ × Queue). r.0)) filled ∙ ap (λ n. Some n) same)
  there-added x t false e h =
      ap (option_map (λ (r : ℕ × Queue). r.0)) (others t (disjoint x t h)) ∙ a.there x t h

  own-added : (t x : ℕ) → row_number slots' t ≡ Some x → (b : Bool) → (t == s) ≡ b
      → lookup (nat_eq x) places' ≡ Some t
  own-added t x h true e =
      let same : t ≡ s = grind (arith, nat_tests) in
      let own = some_same o x (sym (ap (option_map (λ (r : ℕ × Queue). r.0)) filled)
      ∙ (ap (row_number slots') (sym same) ∙ h)) in
      placed x
      ∙ (ap (λ b. cond b (Some s) (lookup (nat_eq x) places)) (eq-eqb o x own)
      ∙ ap (λ n. Some n) (sym same))
  own-added t x h false e =
      let still = a.own t x (sym (ap (option_map (λ (r : ℕ × Queue). r.0))
      (others t (λ same. false≢true (sym e ∙ eq-eqb t s same)))) ∙ h) in
      placed x ∙ by (o == x) refl still
    where
      by : (b : Bool) → (o == x) ≡ b → lookup (nat_eq x) places ≡ Some t
          → cond b (Some s) (lookup (nat_eq x) places) ≡ Some t
      by false p still = still
      by true p still =
          let same : o ≡ x = grind (arith, nat_tests) in
          none_some t (sym none ∙ (ap (λ n. lookup (nat_eq n) places) same ∙ still))

  pub rows-added : Unique (numbers places') → AreRows places' slots'
  rows-added once =
      record {
        there = λ x t e. there-added x t (o == x) refl (sym (placed x) ∙ e);
        own = λ t x e. own-added t x e (t == s) refl;
        once = once;
      }

  pub chains-added : (x : ℕ)
      → queue_at (rows_by places' slots') x ≡ queue_at (rows_by places slots) x
  chains-added x =
      ap (λ f. unwrap_or f no_queue)
      (lookup-rows places' slots' x ∙ ap (option_map (chains_in slots')) (placed x))
      ∙ (go (o == x) refl (lookup (nat_eq x) places) refl
      ∙ ap (λ f. unwrap_or f no_queue) (sym (lookup-rows places slots x)))
    where
      go : (b : Bool) → (o == x) ≡ b → (f : Option ℕ) → lookup (nat_eq x) places ≡ f
          → unwrap_or (option_map (chains_in slots') (cond b (Some s) f)) no_queue
          ≡ unwrap_or (option_map (chains_in slots) f) no_queue
      go true e None h =
          ap (λ f. unwrap_or (option_map (λ (r : ℕ × Queue). r.1) f) no_queue) filled
      go true e (Some t) h =
          let same : o ≡ x = grind (arith, nat_tests) in
          none_some t (sym none ∙ (ap (λ n. lookup (nat_eq n) places) same ∙ h))
      go false e None h = refl
      go false e (Some t) h =
          ap (λ f. unwrap_or (option_map (λ (r : ℕ × Queue). r.1) f) no_queue)
          (others t (disjoint x t h))

  pub listed-added : (x : ℕ) → is_listed x (numbers (rows_by places' slots'))
      ≡ (is_listed x (numbers (rows_by places slots)) || (o == x))
  listed-added x =
      listed-rows places' slots' x
      ∙ (ap is_some (placed x)
      ∙ (go (o == x) (lookup (nat_eq x) places)
      ∙ ap (λ b. b || (o == x)) (sym (listed-rows places slots x))))
    where
      go : (b : Bool) (f : Option ℕ) → is_some (cond b (Some s) f) ≡ (is_some f || b)
      go true None = refl
      go true (Some t) = refl
      go false None = refl
      go false (Some t) = refl

-- a number's row is taken away
module _ (places places' : List (ℕ × ℕ)) (slots slots' : List (Option (ℕ × Queue))) (o s : ℕ)
    (a : AreRows places slots) (at : lookup (nat_eq o) places ≡ Some s)
    (placed : (x : ℕ)
    → lookup (nat_eq x) places' ≡ cond (o == x) None (lookup (nat_eq x) places))
    (gone : row_in slots' s ≡ None)
    (others : (t : ℕ) → t ≢ s → row_in slots' t ≡ row_in slots t) where
  far : (x t : ℕ) → lookup (nat_eq x) places ≡ Some t → (o == x) ≡ false → t ≢ s
  far x t e other same =
      false≢true (sym (other-slot places slots a o x s t at e other) ∙ eq-eqb s t (sym same))

  there-taken : (x t : ℕ) (b : Bool) → (o == x) ≡ b
      → cond b None (lookup (nat_eq x) places) ≡ Some t → row_number slots' t ≡ Some x
  there-taken x t true e h = none_some t h
  there-taken x t false e h =
      ap (option_map (λ (r : ℕ × Queue). r.0)) (others t (far x t h e)) ∙ a.there x t h

  own-taken : (t x : ℕ) → row_number slots' t ≡ Some x → (b : Bool) → (t == s) ≡ b
      → lookup (nat_eq x) places' ≡ Some t
  own-taken t x h true e =
      let same : t ≡ s = grind (arith, nat_tests) in
      none_some x (sym (ap (option_map (λ (r : ℕ × Queue). r.0)) gone)
      ∙ (ap (row_number slots') (sym same) ∙ h))
  own-taken t x h false e =
      let still = a.own t x (sym (ap (option_map (λ (r : ℕ × Queue). r.0))
      (others t (λ same. false≢true (sym e ∙ eq-eqb t s same)))) ∙ h) in
      placed x ∙ by (o == x) refl still
    where
      by : (b : Bool) → (o == x) ≡ b → lookup (nat_eq x) places ≡ Some t
          → cond b None (lookup (nat_eq x) places) ≡ Some t
      by false p still = still
      by true p still =
          let same : o ≡ x = grind (arith, nat_tests) in
          let one = some_same s t (sym at ∙ (ap (λ n. lookup (nat_eq n) places) same ∙ still)) in
          absurd (false≢true (sym e ∙ eq-eqb t s (sym one)))

  pub rows-taken : Unique (numbers places') → AreRows places' slots'
  rows-taken once =
      record {
        there = λ x t e. there-taken x t (o == x) refl (sym (placed x) ∙ e);
        own = λ t x e. own-taken t x e (t == s) refl;
        once = once;
      }

  pub lookup-taken : (x : ℕ) → lookup (nat_eq x) (rows_by places' slots')
      ≡ cond (o == x) None (lookup (nat_eq x) (rows_by places slots))
  lookup-taken x =
      lookup-rows places' slots' x
      ∙ (ap (option_map (chains_in slots')) (placed x)
      ∙ (go (o == x) refl (lookup (nat_eq x) places) refl
      ∙ ap (cond (o == x) None) (sym (lookup-rows places slots x))))
    where
      go : (b : Bool) → (o == x) ≡ b → (f : Option ℕ) → lookup (nat_eq x) places ≡ f
          → option_map (chains_in slots') (cond b None f)
          ≡ cond b None (option_map (chains_in slots) f)
      go true e f h = refl
      go false e None h = refl
      go false e (Some t) h =
          ap (λ f. Some (unwrap_or (option_map (λ (r : ℕ × Queue). r.1) f) no_queue))
          (others t (far x t h e))
