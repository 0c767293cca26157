-- Orders: the least of a list of calls, by place.
use Rattle.std.proofs.Common.{◌≡◌, ℕ, suc, Bool, true, false, ◌&&◌, ◌||◌, not, cond, eqb, ltb, List}
use Rattle.std.proofs.Common.{[], ◌∷◌, Option, Some, None, refl, sym, ap, ◌∙◌, arith, subst, inl}
use Rattle.std.proofs.Common.{inr}
use Rattle.std.specs.List.{list_any}
use Rattle.std.proofs.lemmas.Bool.{eq-eqb, ne_eqb, cases_eq, cases_lt, false≢true}
use Rattle.std.proofs.lemmas.Bool.{true_from_ne_false, false_from_ne_true}
use Rattle.std.proofs.lemmas.Bool.Decides.{nat_tests}
use Rattle.pt_types.specs.KeyOrder.{kind_rank}
use Rattle.pt_model.specs.Searches.{least, least_with, option_list}
use Rattle.pt_model.specs.declared.waiting_call.WaitingCall.{WaitingCall}
use Rattle.pt_model.specs.declared.waiting_call.Move.{Move}
use Rattle.pt_model.specs.WaitingCall.{call_at_place, is_write_lock}
use Rattle.pt_model.specs.Moves.{has_place, precedes_by, arrival_by}
use Rattle.pt_model.specs.Found.{is_some_and}
use Rattle.pt_model.proofs.Ascending.{Ascends, call_at_place-before, call_at_place-place, any-at}

-- an order in which two calls of different places are never alike
pub record IsOrder (lt : WaitingCall → WaitingCall → Bool) : Type 0 where
  pub irreflexive : (a : WaitingCall) → lt a a ≡ false
  pub asymmetric : (a b : WaitingCall) → lt a b ≡ true → lt b a ≡ false
  pub across : (a b c : WaitingCall) → lt a c ≡ true → lt a b ≡ false → lt b c ≡ true
  pub total : (a b : WaitingCall) → lt a b ≡ false → lt b a ≡ false → a.place ≡ b.place

-- whether any call is before this one is decided by the least alone
pub least-any :
    (lt : WaitingCall → WaitingCall → Bool) → IsOrder lt → (w : WaitingCall) (ws : List WaitingCall)
    → list_any (λ v. lt v w) ws ≡ is_some_and (λ v. lt v w) (least lt ws)
least-any lt o w [] = refl
least-any lt o w (x ∷ xs) =
    ap (λ b. lt x w || b) (least-any lt o w xs) ∙ go (least lt xs)
  where
    or_false : (b : Bool) → (b || false) ≡ b
    or_false true = refl
    or_false false = refl

    first : (a b : Bool) → (b ≡ true → a ≡ true) → (a || b) ≡ a
    first true b f = refl
    first false true f = absurd (false≢true (f refl))
    first false false f = refl

    second : (a b : Bool) → (a ≡ true → b ≡ true) → (a || b) ≡ b
    second false b f = refl
    second true b f = sym (f refl)

    through : (y : WaitingCall) → lt y x ≡ true → lt x w ≡ true → lt y w ≡ true
    through y e f =
        true_from_ne_false (lt y w)
        (λ n. false≢true (sym (o.asymmetric x w f) ∙ o.across y w x e n))

    pick : (y : WaitingCall) (b : Bool) → lt y x ≡ b
        → (lt x w || lt y w) ≡ is_some_and (λ v. lt v w) (cond b (Some y) (Some x))
    pick y true e = second (lt x w) (lt y w) (through y e)
    pick y false e = first (lt x w) (lt y w) (λ f. o.across y x w f e)

    go : (m : Option WaitingCall)
        → (lt x w || is_some_and (λ v. lt v w) m) ≡ is_some_and (λ v. lt v w) (least_with lt x m)
    go None = or_false (lt x w)
    go (Some y) = pick y (lt y x) refl

-- the least is found at its place
pub least-at :
    (lt : WaitingCall → WaitingCall → Bool) (n : ℕ) (ws : List WaitingCall) → Ascends n ws
    → (m : WaitingCall) → least lt ws ≡ Some m → call_at_place m.place ws ≡ Some m
least-at lt n [] a m e = absurd cc
least-at lt n (x ∷ xs) a m e =
    go (least lt xs) refl e (λ y k. least-at lt (suc x.place) xs a.1 y k)
  where
    here : m ≡ x → call_at_place m.place (x ∷ xs) ≡ Some m
    here same = rw (eq-eqb x.place m.place (ap (λ u. u.place) (sym same))) (ap Some (sym same))

    later : (y : WaitingCall) → call_at_place y.place xs ≡ Some y → call_at_place y.place (x ∷ xs)
        ≡ Some y
    later y k =
        elim (cases_lt y.place (suc x.place)) [
          | inl early ↦
              let none = call_at_place-before y.place (suc x.place) xs a.1 early in
              absurd cc
          | inr late ↦ rw (ne_eqb x.place y.place (λ e. omega (arith, late))) k
        ]

    pick : (y : WaitingCall) (b : Bool) → call_at_place y.place xs ≡ Some y
        → cond b (Some y) (Some x) ≡ Some m → call_at_place m.place (x ∷ xs) ≡ Some m
    pick y true at k =
        let same : y ≡ m = cc in
        subst (λ z. call_at_place z.place (x ∷ xs) ≡ Some z) same (later y at)
    pick y false at k = let same : m ≡ x = cc in here same

    go : (q : Option WaitingCall) → least lt xs ≡ q → least_with lt x q ≡ Some m
        → ((y : WaitingCall) → least lt xs ≡ Some y → call_at_place y.place xs ≡ Some y)
        → call_at_place m.place (x ∷ xs) ≡ Some m
    go None eq k ih = let same : m ≡ x = cc in here same
    go (Some y) eq k ih = pick y (lt y x) (ih y eq) k

-- any list that isn't empty has a least
pub least-some :
    (lt : WaitingCall → WaitingCall → Bool) (x : WaitingCall) (xs : List WaitingCall)
    → least lt (x ∷ xs) ≡ None → ⊥
least-some lt x xs e = go (least lt xs) e
  where
    pick : (y : WaitingCall) (b : Bool) → cond b (Some y) (Some x) ≡ None → ⊥
    pick y true k = cc
    pick y false k = cc

    go : (q : Option WaitingCall) → least_with lt x q ≡ None → ⊥
    go None k = cc
    go (Some y) k = pick y (lt y x) k

-- a call is the least if none is before it
pub least-is :
    (lt : WaitingCall → WaitingCall → Bool) → IsOrder lt → (n : ℕ) (ws : List WaitingCall)
    → Ascends n ws
    → (j : ℕ) → has_place (option_list (least lt ws)) j
    ≡ is_some_and (λ w. not (list_any (λ v. lt v w) ws)) (call_at_place j ws)
least-is lt o n ws a j = go (least lt ws) refl (call_at_place j ws) refl
  where
    Goal : Option WaitingCall → Option WaitingCall → Type 0
    Goal m p = has_place (option_list m) j ≡ is_some_and (λ w. not (list_any (λ v. lt v w) ws)) p

    empty : (vs : List WaitingCall) → least lt vs ≡ None → call_at_place j vs ≡ None
    empty [] e = refl
    empty (x ∷ xs) e = absurd (least-some lt x xs e)

    before : (m w : WaitingCall) → least lt ws ≡ Some m → list_any (λ v. lt v w) ws ≡ lt m w
    before m w e = least-any lt o w ws ∙ ap (is_some_and (λ v. lt v w)) e

    other : (m w : WaitingCall) → least lt ws ≡ Some m → call_at_place j ws ≡ Some w
        → (m.place ≡ j → ⊥) → lt m w ≡ true
    other m w em ew ne =
        true_from_ne_false (lt m w)
        (λ n.
        let behind : lt w m ≡ false =
        false_from_ne_true (lt w m)
        (λ t.
        false≢true
        (sym (o.irreflexive m) ∙ sym (before m m em)
        ∙ any-at (λ v. lt v m) j ws (rw ew t)))
        in
        ne (o.total m w n behind ∙ call_at_place-place j ws w ew))

    both : (m w : WaitingCall) → least lt ws ≡ Some m → call_at_place j ws ≡ Some w
        → (eqb m.place j || false) ≡ not (list_any (λ v. lt v w) ws)
    both m w em ew =
        elim (cases_eq m.place j) [
          | inl e ↦
              let at = least-at lt n ws a m em in
              let same : m ≡ w = sameof m w (sym at ∙ ap (λ k. call_at_place k ws) e ∙ ew) in
              rw (eq-eqb m.place j e)
              (ap not (sym (o.irreflexive w)) ∙ ap (λ z. not (lt z w)) (sym same)
              ∙ ap not (sym (before m w em)))
          | inr ne ↦
              rw (ne_eqb m.place j ne)
              (ap not (sym (other m w em ew ne)) ∙ ap not (sym (before m w em)))
        ]
      where
        sameof : (x y : WaitingCall) → Some x ≡ Some y → x ≡ y
        sameof x y e = cc

    none : (m : WaitingCall) → least lt ws ≡ Some m → call_at_place j ws ≡ None
        → (eqb m.place j || false) ≡ false
    none m em ew =
        let at = least-at lt n ws a m em in
        rw (ne_eqb m.place j (λ e. absurdly (sym at ∙ ap (λ k. call_at_place k ws) e ∙ ew))) refl
      where
        absurdly : Some m ≡ None → ⊥
        absurdly e = cc

    go : (m : Option WaitingCall) → least lt ws ≡ m → (p : Option WaitingCall) → call_at_place j ws
        ≡ p
        → Goal m p
    go None em p ep = subst (λ z. Goal None z) (sym (empty ws em) ∙ ep) refl
    go (Some m) em None ep = none m em ep
    go (Some m) em (Some w) ep = both m w em ep

-- keys as numbers
abbrev before : ℕ → ℕ → ℕ → ℕ → ℕ → ℕ → ℕ → ℕ → Bool
before p r a b q s c d =
    ltb q p || (eqb p q && (ltb r s || (eqb r s && (ltb a c || (eqb a c && ltb b d)))))

before-itself : (p r a b : ℕ) → before p r a b p r a b ≡ false
before-itself p r a b = grind (arith, nat_tests)

before-asymmetric : (p r a b q s c d : ℕ)
    → before p r a b q s c d ≡ true → before q s c d p r a b ≡ false
before-asymmetric p r a b q s c d h = grind (arith, nat_tests)

across-last : (b d f : ℕ) → ltb b f ≡ true → ltb b d ≡ false → ltb d f ≡ true
across-last b d f h k = grind (arith, nat_tests)

across-up :
    (a b c : ℕ) (xy xz yz : Bool) → (xz ≡ true → xy ≡ false → yz ≡ true)
    → (ltb a c || (eqb a c && xz)) ≡ true → (ltb a b || (eqb a b && xy)) ≡ false
    → (ltb b c || (eqb b c && yz)) ≡ true
across-up a b c xy xz true g h k = grind (arith, nat_tests)
across-up a b c xy false false g h k = grind (arith, nat_tests)
across-up a b c true true false g h k = grind (arith, nat_tests)
across-up a b c false true false g h k = absurd (false≢true (g refl refl))

across-down :
    (a b c : ℕ) (xy xz yz : Bool) → (xz ≡ true → xy ≡ false → yz ≡ true)
    → (ltb c a || (eqb a c && xz)) ≡ true → (ltb b a || (eqb a b && xy)) ≡ false
    → (ltb c b || (eqb b c && yz)) ≡ true
across-down a b c xy xz true g h k = grind (arith, nat_tests)
across-down a b c xy false false g h k = grind (arith, nat_tests)
across-down a b c true true false g h k = grind (arith, nat_tests)
across-down a b c false true false g h k = absurd (false≢true (g refl refl))

before-across : (p r a b q s c d o t e f : ℕ)
    → before p r a b o t e f ≡ true → before p r a b q s c d ≡ false
    → before q s c d o t e f ≡ true
before-across p r a b q s c d o t e f =
    across-down p q o _ _ _ (across-up r s t _ _ _ (across-up a c e _ _ _ (across-last b d f)))

before-total : (p r a b q s c d : ℕ)
    → before p r a b q s c d ≡ false → before q s c d p r a b ≡ false → b ≡ d
before-total p r a b q s c d h k = grind (arith, nat_tests)

arrival-place : (m : Option Move) (j : ℕ) → (arrival_by m j).1 ≡ j
arrival-place None j = refl
arrival-place (Some v) j = refl

-- the order in which calls precede each other is such an order
pub precedes-order : (moves : ℕ → Option Move) → IsOrder (precedes_by moves)
precedes-order moves =
    record {
      irreflexive = λ a. before-itself a.priority (kind_rank (is_write_lock a.role)) (at a).0
          (at a).1;
      asymmetric = λ a b h.
          before-asymmetric
          a.priority (kind_rank (is_write_lock a.role)) (at a).0 (at a).1
          b.priority (kind_rank (is_write_lock b.role)) (at b).0 (at b).1 h;
      across = λ a b c h k.
          before-across
          a.priority (kind_rank (is_write_lock a.role)) (at a).0 (at a).1
          b.priority (kind_rank (is_write_lock b.role)) (at b).0 (at b).1
          c.priority (kind_rank (is_write_lock c.role)) (at c).0 (at c).1 h k;
      total = λ a b h k.
          sym (arrival-place (moves a.place) a.place)
          ∙ before-total
          a.priority (kind_rank (is_write_lock a.role)) (at a).0 (at a).1
          b.priority (kind_rank (is_write_lock b.role)) (at b).0 (at b).1 h k
          ∙ arrival-place (moves b.place) b.place;
    }
  where
    at : WaitingCall → ℕ × ℕ
    at w = arrival_by (moves w.place) w.place
