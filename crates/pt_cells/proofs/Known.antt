-- Known: what a mark owns, that a cell has a value for good, can be had twice, and two marks of one
-- cell have one value. Assumes `Logic`.
use Rattle.std.proofs.Common.{◌≡◌, ◌≢◌, ◌⊎◌, IsSome, true≢false, ℕ, List, [], ◌∷◌, ◌++◌, inl, inr, refl, ap, ◌∙◌, subst, sym, arith}
use seplogic.Ra.Ura.{Ura}
use mir.Val.{Val, vstruct, vcons, vnil, of_list}
use base.Logic.{SProp, ent, sep, emp, wand, via, fst∗, snd∗, apply∗}
use base.Stored.{Gv, gnil, gcons}
use base.Fml.{Lft, Fml, fbor}
use types.Logic.{Logic, sem, lfts}
use types.Kit.{‵, raw, ◌⊛◌, later, ◌$◌, ◌∵◌, !, qed, move, drop, split, use1, use2, updating, await, now, done}
use contract.Monad.{fact, fact_i, fact_mono, conj_i}
use denote.Laws.{Is}
use denote.RattleType.{RattleType}
use denote.Shadow.{makes_shadow}
use denote.Sharing.{said}
use denote.Struct.Lending.{Lends}
use denote.Struct.Struct.{Struct}
use Rattle.std.specs.contracts.marker.PhantomData as marker
use Rattle.std.specs.declared.option.Option.{Option}
use Rattle.std.specs.declared.option.Option.TheVariants.{None, Some}
use Rattle.once_cell.specs.Once.{mark, noted}

-- the machine value of a struct whose only field is a marker
abbrev pub nothing_in : Val
nothing_in = vstruct (vcons (vstruct vnil) vnil)

-- the value that an option has
pub value_in : {X : Type 0} (k : Option X) → IsSome k → (x : X) × (k ≡ Some x)
value_in None none = absurd (true≢false (sym none))
value_in (Some x) some = (x, refl)

abbrev second : Gv → Gv
second (gcons x y) = y
second _ = gnil

module _ (X : RattleType) where
  -- a struct whose only field is a marker of X
  abbrev pub Marker : RattleType
  Marker = Struct record { name = []; args = []; types = []; fields = marker.the_row X ∷ [] }

  pub marker_told : (vs : List Val) → Is Marker (record {}, tt) vs → vs ≡ nothing_in ∷ []
  marker_told vs is = is.1.0 ∙ ap (λ (ws : List Val). vstruct (of_list (ws ++ [])) ∷ []) is.1.1.0.1.0

  -- such a struct is made of nothing
  pub marker_made : {M : Type 1} {𝓤 : Ura M} (𝓛 : Logic 𝓤)
      → ent 𝓤 (emp 𝓤) (sem 𝓛 (Marker.own_val (record {}, tt) (nothing_in ∷ [])))
  marker_made 𝓛 =
      makes_shadow 𝓛 (Marker.own_val (record {}, tt) (nothing_in ∷ []))
      (λ vss. (tt, ((λ uss. (tt, tt)), tt)))
      ((vstruct vnil ∷ [], tt), (refl, ((tt, (refl, tt)), tt)))

module _ {M : Type 1} {𝓤 : Ura M} (𝓛 : Logic 𝓤) (R : RattleType) (γ : ℕ) where
  abbrev Knows : R.Denot → Fml
  Knows x = noted R γ (Some x)

  pub known_twice : (x : R.Denot)
      → ent 𝓤 (sem 𝓛 (Knows x)) (sep 𝓤 (sem 𝓛 (Knows x)) (sem 𝓛 (Knows x)))
  known_twice x = 𝓛.names.res_dup γ (mark R γ x)

  pub known_once : (x y : R.Denot)
      → ent 𝓤 (sep 𝓤 (sem 𝓛 (Knows x)) (sem 𝓛 (Knows y))) (fact 𝓤 (x ≡ y))
  known_once x y =
      let P = 𝓛.A.res γ (mark R γ x) in
      let Q = 𝓛.A.res γ (mark R γ y) in
      via 𝓤 _ (via 𝓤 _ (conj_i 𝓤 P Q (fst∗ 𝓤 P Q) (snd∗ 𝓤 P Q))
      (𝓛.names.res_one γ (mark R γ x) (mark R γ y)))
      (fact_mono 𝓤 (mark R γ x ≡ mark R γ y) (x ≡ y) (λ e. R.coded.inj x y (ap second e)))

same_or_not : (x y : ℕ) → (x ≡ y) ⊎ (x ≢ y)
same_or_not x y = grind arith

-- two marks have one value if they are of one cell
pub known_alike : {M : Type 1} {𝓤 : Ura M} (𝓛 : Logic 𝓤) (R : RattleType) (γ δ : ℕ) (x y : R.Denot)
    → ent 𝓤 (sep 𝓤 (sem 𝓛 (noted R γ (Some x))) (sem 𝓛 (noted R δ (Some y)))) (fact 𝓤 (γ ≡ δ → x ≡ y))
known_alike {𝓤 = 𝓤} 𝓛 R γ δ x y = by_case (same_or_not γ δ)
  where
    Both : ℕ → SProp 𝓤
    Both ε = sep 𝓤 (sem 𝓛 (noted R γ (Some x))) (sem 𝓛 (noted R ε (Some y)))

    by_case : (γ ≡ δ) ⊎ (γ ≢ δ) → ent 𝓤 (Both δ) (fact 𝓤 (γ ≡ δ → x ≡ y))
    by_case (inl e) =
        via 𝓤 _ (subst (λ ε. ent 𝓤 (Both ε) (fact 𝓤 (x ≡ y))) e (known_once 𝓛 R γ x y))
        (fact_mono 𝓤 (x ≡ y) (γ ≡ δ → x ≡ y) (λ same _. same))
    by_case (inr n) = fact_i 𝓤 _ _ (λ e. absurd (n e))

-- whoever borrows what can be had twice has it for as long as the borrow lasts
pub lends_known : {M : Type 1} {𝓤 : Ura M} (𝓛 : Logic 𝓤) (P : Fml)
    → ent 𝓤 (sem 𝓛 P) (sep 𝓤 (sem 𝓛 P) (sem 𝓛 P)) → (l : Lft) → Lends 𝓛 P (said P) l
lends_known {𝓤 = 𝓤} 𝓛 P twice l κ ts within shared =
    let Back = 𝓛.H.⇛ (sep 𝓤 (𝓛.A.bor κ P) (lfts 𝓛 ts)) in
    qed 𝓛 (‵ (fbor κ P) ∷ raw (lfts 𝓛 ts) ∷ []) ∵ updating ! $
    use2 𝓛 (later (‵ P ⊛ raw (wand 𝓤 (sem 𝓛 P) Back))) (𝓛.more.bor_acc_by κ ts P shared) $
    await ! tt $ split ! $ use1 𝓛 (‵ P ⊛ ‵ P) twice $ split ! $
    -- [what is had twice, and again; the right to end the borrow]
    move ! (0 ∷ 2 ∷ []) $
    use2 𝓛 (later (‵ (fbor κ P) ⊛ raw (lfts 𝓛 ts))) (apply∗ 𝓤 (sem 𝓛 P) Back) $
    await ! tt $ split ! $ drop ! $ move ! (1 ∷ 0 ∷ []) $ now ! $ done !
