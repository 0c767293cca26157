-- DerivedEq: the derived `==` of an enum says whether two values are equal, if the tests of its
-- fields do.
use Rattle.std.proofs.Common.{◌≡◌, Bool, true, false, ◌&&◌, List, [], ◌∷◌, refl, ap}
use Rattle.std.specs.Bool.{Decides}
use Rattle.std.proofs.lemmas.Bool.{false≢true}
use denote.Enum.Bare.{Bare, sameb, same_true, true_same}
use denote.Enum.Compared.{Each, by}
use denote.Enum.Declared.{Declared, Choice}
use denote.Struct.Field.{Field}
use denote.Struct.Values.{Values}
use mathlib.Core.Logic.{inl, inr}

-- a test that says whether two values are equal
pub record Test (A : Type 0) : Type 0 where
  pub test : A → A → Bool
  pub says : (x y : A) → Decides (test x y) (x ≡ y)

-- the test of an enum whose variants have no fields
abbrev pub of_words : (D : Declared) → Bare D.parts → Test D.D
of_words D bare = record {
  test = sameb D;
  says = λ x y. (same_true D bare x y, true_same D x y);
}

pub both : (p q : Bool) → (p && q) ≡ true → (p ≡ true) × (q ≡ true)
both true q e = (refl, e)
both false q e = absurd (false≢true e)

-- the test of a variant's last field
abbrev pub last : {A : Type 0} → Test A → Test (A × Unit {0})
last {A} t = record {
  test = λ x y. t.test x.0 y.0;
  says = λ x y. (
    λ e. ap (λ (a : A). (a, tt)) ((t.says x.0 y.0).0 e),
    λ e. (t.says x.0 y.0).1 (ap (λ (p : A × Unit {0}). p.0) e),
  );
}

-- the test of a field and of those after it
abbrev pub then : {A B : Type 0} → Test A → Test B → Test (A × B)
then {A} {B} t u = record {
  test = λ x y. t.test x.0 y.0 && u.test x.1 y.1;
  says = λ x y. (
    λ e.
        let h = both (t.test x.0 y.0) (u.test x.1 y.1) e in
        λ i. ((t.says x.0 y.0).0 h.0 i, (u.says x.1 y.1).0 h.1 i),
    λ e. λ i.
        (t.says x.0 y.0).1 (ap (λ (p : A × B). p.0) e) i
        && (u.says x.1 y.1).1 (ap (λ (p : A × B). p.1) e) i,
  );
}

-- the tests of the fields of each variant
abbrev pub Tests : List (List Field) → Type 0
Tests [] = Unit {0}
Tests (fields ∷ variants) = Test (Values fields) × Tests variants

abbrev each : (variants : List (List Field)) → Tests variants → Each Bool variants
each [] tests = tt
each (fields ∷ variants) tests = (tests.0.test, each variants tests.1)

-- the test that a derive makes of them
abbrev pub derived :
    (variants : List (List Field)) → Tests variants → Choice variants → Choice variants → Bool
derived variants tests = by false false variants (each variants tests)

pub derived_says :
    (variants : List (List Field)) (tests : Tests variants) (x y : Choice variants)
    → Decides (derived variants tests x y) (x ≡ y)
derived_says [] tests x y = absurd x
derived_says (fields ∷ variants) tests (inl x) (inl y) =
    (λ e. ap inl ((tests.0.says x y).0 e), λ e. (tests.0.says x y).1 cc)
derived_says (fields ∷ variants) tests (inl x) (inr y) = (λ e. absurd (false≢true e), λ e. cc)
derived_says (fields ∷ variants) tests (inr x) (inl y) = (λ e. absurd (false≢true e), λ e. cc)
derived_says (fields ∷ variants) tests (inr x) (inr y) =
    let rest = derived_says variants tests.1 x y in
    (λ e. ap inr (rest.0 e), λ e. rest.1 cc)
