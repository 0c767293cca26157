-- Counting: how many answers agree.
use Rattle.std.proofs.Common.{◌≡◌, ◌∙◌, ◌==◌, ◌&&◌, ℕ, suc, Bool, true, false, List, [], ◌∷◌, ◌↔◌}
use Rattle.std.proofs.Common.{IsTrue, count_by, length, map, refl, ap, sym}
use Rattle.std.proofs.lemmas.Bool.{eq-eqb, eqb-true, and_parts}
use Rattle.std.proofs.Math.Dec.{eqb-suc-suc, eqb-suc-zero, eqb-zero-suc}
use Rattle.std.proofs.Math.ListN.{length-map}
use Rattle.std.specs.List.{list_all}
use Rattle.pt_model.specs.Searches.{Each}
use Rattle.pt_traces.specs.Rows.{rows}
use Rattle.pt_traces.specs.Answers.{AnswerText, agrees_with, answer_of}
use Rattle.pt_check.specs.Agreements.{IsAnswered, answers_in, is_seen_once}

-- what holds of each answer
pub all_seen : (seen due : List AnswerText) → IsTrue (list_all (is_seen_once seen) due)
    → Each (λ d. count_by (agrees_with d) seen ≡ 1) due
all_seen seen [] all = tt
all_seen seen (d ∷ due) all =
    let parts = and_parts (is_seen_once seen d) (list_all (is_seen_once seen) due) all in
    (eqb-true (count_by (agrees_with d) seen) 1 parts.0, all_seen seen due parts.1)

pub each_is : (seen due : List AnswerText) → Each (λ d. count_by (agrees_with d) seen ≡ 1) due
    → list_all (is_seen_once seen) due ≡ true
each_is seen [] each = refl
each_is seen (d ∷ due) each =
    ap (λ b. b && list_all (is_seen_once seen) due)
    (eq-eqb (count_by (agrees_with d) seen) 1 each.0)
    ∙ each_is seen due each.1

-- the first of some rows, which are answers
pub first_fails : (P : AnswerText → Bool) (all more : List (List ℕ)) (row : List ℕ)
    (a : AnswerText) (b : Bool) → all ≡ row ∷ more → a ≡ answer_of row → b ≡ P a → b ≡ false
    → list_all P (map answer_of all) ≡ false
first_fails P all more row a b is read tests fails =
    ap (λ rs. list_all P (map answer_of rs)) is
    ∙ ap (λ t. t && list_all P (map answer_of more))
    (sym (ap P read) ∙ sym tests ∙ fails)

pub first_passes : (P : AnswerText → Bool) (all more : List (List ℕ)) (row : List ℕ)
    (a : AnswerText) (b : Bool) → all ≡ row ∷ more → a ≡ answer_of row → b ≡ P a → b ≡ true
    → list_all P (map answer_of all) ≡ list_all P (map answer_of more)
first_passes P all more row a b is read tests passes =
    ap (λ rs. list_all P (map answer_of rs)) is
    ∙ ap (λ t. t && list_all P (map answer_of more))
    (sym (ap P read) ∙ sym tests ∙ passes)

-- there are more answers than are due, or fewer
pub other_count : (due : List ℕ) (seen got : List AnswerText) (rs : List (List ℕ)) (many : Bool)
    → rs ≡ rows due → got ≡ seen → many ≡ (length got == length rs) → many ≡ false
    → IsTrue false ↔ IsAnswered (answers_in due) seen
other_count due seen got rs many is same tests fails = (
  λ f. absurd (let wrong = f in cc),
  λ answered.
      (let size : length (answers_in due) ≡ length (rows due) = simp length-map in
      let equal : length got ≡ length rs =
      ap length same ∙ answered.many ∙ size ∙ sym (ap length is) in
      sym fails ∙ tests ∙ eq-eqb (length got) (length rs) equal),
)

-- there are as many
pub same_count : (due : List ℕ) (seen got : List AnswerText) (rs others : List (List ℕ))
    (many each : Bool) → rs ≡ rows due → others ≡ rows due → got ≡ seen
    → many ≡ (length got == length rs) → many ≡ true
    → each ≡ list_all (is_seen_once seen) (map answer_of others)
    → IsTrue each ↔ IsAnswered (answers_in due) seen
same_count due seen got rs others many each is also same tests passes all = (
  λ every. record {
    many =
        sym (ap length same) ∙ eqb-true (length got) (length rs) (sym tests ∙ passes)
        ∙ ap length is ∙ sym size;
    each = all_seen seen (answers_in due) (sym all_of ∙ every);
  },
  λ answered. all_of ∙ each_is seen (answers_in due) answered.each,
)
  where
    size : length (answers_in due) ≡ length (rows due)
    size = simp length-map

    all_of : each ≡ list_all (is_seen_once seen) (answers_in due)
    all_of = all ∙ ap (λ rs. list_all (is_seen_once seen) (map answer_of rs)) also

-- one more of each
pub both_more : (m n : ℕ) → (suc m == suc n) ≡ (m == n)
both_more m n = eqb-suc-suc m n

-- some, and none
pub some_none : (m : ℕ) → (suc m == 0) ≡ false
some_none m = eqb-suc-zero m

pub none_some : (n : ℕ) → (0 == suc n) ≡ false
none_some n = eqb-zero-suc n

pub ruleset sizes = (both_more, some_none, none_some)
