-- Short answers: they stay readable as more come, and a log is read off them.
use Rattle.std.proofs.Common.{ℕ, zero, suc, ◌≡◌, ◌-◌, List, [], ◌∷◌, ◌++◌, length}
use Rattle.std.proofs.Common.{take, drop, slice_index_or, refl, sym, ap, ◌∙◌, arith, subst}
use Rattle.std.proofs.Common.{length-append, length-drop, ◌+◌, Vec, vec_len, vec_capacity}
use Rattle.std.specs.List.{All}
use Rattle.std.proofs.lemmas.List.{append-nil, get_or_append_left, map-append, drop-map}
use Rattle.std.proofs.lemmas.List.{get_or_at, take_all}
use Rattle.std.proofs.lemmas.List.Elements.{All-append}
use Rattle.pt_records.specs.declared.answers.Answered.{Answered}
use Rattle.pt_records.specs.declared.short.Short.{Short}
use Rattle.pt_records.specs.declared.short.Short.TheVariants.{Near, Whole}
use Rattle.pt_records.specs.AnswerLogs.{answer_of_short, answers_of_shorts, IsThere, AreReadable}
use Rattle.pt_records.specs.AnswerLogs.{Shortens, ShortensSingle, no_answer}

-- what a short answer refers to stays there as more answers are stored whole
there-stays : (ws more : List Answered) (s : Short) → IsThere ws s → IsThere (ws ++ more) s
there-stays ws more (Near x k c j) t = tt
there-stays ws more (Whole i) t = omega (arith, t, length-append ws more)

-- the answer is still the same
same-stays : (b : ℕ) (ws more : List Answered) (s : Short) → IsThere ws s
    → answer_of_short b (ws ++ more) s ≡ answer_of_short b ws s
same-stays b ws more (Near x k c j) t = refl
same-stays b ws more (Whole i) t = get_or_append_left ws more _ i t

all-stay : (b : ℕ) (ws more : List Answered) (shorts : List Short) → All (IsThere ws) shorts
    → answers_of_shorts b (ws ++ more) shorts ≡ answers_of_shorts b ws shorts
all-stay b ws more [] t = refl
all-stay b ws more (s ∷ shorts) t =
    rw (
      same-stays b ws more s (t 0 s (omega arith)),
      all-stay b ws more shorts (λ k d l. t (suc k) d (omega arith)),
    )

one-there : (ws : List Answered) (s : Short) → IsThere ws s → All (IsThere ws) (s ∷ [])
one-there ws s t zero d l = t
one-there ws s t (suc k) d l = absurd (omega arith)

-- one more short answer
pub answer_of_short-push : (b : ℕ) (ws vs more : List Answered) (shorts : List Short) (s : Short)
    (a : Answered)
    → vs ≡ ws ++ more → AreReadable b ws shorts → answer_of_short b vs s ≡ a
    → answers_of_shorts b vs (shorts ++ s ∷ []) ≡ answers_of_shorts b ws shorts ++ a ∷ []
answer_of_short-push b ws vs more shorts s a grown r same =
    map-append (answer_of_short b vs) shorts (s ∷ [])
    ∙ (ap (λ xs. xs ++ answer_of_short b vs s ∷ [])
    (ap (λ us. answers_of_shorts b us shorts) grown ∙ all-stay b ws more shorts r.there)
    ∙ ap (λ x. answers_of_shorts b ws shorts ++ x ∷ []) same)

pub readable-push : (b : ℕ) (ws vs more : List Answered) (shorts : List Short) (s : Short)
    → vs ≡ ws ++ more → AreReadable b ws shorts → IsThere vs s → AreReadable b vs (shorts ++ s ∷ [])
readable-push b ws vs more shorts s grown r t = record {
  base = r.base;
  there = All-append (IsThere vs) shorts (s ∷ [])
      (λ k d l. subst (λ us. IsThere us (slice_index_or shorts k d)) (sym grown)
      (there-stays ws more (slice_index_or shorts k d) (r.there k d l)))
      (one-there vs s t);
}

-- one more short answer, for which nothing more is stored whole
pub readable_alone : (b : ℕ) (ws : List Answered) (shorts : List Short) (s : Short) (a : Answered)
    → AreReadable b ws shorts → ShortensSingle b a s → AreReadable b ws (shorts ++ s ∷ [])
readable_alone b ws shorts s a r one =
    readable-push b ws ws [] shorts s (sym (append-nil ws)) r (one.there ws)

-- an answer that is stored whole
pub shortens-whole : {A : Type 0} (b : ℕ) (a : Answered) (old new : Vec Answered A) (i : ℕ)
    → i ≡ vec_len old → new.items ≡ old.items ++ a ∷ [] → vec_len new ≡ vec_len old + 1
    → vec_capacity new ≡ vec_capacity old → Shortens b a old new (Whole i)
shortens-whole b a old new i e grown len cap = record {
  same = ap (λ us. slice_index_or us i no_answer) grown
      ∙ get_or_at old.items a [] no_answer i (sym old.ok.0 ∙ sym e);
  there = omega (arith, e, len, new.ok.0);
  more = a ∷ [];
  grown = grown;
  len = omega (arith, len);
  capacity = cap;
}

-- all short answers but the first
pub readable-tail : (b : ℕ) (ws : List Answered) (s : Short) (shorts : List Short)
    → AreReadable b ws (s ∷ shorts) → AreReadable b ws shorts
readable-tail b ws s shorts r = record {
  base = r.base;
  there = λ k d l. r.there (suc k) d (omega arith);
}

-- what a slice of the short answers shows is the rest of the log
pub slice-from : (b : ℕ) (ws vs : List Answered) (shorts ss : List Short) (items : List Answered)
    (i : ℕ)
    → vs ≡ ws → ss ≡ shorts → answers_of_shorts b ws shorts ≡ items
    → answers_of_shorts b vs (take (length ss - i) (drop i ss)) ≡ drop i items
slice-from b ws vs shorts ss items i v s all =
    let rest : take (length shorts - i) (drop i shorts) ≡ drop i shorts =
    take_all (length shorts - i) (drop i shorts) (omega (arith, length-drop i shorts)) in
    rw (v, s, sym all, rest) (sym (drop-map (answer_of_short b ws) i shorts))
