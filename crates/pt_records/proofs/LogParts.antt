-- Parts of the logged answers: what a loop from their end has seen.
use Rattle.std.proofs.Common.{◌≡◌, ℕ, zero, suc, ◌-◌, ◌<◌, ◌≤◌, Bool, true, false, cond, List, []}
use Rattle.std.proofs.Common.{◌∷◌, ◌++◌, Option, Some, None, map, length, take, drop, get_or, refl}
use Rattle.std.proofs.Common.{sym, ap, ◌∙◌, subst, arith}
use Rattle.std.specs.Prelude.{◌==◌, nat_le, find, option_map}
use Rattle.std.proofs.lemmas.Bool.{lt-leb}
use Rattle.std.proofs.lemmas.List.{map-append, take-append-drop}
use Rattle.std.proofs.lemmas.List.Elements.{filter-append}
use Rattle.std.proofs.Math.ListN.{drop_of_length-le}
use Rattle.pt_model.specs.Records.{ReplyView}
use Rattle.pt_records.specs.declared.answers.Answered.{Answered}
use Rattle.pt_records.specs.Logs.{log_entry, log_since, HasRisingPlaces, first_to, first_outcome_to}
use Rattle.pt_records.specs.Logs.{outcome_if}
use Rattle.pt_records.proofs.LogLemmas.{log_since-all}

-- all of these were given since place k
abbrev pub AllSince : ℕ → List Answered → Type 0
AllSince k xs = log_since k (map log_entry xs) ≡ map log_entry xs

rises-at : (n i : ℕ) (xs : List Answered) (d : Answered) → HasRisingPlaces n (map log_entry xs)
    → i < length xs
    → n ≤ (get_or xs i d).at
rises-at n i [] d r lt = absurd (omega (arith, lt))
rises-at n zero (x ∷ xs) d r lt = r.0
rises-at n (suc i) (x ∷ xs) d r lt =
    omega (arith, r.0, rises-at x.at i xs d r.1 (omega (arith, lt)))

-- the answers up to one that was given before place k were given before it too
early : (n k i : ℕ) (xs : List Answered) (d : Answered) → HasRisingPlaces n (map log_entry xs)
    → i < length xs
    → (get_or xs i d).at < k → log_since k (map log_entry (take (suc i) xs)) ≡ []
early n k i [] d r lt at = absurd (omega (arith, lt))
early n k zero (x ∷ xs) d r lt at = rw (lt-leb k x.at at) refl
early n k (suc i) (x ∷ xs) d r lt at =
    rw (lt-leb k x.at (omega (arith, at, rises-at x.at i xs d r.1 (omega (arith, lt)))))
    (early x.at k i xs d r.1 (omega (arith, lt)) at)

parts : (k i : ℕ) (xs : List Answered)
    → log_since k (map log_entry xs) ≡ log_since k (map log_entry (take i xs))
    ++ log_since k (map log_entry (drop i xs))
parts k i xs =
    ap (λ ys. log_since k (map log_entry ys)) (sym (take-append-drop i xs))
    ∙ (ap (log_since k) (map-append log_entry (take i xs) (drop i xs))
    ∙ filter-append (λ p. nat_le k p.0) (map log_entry (take i xs)) (map log_entry (drop i xs)))

-- the answers after the last one that was given before place k are those since then
pub log_since-found : (k i : ℕ) (xs : List Answered) (d : Answered)
    → HasRisingPlaces 0 (map log_entry xs) → 0 < i
    → i ≤ length xs → (get_or xs (i - 1) d).at < k → AllSince k (drop i xs)
    → map log_entry (drop i xs) ≡ log_since k (map log_entry xs)
log_since-found k i xs d r pos le at rest =
    sym (parts k i xs
    ∙ (ap (λ ps. ps ++ log_since k (map log_entry (drop i xs)))
    (subst (λ j. log_since k (map log_entry (take j xs)) ≡ []) same
    (early 0 k (i - 1) xs d r (omega (arith, pos, le)) at))
    ∙ rest))
  where
    same : suc (i - 1) ≡ i
    same = omega (arith, pos)

-- the answers from one that was given since place k on were given since then too
late : (n k i : ℕ) (xs : List Answered) (d : Answered) → HasRisingPlaces n (map log_entry xs)
    → i < length xs
    → k ≤ (get_or xs i d).at → HasRisingPlaces k (map log_entry (drop i xs))
late n k i [] d r lt le = absurd (omega (arith, lt))
late n k zero (x ∷ xs) d r lt le = (le, r.1)
late n k (suc i) (x ∷ xs) d r lt le = late x.at k i xs d r.1 (omega (arith, lt)) le

-- no answer comes after the last one
pub log_since-end : (k i : ℕ) (xs : List Answered) → i ≡ length xs → AllSince k (drop i xs)
log_since-end k i xs e =
    subst (λ ys. AllSince k ys) (sym (drop_of_length-le xs (omega (arith, e)))) refl

pub end-within : (i : ℕ) (xs : List Answered) → i ≡ length xs → i ≤ length xs
end-within i xs e = omega (arith, e)

-- none of these was given since place k
abbrev pub NoneSince : ℕ → List Answered → Type 0
NoneSince k xs = log_since k (map log_entry xs) ≡ []

-- if an answer was given before place k, none up to it was given since then
pub none-log_since : (k i : ℕ) (xs : List Answered) (d : Answered)
    → HasRisingPlaces 0 (map log_entry xs)
    → i < length xs → (get_or xs i d).at < k → NoneSince k (take (suc i) xs)
none-log_since k i xs d r lt at = early 0 k i xs d r lt at

-- if an answer was given since place k, so was each one after it
pub all-log_since : (k i : ℕ) (xs : List Answered) (d : Answered)
    → HasRisingPlaces 0 (map log_entry xs)
    → i < length xs → k ≤ (get_or xs i d).at → AllSince k (drop i xs)
all-log_since k i xs d r lt le =
    log_since-all k k (map log_entry (drop i xs)) (late 0 k i xs d r lt le) (omega arith)

-- the answers since place k begin at an index if none before it was given since then, and all
-- others were
pub log_since-between : (k i : ℕ) (xs : List Answered) → NoneSince k (take i xs)
    → AllSince k (drop i xs) → map log_entry (drop i xs) ≡ log_since k (map log_entry xs)
log_since-between k i xs none all =
    sym (parts k i xs ∙ (ap (λ ps. ps ++ log_since k (map log_entry (drop i xs))) none ∙ all))

-- the first answer to a call, found among the answers
first_found : (j : ℕ) (xs : List Answered)
    → option_map (λ a. (log_entry a).1) (find (λ a. a.place == j) xs)
    ≡ first_to (map log_entry xs) j
first_found j [] = refl
first_found j (x ∷ xs) = go (x.place == j) (first_found j xs)
  where
    go : (b : Bool)
        → option_map (λ a. (log_entry a).1) (find (λ a. a.place == j) xs)
        ≡ first_to (map log_entry xs) j
        → option_map (λ a. (log_entry a).1) (cond b (Some x) (find (λ a. a.place == j) xs))
        ≡ cond b (Some (log_entry x).1) (first_to (map log_entry xs) j)
    go true ih = refl
    go false ih = ih

-- the outcome of the first answer to a call, found among the answers of a log
pub said-found : (j : ℕ) (xs : List Answered) (ps : List (ℕ × ReplyView)) → map log_entry xs ≡ ps
    → option_map (λ a. a.outcome) (find (λ a. a.place == j) xs) ≡ first_outcome_to ps j
said-found j xs ps same =
    go (find (λ a. a.place == j) xs)
    ∙ (ap outcome_if (first_found j xs) ∙ ap (λ qs. first_outcome_to qs j) same)
  where
    go : (o : Option Answered)
        → option_map (λ a. a.outcome) o ≡ outcome_if (option_map (λ a. (log_entry a).1) o)
    go None = refl
    go (Some a) = refl

-- the log after more answers
pub told-after : (old new all : List Answered) (ps : List (ℕ × ReplyView)) → all ≡ old ++ new
    → map log_entry new ≡ ps → map log_entry all ≡ map log_entry old ++ ps
told-after old new all ps whole replies =
    ap (map log_entry) whole
    ∙ (map-append log_entry old new ∙ ap (λ qs. map log_entry old ++ qs) replies)
