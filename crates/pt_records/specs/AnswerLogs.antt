-- AnswerLogs: a log of answers, which are stored in short.
use Rattle.std.specs.Prelude.{ℕ, ◌+◌, ◌<◌, ◌≤◌, ◌≡◌, List, ◌++◌, length, map, Vec}
use Rattle.std.specs.Prelude.{slice_index_or, vec_len, vec_capacity}
use Rattle.std.specs.List.{All}
use Rattle.pt_types.specs.Limits.{max_place}
use Rattle.pt_types.specs.declared.outcome.Outcome.TheVariants.{Done}
use Rattle.pt_records.specs.declared.answers.Answered.{Answered}
use Rattle.pt_records.specs.declared.short.Short.{Short}
use Rattle.pt_records.specs.declared.short.Short.TheVariants.{Near, Whole}

-- a log as contracts see it: its answers in order, and how many it can hold before it needs more
-- memory
pub record StoredLog : Type 0 where
  pub items : List Answered
  pub capacity : ℕ

-- the answer that is read if there is none
abbrev pub no_answer : Answered
no_answer = record { at = 0; client = 0; place = 0; outcome = Done }

-- the answer that a short one stores, by a base and the answers that are stored whole
abbrev pub answer_of_short : ℕ → List Answered → Short → Answered
answer_of_short b ws (Near x k c j) =
    record { at = b + k; client = b + c; place = b + j; outcome = x }
answer_of_short b ws (Whole i) = slice_index_or ws i no_answer

-- the answers that short ones store, by a base and the answers that are stored whole
abbrev pub answers_of_shorts : ℕ → List Answered → List Short → List Answered
answers_of_shorts b ws shorts = map (answer_of_short b ws) shorts

-- the whole answer that a short one refers to, if it refers to one, is stored
abbrev pub IsThere : List Answered → Short → Type 0
IsThere ws (Near x k c j) = Unit {0}
IsThere ws (Whole i) = i < length ws

-- short answers can be read: 32 bits can be added to the base, and the whole answers that they
-- refer to are stored
pub record AreReadable (b : ℕ) (ws : List Answered) (shorts : List Short) : Type 0 where
  pub base : b ≤ max_place
  pub there : All (IsThere ws) shorts

-- the short answer stores this answer, whatever answers are stored whole
pub record ShortensSingle (b : ℕ) (a : Answered) (s : Short) : Type 0 where
  pub same : (ws : List Answered) → answer_of_short b ws s ≡ a
  pub there : (ws : List Answered) → IsThere ws s

-- the short answer stores this answer, and at most one more answer is stored whole
pub record Shortens {A : Type 0} (b : ℕ) (a : Answered) (old new : Vec Answered A) (s : Short)
    : Type 0 where
  pub same : answer_of_short b new.items s ≡ a
  pub there : IsThere new.items s
  pub more : List Answered
  pub grown : new.items ≡ old.items ++ more
  pub len : vec_len new ≤ vec_len old + 1
  pub capacity : vec_capacity new ≡ vec_capacity old

-- there is memory for n more answers, whatever they are
pub record HasLogRoom {A : Type 0} (ss : Vec Short A) (ws : Vec Answered A) (n : ℕ) : Type 0 where
  pub shorts : vec_len ss + n ≤ vec_capacity ss
  pub wholes : vec_len ws + n ≤ vec_capacity ws
