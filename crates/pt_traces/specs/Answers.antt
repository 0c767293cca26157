-- Answers: the parts of an answer, and which answers agree.
use Rattle.std.specs.Prelude.{ℕ, ◌==◌, ◌&&◌, ◌||◌, not, List, [], ◌∷◌, Bool, codes, length, nat_le}
use Rattle.std.specs.Prelude.{Option}
use Rattle.std.specs.Prelude.{None, Some}
use Rattle.std.specs.List.{list_all}
use Rattle.std.specs.Str.{bytes_eq}
use Rattle.pt_grammar.specs.Clients.{before_space, after_space}

-- an answer: the client, the number of its line, and the word, as they are written
pub record AnswerText : Type 0 where
  pub client : List ℕ
  pub number : List ℕ
  pub word : List ℕ

-- the bytes that are left, if any are
abbrev pub rest_or_empty : Option (List ℕ) → List ℕ
rest_or_empty None = []
rest_or_empty (Some rest) = rest

-- the bytes after the first space, or none if there is no space
abbrev pub text_after_space : List ℕ → List ℕ
text_after_space text = rest_or_empty (after_space text)

-- the parts of a text, which single spaces separate
abbrev pub answer_of : List ℕ → AnswerText
answer_of text = record {
  client = before_space text;
  number = before_space (text_after_space text);
  word = text_after_space (text_after_space text);
}

abbrev pub is_no_space : ℕ → Bool
is_no_space b = not (b == 32)

abbrev pub is_digit : ℕ → Bool
is_digit b = nat_le 48 b && nat_le b 57

-- one or more bytes without a space
abbrev pub is_word : List ℕ → Bool
is_word bytes = list_all is_no_space bytes && not (length bytes == 0)

-- one or more digits
abbrev pub is_number : List ℕ → Bool
is_number bytes = list_all is_digit bytes && not (length bytes == 0)

-- three words, of which the second is a number  [profile]
abbrev pub is_answer : AnswerText → Bool
is_answer a = is_word a.client && is_number a.number && is_word a.word

-- whether two answers are to the same line of the same client
abbrev pub are_to_one_line : (one other : AnswerText) → Bool
are_to_one_line one other = bytes_eq other.client one.client && bytes_eq other.number one.number

-- whether an answer that was seen agrees with one that is due: it is to the same line, and has the
-- same word, or `?` where none was asked for  [profile]
abbrev pub agrees_with : (due seen : AnswerText) → Bool
agrees_with due seen =
    are_to_one_line due seen
    && (bytes_eq seen.word due.word || bytes_eq seen.word (codes "?"))
