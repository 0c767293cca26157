-- Replies: the text of an answer line.
use Rattle.std.specs.Prelude.{ℕ, ◌++◌, List, [], ◌∷◌, Option, None, Some, decimal}
use Rattle.pt_types.specs.Words.{outcome_word, refusal_word}
use Rattle.pt_grammar.specs.declared.client.Who.{Who}
use Rattle.pt_lines.specs.declared.reply.Word.{Word}
use Rattle.pt_lines.specs.declared.reply.Word.TheVariants.{Outcome, Refusal}
use Rattle.pt_grammar.specs.Clients.{who_text}

-- the word that an answer prints
abbrev pub answer_word : Word → List ℕ
answer_word (Outcome outcome) = outcome_word outcome
answer_word (Refusal refusal) = refusal_word refusal

-- what precedes the line's number: in a script the client and a space, otherwise nothing
abbrev pub sender : Option Who → List ℕ
sender None = []
sender (Some who) = who_text who ++ 32 ∷ []

-- an answer line: the client, the number of the client's line, the word, and a newline
abbrev pub reply_line : Option Who → ℕ → Word → List ℕ
reply_line who n word = sender who ++ decimal n ++ 32 ∷ answer_word word ++ 10 ∷ []
