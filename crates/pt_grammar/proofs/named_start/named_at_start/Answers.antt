use Rattle.std.proofs.Common.{◌≡◌, ◌++◌, ◌∷◌, List, ℕ, Option, Some, None, Ok, Err, IfSome, Bor}
use Rattle.std.proofs.Common.{◌≤◌, length}
use Rattle.pt_types.specs.declared.outcome.Refusal.TheVariants.{Syntax}
use Rattle.pt_grammar.proofs.CallLineLemmas.{named_refused}
use Rattle.pt_types.specs.Names.{IsName}
use Rattle.pt_types.specs.NamedVerbs.{call_on}
use Rattle.pt_types.specs.declared.named_verb.NamedVerb.{NamedVerb}
use Rattle.pt_grammar.specs.declared.client.Who.TheVariants.{Named}
use Rattle.pt_grammar.specs.declared.script_line.ScriptBody.TheVariants.{Ask}
use Rattle.pt_grammar.specs.Script.{body_read}
use Rattle.pt_grammar.specs.Verbs.{named_word}
use Rattle.pt_grammar.proofs.ScriptLemmas.{named_spelled}
use Rattle.pt_grammar.proofs.named_start.named_at_start.Goals as goal

if_read :
    (text : List ℕ) (o : Option (NamedVerb × Bor (List ℕ)))
    → IfSome o (λ said. text ≡ named_word said.0 ++ 32 ∷ said.1.now)
    → IfSome o (λ said. (client : List ℕ) → IsName said.1.now
    → body_read (Named client) text ≡ Ok (Ask (call_on said.0 said.1.now)))
if_read text None h = tt
if_read text (Some said) h = named_spelled text said.0 said.1.now h

if_refused :
    (text : List ℕ) (o : Option (NamedVerb × Bor (List ℕ)))
    → IfSome o (λ said. text ≡ named_word said.0 ++ 32 ∷ said.1.now)
    → IfSome o (λ said. (client : List ℕ) → (IsName said.1.now → ⊥) → length text ≤ 128
    → body_read (Named client) text ≡ Err Syntax)
if_refused text None h = tt
if_refused text (Some said) h = named_refused text said.0 said.1.now h

pub returns-clause-called : goal.returns-clause-called
returns-clause-called c = if_read c.args.text.now c.word_at_start.result c.word_at_start.ensures

pub returns-clause-refused : goal.returns-clause-refused
returns-clause-refused c =
    if_refused c.args.text.now c.word_at_start.result c.word_at_start.ensures
