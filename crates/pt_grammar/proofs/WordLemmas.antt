-- WordLemmas: a verb's word, a space and fields are read as the verb and the fields are.
use Rattle.std.proofs.Common.{◌≡◌, ◌∙◌, ℕ, List, [], ◌∷◌, ◌++◌, Option, Some, IfSome, Ok, ap, sym}
use Rattle.std.proofs.Common.{refl, true, Bool, codes, nat_le, length, append_assoc}
use Rattle.std.specs.Option.{option_and_then, option_map}
use Rattle.pt_types.specs.Names.{IsName}
use Rattle.pt_types.specs.declared.call.Call.{Call}
use Rattle.pt_types.specs.declared.call.Call.TheVariants as call
use Rattle.pt_types.specs.Times.{Timespec}
use Rattle.pt_types.specs.declared.call.MutexKind.{MutexKind}
use Rattle.pt_fields.specs.Numbers.{read_number}
use Rattle.pt_grammar.specs.Arguments.{read_name, single_field, first_then, read_kind, one_deadline}
use Rattle.pt_grammar.specs.Arguments.{read_robust}
use Rattle.pt_grammar.specs.declared.call_line.CallLine.TheVariants as line
use Rattle.pt_grammar.specs.declared.verb.TimedVerb.{TimedVerb}
use Rattle.pt_grammar.specs.declared.verb.Verb.{Verb}
use Rattle.pt_grammar.specs.declared.verb.Verb.TheVariants as first
use Rattle.pt_grammar.specs.declared.client.Who.TheVariants.{Named}
use Rattle.pt_grammar.specs.declared.script_line.ScriptBody.TheVariants.{Ask}
use Rattle.pt_fields.specs.Fields.{fields}
use Rattle.pt_grammar.specs.Reading.{line_read, line_of, line_of_fields, IsCallOfVerb}
use Rattle.pt_grammar.specs.Script.{body_read}
use Rattle.pt_grammar.specs.Verbs.{call_until, timed_word, word_of}
use Rattle.pt_grammar.proofs.ArgumentLemmas.{first_then-again, name_again}
use Rattle.pt_fields.proofs.FieldLemmas.{is_word, fields-word}
use Rattle.pt_grammar.proofs.ScriptLemmas.{call_said}
use Rattle.pt_fields.proofs.TestLemmas.{and_parts}
use Rattle.pt_grammar.proofs.VerbLemmas.{verb_of-word, word_is_short}
use Rattle.pt_grammar.proofs.WholeLemmas.{whole_name}

word_is_word : (verb : Verb) → is_word (word_of verb) ≡ true
word_is_word verb =
    (and_parts (nat_le (length (word_of verb)) 15) (is_word (word_of verb)) (word_is_short verb)).1

pub read_by_word :
    (text args start : List ℕ) (verb : Verb) → start ≡ word_of verb ++ 32 ∷ []
    → text ≡ start ++ args → line_read text ≡ line_of verb (fields args)
read_by_word text args start verb begins is =
    ap line_read
    (is ∙ ap (λ s. s ++ args) begins ∙ append_assoc (word_of verb) (32 ∷ []) args)
    ∙ ap line_of_fields (fields-word (word_of verb) args (word_is_word verb))
    ∙ ap (option_and_then (λ v. line_of v (fields args))) (verb_of-word verb)

-- what a client asks for with a word, a space and fields
pub word_said :
    (text args start : List ℕ) (verb : Verb) (o : Option Call)
    → start ≡ word_of verb ++ 32 ∷ [] → text ≡ start ++ args → IsCallOfVerb verb (fields args) o
    → IfSome o (λ asked. (client : List ℕ) → body_read (Named client) text ≡ Ok (Ask asked))
word_said text args start verb o begins is asked =
    call_said text (fields args) verb o (read_by_word text args start verb begins is) asked

-- two names with a space between them are read as the first name and the second
two_names :
    (args cond mutex : List ℕ) → fields args ≡ cond ∷ fields mutex → IsName cond → IsName mutex
    → Some (cond, mutex) ≡ first_then read_name (single_field read_name) (fields args)
two_names args cond mutex parts c m =
    sym (ap (first_then read_name (single_field read_name)) parts
    ∙ first_then-again read_name (single_field read_name) cond (fields mutex) cond mutex
    (name_again cond c)
    (whole_name mutex ∙ name_again mutex m))

-- `wait`, a space, and two names with a space between are read as the call of that wait
pub wait_spelled :
    (text args cond mutex : List ℕ) → text ≡ codes "wait " ++ args
    → fields args ≡ cond ∷ fields mutex → (client : List ℕ) → IsName cond → IsName mutex
    → body_read (Named client) text ≡ Ok (Ask (call.Wait cond mutex))
wait_spelled text args cond mutex is parts client c m =
    let asked : IsCallOfVerb first.Wait (fields args) (Some (call.Wait cond mutex)) =
    ap (option_map (λ a. line.Ask (call.Wait a.0 a.1))) (two_names args cond mutex parts c m) in
    word_said text args (codes "wait ") first.Wait (Some (call.Wait cond mutex)) refl is asked
    client

-- a name, and what is read from the fields after it
name_first :
    {Y : Type 0} (rest : List (List ℕ) → Option Y) (args name : List ℕ) (more : List (List ℕ))
    (y : Y) → fields args ≡ name ∷ more → rest more ≡ Some y → IsName name
    → Some (name, y) ≡ first_then read_name rest (fields args)
name_first rest args name more y parts read n =
    sym (ap (first_then read_name rest) parts
    ∙ first_then-again read_name rest name more name y (name_again name n) read)

-- the word of a call with a deadline, a space, a name and a deadline are read as that call
pub timed_spelled :
    (text args name : List ℕ) (more : List (List ℕ)) (verb : TimedVerb) (due : Timespec)
    → text ≡ (timed_word verb ++ 32 ∷ []) ++ args → fields args ≡ name ∷ more
    → one_deadline more ≡ Some due → (client : List ℕ) → IsName name
    → body_read (Named client) text ≡ Ok (Ask (call_until verb name due))
timed_spelled text args name more verb due is parts read client n =
    let asked : IsCallOfVerb (first.Timed verb) (fields args) (Some (call_until verb name due)) =
    ap (option_map (λ a. line.Ask (call_until verb a.0 a.1)))
    (name_first one_deadline args name more due parts read n) in
    word_said text args (timed_word verb ++ 32 ∷ []) (first.Timed verb)
    (Some (call_until verb name due)) refl is asked client

-- `mutex-init`, a space, a name, a kind and a robustness are read as the call that makes that mutex
pub mutex_init_spelled :
    (text args name : List ℕ) (more : List (List ℕ)) (made : MutexKind × Bool)
    → text ≡ codes "mutex-init " ++ args → fields args ≡ name ∷ more
    → first_then read_kind (single_field read_robust) more ≡ Some made → (client : List ℕ)
    → IsName name
    → body_read (Named client) text ≡ Ok (Ask (call.MutexInit name made.0 made.1))
mutex_init_spelled text args name more made is parts read client n =
    let makes = call.MutexInit name made.0 made.1 in
    let asked : IsCallOfVerb first.MutexInit (fields args) (Some makes) =
    ap (option_map (λ a. line.Ask (call.MutexInit a.0 a.1.0 a.1.1)))
    (name_first (first_then read_kind
    (single_field read_robust)) args name more made parts read n) in
    word_said text args (codes "mutex-init ") first.MutexInit (Some makes) refl is asked client

-- `barrier-init`, a space, a name and a count are read as the call that makes that barrier
pub barrier_init_spelled :
    (text args name : List ℕ) (more : List (List ℕ)) (count : ℕ)
    → text ≡ codes "barrier-init " ++ args → fields args ≡ name ∷ more
    → single_field read_number more ≡ Some count → (client : List ℕ) → IsName name
    → body_read (Named client) text ≡ Ok (Ask (call.BarrierInit name count))
barrier_init_spelled text args name more count is parts read client n =
    let makes = call.BarrierInit name count in
    let asked : IsCallOfVerb first.BarrierInit (fields args) (Some makes) =
    ap (option_map (λ a. line.Ask (call.BarrierInit a.0 a.1)))
    (name_first (single_field read_number) args name more count parts read n) in
    word_said text args (codes "barrier-init ") first.BarrierInit (Some makes) refl is asked
    client
