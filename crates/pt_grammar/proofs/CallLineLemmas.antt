-- CallLineLemmas: a client's line that begins with the word of a call is that call, or is refused.
use Rattle.std.proofs.Common.{◌≡◌, ◌≤◌, ◌∙◌, ℕ, Bool, true, false, cond, List, ◌∷◌, ◌++◌, []}
use Rattle.std.proofs.Common.{length, nat_lt, nat_le, refl, ap, sym, arith, Option, None, Some}
use Rattle.std.proofs.Common.{Ok, Err, codes, length-append, subst}
use Rattle.std.specs.Prelude.{IfSome}
use Rattle.std.specs.Option.{ok_or, option_map}
use Rattle.std.specs.Str.{bytes_eq}
use Rattle.pt_types.specs.declared.call.Call.{Call}
use Rattle.pt_types.specs.declared.named_verb.NamedVerb.{NamedVerb}
use Rattle.pt_types.specs.declared.named_verb.NamedVerb.TheVariants as named
use Rattle.pt_types.specs.declared.outcome.Refusal.TheVariants as refusal
use Rattle.pt_types.specs.NamedVerbs.{call_on}
use Rattle.pt_types.specs.Names.{IsName}
use Rattle.pt_grammar.specs.Arguments.{read_name}
use Rattle.pt_grammar.specs.declared.call_line.CallLine.TheVariants as line
use Rattle.pt_grammar.specs.declared.client.Who.TheVariants.{Named}
use Rattle.pt_grammar.specs.declared.script_line.ScriptBody.TheVariants.{Ask, Die}
use Rattle.pt_grammar.specs.declared.verb.Verb.{Verb}
use Rattle.pt_grammar.specs.declared.verb.Verb.TheVariants as first
use Rattle.pt_grammar.specs.Reading.{call_read, line_read, line_of}
use Rattle.pt_grammar.specs.Script.{call_or_syntax, body_from, body_read}
use Rattle.pt_grammar.specs.Verbs.{named_word}
use Rattle.pt_grammar.proofs.ArgumentLemmas.{bytes_are, name_found}
use Rattle.pt_grammar.proofs.GrammarLemmas.{spells-line_read}
use Rattle.pt_grammar.proofs.ScriptLemmas.{called_again}
use Rattle.pt_grammar.proofs.WholeLemmas.{whole_name}
use Rattle.pt_grammar.proofs.WordLemmas.{read_by_word}

-- a text with a word and a space is longer than `die`
not_die : (text : List ℕ) → 4 ≤ length text → bytes_eq text (codes "die") ≡ false
not_die text long = by (bytes_eq text (codes "die")) refl
  where
    by : (b : Bool) → bytes_eq text (codes "die") ≡ b → b ≡ false
    by true e =
        let three : length text ≡ 3 = ap length (bytes_are text (codes "die") e) in
        absurd (omega arith)
    by false e = refl

-- a text that spells no line of a connection is refused
pub refused :
    (text client : List ℕ) → 4 ≤ length text → length text ≤ 128 → line_read text ≡ None
    → body_read (Named client) text ≡ Err refusal.Syntax
refused text client long short none =
    let test : nat_lt 128 (length text) ≡ false = grind arith in
    ap (λ b. cond b (Ok Die) (body_from (Named client) (call_read text))) (not_die text long)
    ∙ ap
    (λ b. body_from (Named client)
    (cond b (Err refusal.Long) (ok_or (line_read text) refusal.Syntax))) test
    ∙ ap (λ o. body_from (Named client) (ok_or o refusal.Syntax)) none

-- a text that is read as a call of a verb, however long it is
pub said_if_asked :
    (text : List ℕ) (args : List (List ℕ)) (verb : Verb) (o : Option Call)
    → line_read text ≡ line_of verb args → option_map line.Ask o ≡ line_of verb args
    → IfSome o (λ asked. (client : List ℕ) → body_read (Named client) text ≡ Ok (Ask asked))
said_if_asked text args verb None read asked = tt
said_if_asked text args verb (Some call) read asked = λ client.
    called_again client text (line.Ask call)
    (spells-line_read text (line.Ask call) (read ∙ sym asked))

-- a text that is read as a call of a verb, or as nothing
pub said_or_refused :
    (text : List ℕ) (args : List (List ℕ)) (verb : Verb) (o : Option Call) → 4 ≤ length text
    → line_read text ≡ line_of verb args → option_map line.Ask o ≡ line_of verb args
    → (client : List ℕ) → length text ≤ 128 → body_read (Named client) text ≡ call_or_syntax o
said_or_refused text args verb None long read asked client short =
    refused text client long short (read ∙ sym asked)
said_or_refused text args verb (Some call) long read asked client short =
    called_again client text (line.Ask call)
    (spells-line_read text (line.Ask call) (read ∙ sym asked))

-- a text is at least as long as its beginning
pub is_long :
    (text start args : List ℕ) → text ≡ start ++ args → 4 ≤ length start → 4 ≤ length text
is_long text start args is long = omega (arith, ap length is, length-append start args, long)

-- a word and a space at the start of a text
pub begins :
    (word args : List ℕ) → word ++ 32 ∷ args ≡ (word ++ 32 ∷ []) ++ args
begins [] args = refl
begins (b ∷ word) args = ap (λ t. b ∷ t) (begins word args)

at_least_four : (verb : NamedVerb) → nat_le 4 (length (named_word verb ++ 32 ∷ [])) ≡ true
at_least_four named.Lock = refl
at_least_four named.Trylock = refl
at_least_four named.Unlock = refl
at_least_four named.Consistent = refl
at_least_four named.MutexDestroy = refl
at_least_four named.RwlockInit = refl
at_least_four named.Rdlock = refl
at_least_four named.Tryrdlock = refl
at_least_four named.Wrlock = refl
at_least_four named.Trywrlock = refl
at_least_four named.Rwunlock = refl
at_least_four named.RwlockDestroy = refl
at_least_four named.CondInit = refl
at_least_four named.CondDestroy = refl
at_least_four named.Signal = refl
at_least_four named.Broadcast = refl
at_least_four named.Bwait = refl
at_least_four named.BarrierDestroy = refl

pub named_refused :
    (text : List ℕ) (verb : NamedVerb) (name : List ℕ) → text ≡ named_word verb ++ 32 ∷ name
    → (client : List ℕ) → (IsName name → ⊥) → length text ≤ 128
    → body_read (Named client) text ≡ Err refusal.Syntax
named_refused text verb name is client bad short =
    let start = named_word verb ++ 32 ∷ [] in
    let parts : text ≡ start ++ name = is ∙ begins (named_word verb) name in
    let enough : nat_le 4 (length start) ≡ true = at_least_four verb in
    let long : 4 ≤ length start = grind arith in
    refused text client (is_long text start name parts long) short
    (read_by_word text name start (first.Named verb) refl parts
    ∙ ap (option_map (λ n. line.Ask (call_on verb n))) (whole_name name
    ∙ none (read_name name) refl))
  where
    none : (o : Option (List ℕ)) → read_name name ≡ o → o ≡ None
    none None e = refl
    none (Some n) e = absurd (bad (is_one (name_found name n e)))
      where
        is_one : (name ≡ n) × IsName n → IsName name
        is_one same = subst IsName (sym same.0) same.1
