-- ScriptLemmas: a line of a script is read as exactly what it spells.
use Rattle.std.proofs.Common.{◌≡◌, ◌<◌, ◌≤◌, ◌∙◌, ℕ, Bool, true, false, cond, List, ◌∷◌, ◌++◌}
use Rattle.std.proofs.Common.{length, nat_lt, refl, ap, sym, subst, arith, Option, None, Some}
use Rattle.std.proofs.Common.{IfSome, Result, Ok, Err, IfOk, IfErr, codes, length-append}
use Rattle.std.specs.Option.{ok_or, option_map, option_and_then}
use Rattle.std.specs.Str.{bytes_eq}
use Rattle.pt_types.specs.declared.outcome.Refusal.{Refusal}
use Rattle.pt_types.specs.declared.outcome.Refusal.TheVariants as refusal
use Rattle.pt_types.specs.declared.call.Call.{Call}
use Rattle.pt_types.specs.declared.named_verb.NamedVerb.{NamedVerb}
use Rattle.pt_types.specs.NamedVerbs.{call_on}
use Rattle.pt_types.specs.declared.time.Clock.TheVariants.{Real}
use Rattle.pt_grammar.specs.declared.verb.Verb.{Verb}
use Rattle.pt_grammar.specs.declared.verb.Verb.TheVariants as first
use Rattle.pt_grammar.specs.declared.call_line.CallLine.{CallLine}
use Rattle.pt_grammar.specs.declared.call_line.CallLine.TheVariants as line
use Rattle.pt_grammar.specs.declared.client.Who.{Who}
use Rattle.pt_grammar.specs.declared.client.Who.TheVariants.{Named, Star, Unknown}
use Rattle.pt_grammar.specs.declared.script_line.ScriptBody.{ScriptBody}
use Rattle.pt_grammar.specs.declared.script_line.ScriptBody.TheVariants.{Hello, Ask, Die, Tick}
use Rattle.pt_grammar.specs.Arguments.{two_numbers}
use Rattle.pt_grammar.specs.Arguments.{read_moment}
use Rattle.pt_fields.specs.Fields.{fields}
use Rattle.pt_grammar.specs.ClientNames.{IsClientName}
use Rattle.pt_grammar.specs.Clients.{who_text, who_named, before_space, after_space}
use Rattle.pt_grammar.specs.Grammar.{Spells}
use Rattle.pt_grammar.specs.Reading.{call_read, line_read, line_of, line_of_fields, IsCallOfVerb}
use Rattle.pt_grammar.specs.Verbs.{named_word}
use Rattle.std.proofs.lemmas.List.{append-nil}
use Rattle.pt_types.specs.Names.{IsName}
use Rattle.pt_grammar.proofs.CallLemmas.{spells-call_on}
use Rattle.pt_grammar.specs.Script.{SpellsBody, SpellsScript, long_line, IsReadAs, body_of}
use Rattle.pt_grammar.specs.Script.{body_from}
use Rattle.pt_grammar.specs.Script.{body_read, body_after, short_read}
use Rattle.pt_grammar.proofs.ArgumentLemmas.{bytes_are}
use Rattle.pt_grammar.proofs.ClientLemmas.{before-word, behind-word, both_sides}
use Rattle.pt_grammar.proofs.ClientLemmas.{client_name_is_word}
use Rattle.pt_grammar.proofs.ClientLemmas.{IsNamed, named_is, named_again}
use Rattle.pt_fields.proofs.FieldLemmas.{is_word, fields-word}
use Rattle.pt_grammar.proofs.GrammarLemmas.{spells-line_read, length-spelled, call_read-spelled}

if_ok :
    {X F : Type 0} {P Q : X → Type 0} (r : Result X F) → ((x : X) → P x → Q x) → IfOk r P
    → IfOk r Q
if_ok (Ok x) f h = f x h
if_ok (Err e) f h = tt

if_err :
    {X F : Type 0} {P Q : F → Type 0} (r : Result X F) → ((x : F) → P x → Q x) → IfErr r P
    → IfErr r Q
if_err (Ok x) f h = tt
if_err (Err e) f h = f e h

-- calls
call_found : (text : List ℕ) → IfOk (call_read text) (Spells text)
call_found text = by (nat_lt 128 (length text))
  where
    some :
        (o : Option CallLine) → line_read text ≡ o
        → IfOk (ok_or o refusal.Syntax) (Spells text)
    some None e = tt
    some (Some read) e = spells-line_read text read e

    by :
        (b : Bool)
        → IfOk (cond b (Err refusal.Long) (ok_or (line_read text) refusal.Syntax)) (Spells text)
    by true = tt
    by false = some (line_read text) refl

call_why :
    (text : List ℕ) → length text ≤ 128 → IfErr (call_read text) (λ why. why ≡ refusal.Syntax)
call_why text short =
    let test : nat_lt 128 (length text) ≡ false = grind arith in
    subst (λ b. IfErr (cond b (Err refusal.Long) (ok_or (line_read text) refusal.Syntax))
    (λ why. why ≡ refusal.Syntax)) (sym test) (none (line_read text))
  where
    none :
        (o : Option CallLine)
        → IfErr (ok_or o refusal.Syntax) (λ why. why ≡ refusal.Syntax)
    none None = refl
    none (Some read) = tt

-- what is read after a client is spelled by that text
body_found :
    (name rest : List ℕ) (who : Who) → IsNamed name who
    → IfOk (body_read who rest) (SpellsBody who rest)
body_found name rest (Named text) n = by (bytes_eq rest (codes "die")) refl
  where
    from :
        (r : Result CallLine Refusal) → IfOk r (Spells rest)
        → IfOk (body_from (Named text) r) (SpellsBody (Named text) rest)
    from (Err why) s = tt
    from (Ok (line.Hello p)) s = (n.1, s)
    from (Ok (line.Ask asked)) s = (n.1, s)
    from (Ok (line.Tick clock t)) s = tt

    by :
        (b : Bool) → bytes_eq rest (codes "die") ≡ b
        → IfOk (cond b (Ok Die) (body_from (Named text) (call_read rest)))
        (SpellsBody (Named text) rest)
    by true e = (n.1, bytes_are rest (codes "die") e)
    by false e = from (call_read rest) (call_found rest)
body_found name rest Star n = from (call_read rest) (call_found rest)
  where
    from :
        (r : Result CallLine Refusal) → IfOk r (Spells rest)
        → IfOk (body_from Star r) (SpellsBody Star rest)
    from (Err why) s = tt
    from (Ok (line.Hello p)) s = tt
    from (Ok (line.Ask asked)) s = tt
    from (Ok (line.Tick clock t)) s = s
body_found name rest Unknown n = tt

body_of_why : (who : Who) (read : CallLine) → IfErr (body_of who read) (λ why. why ≡ refusal.Syntax)
body_of_why (Named text) (line.Hello p) = tt
body_of_why (Named text) (line.Ask asked) = tt
body_of_why (Named text) (line.Tick clock t) = refl
body_of_why Star (line.Hello p) = refl
body_of_why Star (line.Ask asked) = refl
body_of_why Star (line.Tick clock t) = tt
body_of_why Unknown read = refl

body_from_why :
    (who : Who) (r : Result CallLine Refusal) → IfErr r (λ why. why ≡ refusal.Syntax)
    → IfErr (body_from who r) (λ why. why ≡ refusal.Syntax)
body_from_why who (Ok read) h = body_of_why who read
body_from_why who (Err why) h = h

body_why :
    (who : Who) (rest : List ℕ) → length rest ≤ 128
    → IfErr (body_read who rest) (λ why. why ≡ refusal.Syntax)
body_why (Named text) rest short = by (bytes_eq rest (codes "die"))
  where
    by :
        (b : Bool)
        → IfErr (cond b (Ok Die) (body_from (Named text) (call_read rest)))
        (λ why. why ≡ refusal.Syntax)
    by true = tt
    by false = body_from_why (Named text) (call_read rest) (call_why rest short)
body_why Star rest short = body_from_why Star (call_read rest) (call_why rest short)
body_why Unknown rest short = refl

-- `die` is not a call
not_die : (rest : List ℕ) (read : CallLine) → Spells rest read → bytes_eq rest (codes "die") ≡ false
not_die rest read s = by (bytes_eq rest (codes "die")) refl
  where
    by : (b : Bool) → bytes_eq rest (codes "die") ≡ b → b ≡ false
    by true e =
        let die : call_read (codes "die") ≡ Ok read =
        ap call_read (sym (bytes_are rest (codes "die") e)) ∙ call_read-spelled rest read s in
        cc
    by false e = refl

pub called_again :
    (text rest : List ℕ) (read : CallLine) → Spells rest read
    → body_read (Named text) rest ≡ body_of (Named text) read
called_again text rest read s =
    ap (λ b. cond b (Ok Die) (body_from (Named text) (call_read rest))) (not_die rest read s)
    ∙ ap (body_from (Named text)) (call_read-spelled rest read s)

-- what is spelled after a client is read from that text
body_again :
    (who : Who) (rest : List ℕ) (body : ScriptBody) → SpellsBody who rest body
    → body_read who rest ≡ Ok body
body_again (Named text) rest (Hello p) h = called_again text rest (line.Hello p) h.1
body_again (Named text) rest (Ask asked) h = called_again text rest (line.Ask asked) h.1
body_again (Named text) rest Die h = ap (body_read (Named text)) h.1
body_again (Named text) rest (Tick clock t) h = absurd h
body_again Star rest (Hello p) h = absurd h
body_again Star rest (Ask asked) h = absurd h
body_again Star rest Die h = absurd h
body_again Star rest (Tick clock t) h =
    ap (body_from Star) (call_read-spelled rest (line.Tick clock t) h)
body_again Unknown rest body h = absurd h

-- what a client asks for is read as the call that its verb and its fields are read as
pub call_said :
    (rest : List ℕ) (args : List (List ℕ)) (verb : Verb) (o : Option Call)
    → line_read rest ≡ line_of verb args → IsCallOfVerb verb args o
    → IfSome o (λ asked. (client : List ℕ) → body_read (Named client) rest ≡ Ok (Ask asked))
call_said rest args verb None read asked = tt
call_said rest args verb (Some said) read asked = λ client.
    called_again client rest (line.Ask said)
    (spells-line_read rest (line.Ask said) (read ∙ by verb asked))
  where
    by : (v : Verb) → IsCallOfVerb v args (Some said) → line_of v args ≡ Some (line.Ask said)
    by first.Hello h = absurd cc
    by (first.Moment clock) h = absurd cc
    by first.MutexInit h = sym h
    by first.BarrierInit h = sym h
    by first.Wait h = sym h
    by first.Timedwait h = sym h
    by first.Clockwait h = sym h
    by (first.Named n) h = sym h
    by (first.Timed t) h = sym h
    by (first.Clocked k) h = sym h

-- `moment`, a space and two numbers are read as that moment of the real clock
pub moment_said :
    (text args : List ℕ) (o : Option ℕ) → text ≡ codes "moment " ++ args
    → o ≡ option_and_then read_moment (two_numbers (fields args))
    → IfSome o (λ t. body_read Star text ≡ Ok (Tick Real t))
moment_said text args None is two = tt
moment_said text args (Some t) is two =
    let read : line_read text ≡ Some (line.Tick Real t) =
    ap line_read is
    ∙ ap line_of_fields (fields-word (codes "moment") args refl)
    ∙ sym (ap (option_map (line.Tick Real)) two) in
    body_again Star text (Tick Real t) (spells-line_read text (line.Tick Real t) read)

-- a word, a space and a name are read as the call of the word on the name
pub named_spelled :
    (rest : List ℕ) (verb : NamedVerb) (name : List ℕ) → rest ≡ named_word verb ++ 32 ∷ name
    → (client : List ℕ) → IsName name
    → body_read (Named client) rest ≡ Ok (Ask (call_on verb name))
named_spelled rest verb name is client named =
    called_again client rest (line.Ask (call_on verb name))
    (spells-call_on verb rest name (record {
      named = named;
      spelled = is ∙ ap (λ ys. named_word verb ++ 32 ∷ ys) (sym (append-nil name));
    }))

-- the client of a line that asks for something
abbrev IsClient : Who → Type 0
IsClient (Named text) = IsClientName text
IsClient Star = Unit {0}
IsClient Unknown = ⊥

client_of :
    (who : Who) (rest : List ℕ) (body : ScriptBody) → SpellsBody who rest body → IsClient who
client_of (Named text) rest (Hello p) h = h.0
client_of (Named text) rest (Ask asked) h = h.0
client_of (Named text) rest Die h = h.0
client_of (Named text) rest (Tick clock t) h = absurd h
client_of Star rest body h = tt
client_of Unknown rest body h = absurd h

client_is_word : (who : Who) → IsClient who → is_word (who_text who) ≡ true
client_is_word (Named text) h = client_name_is_word text h
client_is_word Star h = refl
client_is_word Unknown h = absurd h

client_again : (who : Who) → IsClient who → who_named (who_text who) ≡ who
client_again (Named text) h = named_again text h
client_again Star h = refl
client_again Unknown h = absurd h

client_short : (who : Who) → IsClient who → length (who_text who) ≤ 8
client_short (Named text) h = h.fits
client_short Star h = omega arith
client_short Unknown h = absurd h

-- the text after the client is short
says_short :
    (who : Who) (rest : List ℕ) (body : ScriptBody) → SpellsBody who rest body
    → length rest ≤ 112
says_short (Named text) rest (Hello p) h = length-spelled rest (line.Hello p) h.1
says_short (Named text) rest (Ask asked) h = length-spelled rest (line.Ask asked) h.1
says_short (Named text) rest Die h = let e : length rest ≡ 3 = ap length h.1 in omega arith
says_short (Named text) rest (Tick clock t) h = absurd h
says_short Star rest (Hello p) h = absurd h
says_short Star rest (Ask asked) h = absurd h
says_short Star rest Die h = absurd h
says_short Star rest (Tick clock t) h = length-spelled rest (line.Tick clock t) h
says_short Unknown rest body h = absurd h

spelled_short :
    (text : List ℕ) (who : Who) (body : ScriptBody) → SpellsScript text who body
    → length text ≤ 128
spelled_short text who body s =
    let client = client_short who (client_of who s.rest body s.says) in
    let rest = says_short who s.rest body s.says in
    omega (arith, ap length s.spelled, length-append (who_text who) (32 ∷ s.rest))

-- a line is read from the text that spells it
read_again :
    (text : List ℕ) (who : Who) (body : ScriptBody) → SpellsScript text who body
    → short_read text ≡ record { who = who; body = Ok body }
read_again text who body s =
    let client = client_of who s.rest body s.says in
    let word = client_is_word who client in
    let front : before_space text ≡ who_text who =
    ap before_space s.spelled ∙ before-word (who_text who) s.rest word in
    let back : after_space text ≡ Some s.rest =
    ap after_space s.spelled ∙ behind-word (who_text who) s.rest word in
    let named : who_named (before_space text) ≡ who =
    ap who_named front ∙ client_again who client in
    let said : body_after who (Some s.rest) ≡ Ok body = body_again who s.rest body s.says in
    rw (named, back, said)

-- the name of the client that is read
text_named :
    (name rest : List ℕ) (who : Who) (body : ScriptBody) → IsNamed name who
    → SpellsBody who rest body → name ≡ who_text who
text_named name rest (Named text) body n h = sym n.0
text_named name rest Star body n h = n
text_named name rest Unknown body n h = absurd h

read_found :
    (text : List ℕ) → IfOk (short_read text).body (SpellsScript text (short_read text).who)
read_found text = by (after_space text) refl
  where
    by :
        (o : Option (List ℕ)) → after_space text ≡ o
        → IfOk (body_after (who_named (before_space text)) o)
        (SpellsScript text (who_named (before_space text)))
    by None e = tt
    by (Some rest) e =
        let name = before_space text in
        let named = named_is name in
        if_ok (body_read (who_named name) rest)
        (λ body says. record {
          rest = rest;
          says = says;
          spelled =
              both_sides text rest e
              ∙ ap (λ w. w ++ 32 ∷ rest) (text_named name rest (who_named name) body named says);
        })
        (body_found name rest (who_named name) named)

read_why :
    (text : List ℕ) → length text ≤ 128
    → IfErr (short_read text).body (λ why. why ≡ refusal.Syntax)
read_why text short = by (after_space text) refl
  where
    by :
        (o : Option (List ℕ)) → after_space text ≡ o
        → IfErr (body_after (who_named (before_space text)) o) (λ why. why ≡ refusal.Syntax)
    by None e = refl
    by (Some rest) e =
        let sides = both_sides text rest e in
        let less : length rest ≤ 128 =
        omega (arith, ap length sides, length-append (before_space text) (32 ∷ rest)) in
        body_why (who_named (before_space text)) rest less

-- a line that is not too long
pub is_read_short : (text : List ℕ) → length text ≤ 128 → IsReadAs text (short_read text)
is_read_short text short =
    let test : nat_lt 128 (length text) ≡ false = grind arith in
    let why : cond (nat_lt 128 (length text)) refusal.Long refusal.Syntax ≡ refusal.Syntax =
    ap (λ b. cond b refusal.Long refusal.Syntax) test in
    record {
      who = sym (ap (λ b. cond b Unknown (who_named (before_space text))) test);
      found = read_found text;
      exact = read_again text;
      err = if_err (short_read text).body (λ x e. e ∙ sym why) (read_why text short);
    }

-- a line that is too long
pub is_read_long : (text : List ℕ) → 128 < length text → IsReadAs text long_line
is_read_long text long =
    let test : nat_lt 128 (length text) ≡ true = grind arith in
    record {
      who = sym (ap (λ b. cond b Unknown (who_named (before_space text))) test);
      found = tt;
      exact = λ who body s. let short = spelled_short text who body s in absurd (omega arith);
      err = sym (ap (λ b. cond b refusal.Long refusal.Syntax) test);
    }
