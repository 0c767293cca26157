-- GrammarLemmas: a text is read as exactly the line that it spells.
use Rattle.std.proofs.Common.{◌≡◌, ◌≤◌, ◌∙◌, ℕ, Bool, List, [], ◌∷◌, length, refl, ap, sym, subst}
use Rattle.std.proofs.Common.{arith, Option, None, Some, Result, Ok, Err, IfOk, false, cond, nat_lt}
use Rattle.std.proofs.Common.{decimal, length-append}
use Rattle.std.specs.Option.{option_and_then, ok_or}
use Rattle.std.specs.Str.{bytes_eq}
use Rattle.pt_types.specs.Times.{Timespec}
use Rattle.pt_types.specs.declared.time.Clock.{Clock}
use Rattle.pt_types.specs.declared.call.MutexKind.{MutexKind}
use Rattle.pt_types.specs.declared.call.Call.TheVariants as call
use Rattle.pt_types.specs.declared.outcome.Refusal.{Refusal}
use Rattle.pt_types.specs.declared.outcome.Refusal.TheVariants.{Syntax, Long}
use Rattle.pt_types.specs.NamedVerbs.{call_on}
use Rattle.pt_grammar.specs.declared.call_line.CallLine.{CallLine}
use Rattle.pt_grammar.specs.declared.call_line.CallLine.TheVariants as line
use Rattle.pt_grammar.specs.declared.verb.TheConstants.{VERBS}
use Rattle.pt_grammar.specs.declared.verb.Verb.{Verb}
use Rattle.pt_grammar.specs.declared.verb.Verb.TheVariants.{Hello, Moment, MutexInit, BarrierInit}
use Rattle.pt_grammar.specs.declared.verb.Verb.TheVariants.{Wait, Timedwait, Clockwait, Named}
use Rattle.pt_grammar.specs.declared.verb.Verb.TheVariants.{Timed}
use Rattle.pt_grammar.specs.declared.verb.Verb.TheVariants.{Clocked}
use Rattle.pt_grammar.specs.Arguments.{read_name, read_kind, read_robust, single_field, first_then}
use Rattle.pt_grammar.specs.Arguments.{read_priority}
use Rattle.pt_grammar.specs.Arguments.{read_moment, name_and_deadline, one_deadline, two_numbers}
use Rattle.pt_grammar.specs.Arguments.{clock_and_deadline, name_clock_and_deadline}
use Rattle.pt_fields.specs.Fields.{fields, join_with_spaces, after_spaces}
use Rattle.pt_grammar.specs.Grammar.{Spells, robust_word, clock_name}
use Rattle.pt_fields.specs.Numbers.{read_number}
use Rattle.pt_grammar.specs.Reading.{line_of, line_of_fields, line_read, call_read}
use Rattle.pt_grammar.specs.Verbs.{word_of, verb_of, call_until, call_by_clock}
use Rattle.pt_grammar.proofs.ArgumentLemmas.{bytes_are, single_field-some, first_then-some, name_found}
use Rattle.pt_grammar.proofs.ArgumentLemmas.{kind_found, robust_found, priority_found, moment_found}
use Rattle.pt_grammar.proofs.ArgumentLemmas.{one_number_found, two_numbers_found}
use Rattle.pt_grammar.proofs.ArgumentLemmas.{one_deadline_found}
use Rattle.pt_grammar.proofs.ArgumentLemmas.{due_found}
use Rattle.pt_grammar.proofs.CallLemmas.{spells-call_on, spells-call_until, spells-call_by_clock}
use Rattle.pt_grammar.proofs.CallLemmas.{spells-moment, spelled_call, spelled_moment}
use Rattle.pt_fields.proofs.FieldLemmas.{fields-join_with_spaces, spaced_fields}
use Rattle.pt_grammar.proofs.SpelledLemmas.{IsSpelled, by_hello, short_word}
use Rattle.pt_fields.proofs.TestLemmas.{map_some, then_some, find-passes}
use Rattle.pt_grammar.proofs.VerbLemmas.{verb_of-word, word_is_short}

-- a text that spells a line is the word of a verb and the fields that the line is read from
pub spelled : (text : List ℕ) (read : CallLine) → Spells text read → IsSpelled text read
spelled text (line.Hello p) h = by_hello text p h
spelled text (line.Ask asked) h = spelled_call text asked h
spelled text (line.Tick clock t) h = spelled_moment text clock t h

-- a text is read as the line that it spells
pub line_read-spelled :
    (text : List ℕ) (read : CallLine) → Spells text read → line_read text ≡ Some read
line_read-spelled text read h =
    let s = spelled text read h in
    let word = short_word (word_of s.verb) (word_is_short s.verb) in
    ap line_read s.text_is
    ∙ ap line_of_fields (fields-join_with_spaces (word_of s.verb) s.args word.1 s.words)
    ∙ ap (option_and_then (λ verb. line_of verb s.args)) (verb_of-word s.verb)
    ∙ s.line_is

-- a line of the grammar is not too long
pub length-spelled :
    (text : List ℕ) (read : CallLine) → Spells text read → length text ≤ 112
length-spelled text read h =
    let s = spelled text read h in
    let word = short_word (word_of s.verb) (word_is_short s.verb) in
    omega (
      arith,
      ap length s.text_is,
      length-append (word_of s.verb) (after_spaces s.args),
      word.0,
      s.short,
    )

-- fields from their parts
parts_are :
    (args : List (List ℕ)) (field word : List ℕ) (more rest : List (List ℕ))
    → args ≡ field ∷ more → field ≡ word → more ≡ rest → args ≡ word ∷ rest
parts_are args field word more rest e f g = cc

-- a line that is read from a verb and fields is spelled by them
line_found :
    (verb : Verb) (args : List (List ℕ)) (read : CallLine) → line_of verb args ≡ Some read
    → Spells (join_with_spaces (word_of verb) args) read
line_found Hello args read h =
    let a = map_some line.Hello (option_and_then read_priority
    (single_field read_number args)) read h in
    let b = then_some read_priority (single_field read_number args) a.0 a.1 in
    let n = one_number_found args b.0 b.1 in
    let p = priority_found b.0 a.0 b.2 in
    subst (Spells (join_with_spaces (word_of Hello) args)) a.2 (record {
      low = p.1;
      high = p.2;
      spelled = ap (join_with_spaces (word_of Hello)) (n.0 ∙ ap (λ m. decimal m ∷ []) p.0);
    })
line_found (Moment clock) args read h =
    let a = map_some (line.Tick clock) (option_and_then read_moment (two_numbers args)) read h in
    let b = then_some read_moment (two_numbers args) a.0 a.1 in
    let n = two_numbers_found args b.0 b.1 in
    let t = moment_found b.0 a.0 b.2 in
    let text = join_with_spaces (word_of (Moment clock)) args in
    subst (Spells text) a.2
    (spells-moment clock text a.0 (record {
      sec = b.0.0;
      nsec = b.0.1;
      sec_fits = n.sec_fits;
      nsec_fits = t.0;
      time = t.1;
      spelled = ap (join_with_spaces (word_of (Moment clock))) n.args_are;
    }))
line_found MutexInit args read h =
    let rest = first_then read_kind (single_field read_robust) in
    let a = map_some (λ (a : List ℕ × (MutexKind × Bool)).
    line.Ask (call.MutexInit a.0 a.1.0 a.1.1)) (first_then read_name rest args) read h in
    let b = first_then-some read_name rest args a.0 a.1 in
    let n = name_found b.field a.0.0 b.first_is in
    let k = first_then-some read_kind (single_field read_robust) b.more a.0.1 b.rest_is in
    let r = single_field-some read_robust k.more a.0.1.1 k.rest_is in
    let last = robust_word a.0.1.1 in
    let robust = parts_are k.more r.0 last [] [] r.1 (robust_found r.0 a.0.1.1 r.2) refl in
    let more = parts_are b.more k.field k.field k.more (last ∷ []) k.args_are refl robust in
    let all = parts_are args b.field a.0.0 b.more (k.field ∷ last ∷ []) b.args_are n.0 more in
    subst (Spells (join_with_spaces (word_of MutexInit) args)) a.2 (record {
      named = n.1;
      word = k.field;
      kind_is = kind_found k.field a.0.1.0 k.first_is;
      spelled = ap (join_with_spaces (word_of MutexInit)) all;
    })
line_found BarrierInit args read h =
    let a = map_some (λ (a : List ℕ × ℕ). line.Ask (call.BarrierInit a.0 a.1))
    (first_then read_name (single_field read_number) args) read h in
    let b = first_then-some read_name (single_field read_number) args a.0 a.1 in
    let n = name_found b.field a.0.0 b.first_is in
    let c = one_number_found b.more a.0.1 b.rest_is in
    let all = parts_are args b.field a.0.0 b.more (decimal a.0.1 ∷ []) b.args_are n.0 c.0 in
    subst (Spells (join_with_spaces (word_of BarrierInit) args)) a.2 (record {
      named = n.1;
      counted = c.1;
      spelled = ap (join_with_spaces (word_of BarrierInit)) all;
    })
line_found Wait args read h =
    let a = map_some (λ (a : List ℕ × List ℕ). line.Ask (call.Wait a.0 a.1))
    (first_then read_name (single_field read_name) args) read h in
    let b = first_then-some read_name (single_field read_name) args a.0 a.1 in
    let n = name_found b.field a.0.0 b.first_is in
    let r = single_field-some read_name b.more a.0.1 b.rest_is in
    let m = name_found r.0 a.0.1 r.2 in
    let more = parts_are b.more r.0 a.0.1 [] [] r.1 m.0 refl in
    let all = parts_are args b.field a.0.0 b.more (a.0.1 ∷ []) b.args_are n.0 more in
    subst (Spells (join_with_spaces (word_of Wait) args)) a.2 (record {
      cond_named = n.1;
      mutex_named = m.1;
      spelled = ap (join_with_spaces (word_of Wait)) all;
    })
line_found Timedwait args read h =
    let a = map_some (λ (a : List ℕ × (List ℕ × Timespec)).
    line.Ask (call.Timedwait a.0 a.1.0 a.1.1))
    (first_then read_name name_and_deadline args) read h in
    let b = first_then-some read_name name_and_deadline args a.0 a.1 in
    let n = name_found b.field a.0.0 b.first_is in
    let r = first_then-some read_name one_deadline b.more a.0.1 b.rest_is in
    let m = name_found r.field a.0.1.0 r.first_is in
    let d = one_deadline_found r.more a.0.1.1 r.rest_is in
    let times = decimal a.0.1.1.sec ∷ decimal a.0.1.1.nsec ∷ [] in
    let more = parts_are b.more r.field a.0.1.0 r.more times r.args_are m.0 d.args_are in
    let all = parts_are args b.field a.0.0 b.more (a.0.1.0 ∷ times) b.args_are n.0 more in
    subst (Spells (join_with_spaces (word_of Timedwait) args)) a.2 (record {
      cond_named = n.1;
      mutex_named = m.1;
      sec = d.sec_fits;
      nsec = d.nsec_fits;
      spelled = ap (join_with_spaces (word_of Timedwait)) all;
    })
line_found Clockwait args read h =
    let a = map_some (λ (a : List ℕ × (List ℕ × (Clock × Timespec))).
    line.Ask (call.Clockwait a.0 a.1.0 a.1.1.0 a.1.1.1))
    (first_then read_name name_clock_and_deadline args) read h in
    let b = first_then-some read_name name_clock_and_deadline args a.0 a.1 in
    let n = name_found b.field a.0.0 b.first_is in
    let r = first_then-some read_name clock_and_deadline b.more a.0.1 b.rest_is in
    let m = name_found r.field a.0.1.0 r.first_is in
    let due = a.0.1.1 in
    let d = due_found r.more due r.rest_is in
    let fields = clock_name due.0 ∷ decimal due.1.sec ∷ decimal due.1.nsec ∷ [] in
    let more = parts_are b.more r.field a.0.1.0 r.more fields r.args_are m.0 d.args_are in
    let all = parts_are args b.field a.0.0 b.more (a.0.1.0 ∷ fields) b.args_are n.0 more in
    subst (Spells (join_with_spaces (word_of Clockwait) args)) a.2 (record {
      cond_named = n.1;
      mutex_named = m.1;
      sec = d.sec_fits;
      nsec = d.nsec_fits;
      spelled = ap (join_with_spaces (word_of Clockwait)) all;
    })
line_found (Named verb) args read h =
    let a = map_some (λ n. line.Ask (call_on verb n)) (single_field read_name args) read h in
    let r = single_field-some read_name args a.0 a.1 in
    let n = name_found r.0 a.0 r.2 in
    let all = parts_are args r.0 a.0 [] [] r.1 n.0 refl in
    subst (Spells (join_with_spaces (word_of (Named verb)) args)) a.2
    (spells-call_on verb (join_with_spaces (word_of (Named verb)) args) a.0 (record {
      named = n.1;
      spelled = ap (join_with_spaces (word_of (Named verb))) all;
    }))
line_found (Timed verb) args read h =
    let a = map_some (λ (a : List ℕ × Timespec). line.Ask (call_until verb a.0 a.1))
    (name_and_deadline args) read h in
    let b = first_then-some read_name one_deadline args a.0 a.1 in
    let n = name_found b.field a.0.0 b.first_is in
    let d = one_deadline_found b.more a.0.1 b.rest_is in
    let times = decimal a.0.1.sec ∷ decimal a.0.1.nsec ∷ [] in
    let all = parts_are args b.field a.0.0 b.more times b.args_are n.0 d.args_are in
    subst (Spells (join_with_spaces (word_of (Timed verb)) args)) a.2
    (spells-call_until verb (join_with_spaces (word_of (Timed verb)) args) a.0.0 a.0.1 (record {
      named = n.1;
      sec = d.sec_fits;
      nsec = d.nsec_fits;
      spelled = ap (join_with_spaces (word_of (Timed verb))) all;
    }))
line_found (Clocked verb) args read h =
    let a = map_some (λ (a : List ℕ × (Clock × Timespec)).
    line.Ask (call_by_clock verb a.0 a.1.0 a.1.1)) (name_clock_and_deadline args) read h in
    let b = first_then-some read_name clock_and_deadline args a.0 a.1 in
    let n = name_found b.field a.0.0 b.first_is in
    let due = a.0.1 in
    let d = due_found b.more due b.rest_is in
    let fields = clock_name due.0 ∷ decimal due.1.sec ∷ decimal due.1.nsec ∷ [] in
    let all = parts_are args b.field a.0.0 b.more fields b.args_are n.0 d.args_are in
    let text = join_with_spaces (word_of (Clocked verb)) args in
    subst (Spells text) a.2
    (spells-call_by_clock verb text a.0.0 due.0 due.1 (record {
      named = n.1;
      sec = d.sec_fits;
      nsec = d.nsec_fits;
      spelled = ap (join_with_spaces (word_of (Clocked verb))) all;
    }))

verb_found : (word : List ℕ) (verb : Verb) → verb_of word ≡ Some verb → word ≡ word_of verb
verb_found word verb h =
    let same = find-passes (λ other. bytes_eq (word_of other) word) VERBS verb h in
    sym (bytes_are (word_of verb) word same)

-- a text spells the line that it is read as
pub spells-line_read :
    (text : List ℕ) (read : CallLine) → line_read text ≡ Some read → Spells text read
spells-line_read text read h = by (fields text) refl h
  where
    by :
        (fs : List (List ℕ)) → fields text ≡ fs → line_of_fields fs ≡ Some read
        → Spells text read
    by [] split h = cc
    by (word ∷ args) split h =
        let v = then_some (λ verb. line_of verb args) (verb_of word) read h in
        let is : join_with_spaces (word_of v.0) args ≡ text =
        ap (λ w. join_with_spaces w args) (sym (verb_found word v.0 v.1))
        ∙ sym (spaced_fields text word args split) in
        subst (λ t. Spells t read) is (line_found v.0 args read v.2)

-- a line that is read from a text is spelled by it
pub found_by :
    (text : List ℕ) (o : Option CallLine) (r : Result CallLine Refusal)
    → o ≡ line_read text → r ≡ ok_or o Syntax → IfOk r (Spells text)
found_by text o r e f = subst (λ q. IfOk q (Spells text)) (sym f) (by o e)
  where
    by : (o : Option CallLine) → o ≡ line_read text → IfOk (ok_or o Syntax) (Spells text)
    by None e = tt
    by (Some read) e = spells-line_read text read (sym e)

-- it is also read as a line of a connection, since it is not too long
pub call_read-spelled :
    (text : List ℕ) (read : CallLine) → Spells text read → call_read text ≡ Ok read
call_read-spelled text read h =
    let short = length-spelled text read h in
    let test : nat_lt 128 (length text) ≡ false = grind arith in
    ap (λ b. cond b (Err Long) (ok_or (line_read text) Syntax)) test
    ∙ ap (λ o. ok_or o Syntax) (line_read-spelled text read h)
