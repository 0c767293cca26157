-- SpelledLemmas: the text of a line is the word of a verb and the fields that it is read from.
use Rattle.std.proofs.Common.{◌≡◌, ◌≤◌, ◌+◌, ◌∙◌, ℕ, true, Bool, List, [], ◌∷◌, length, nat_le, ap}
use Rattle.std.proofs.Common.{sym, arith, Some, decimal, length-append}
use Rattle.std.specs.Option.{option_map, option_and_then}
use Rattle.pt_types.specs.Times.{Timespec}
use Rattle.pt_types.specs.declared.time.Clock.{Clock}
use Rattle.pt_types.specs.declared.call.MutexKind.{MutexKind}
use Rattle.pt_types.specs.declared.call.Call.TheVariants as call
use Rattle.pt_types.specs.declared.named_verb.NamedVerb.{NamedVerb}
use Rattle.pt_types.specs.NamedVerbs.{call_on}
use Rattle.pt_grammar.specs.declared.call_line.CallLine.{CallLine}
use Rattle.pt_grammar.specs.declared.call_line.CallLine.TheVariants as line
use Rattle.pt_grammar.specs.declared.verb.Verb.{Verb}
use Rattle.pt_grammar.specs.declared.verb.Verb.TheVariants.{Hello, Moment, MutexInit, BarrierInit}
use Rattle.pt_grammar.specs.declared.verb.Verb.TheVariants.{Wait, Timedwait, Clockwait, Named}
use Rattle.pt_grammar.specs.declared.verb.Verb.TheVariants.{Timed}
use Rattle.pt_grammar.specs.declared.verb.Verb.TheVariants.{Clocked}
use Rattle.pt_grammar.specs.declared.verb.TimedVerb.{TimedVerb}
use Rattle.pt_grammar.specs.declared.verb.ClockedVerb.{ClockedVerb}
use Rattle.pt_grammar.specs.Arguments.{read_name, read_kind, read_robust, read_clock, single_field}
use Rattle.pt_grammar.specs.Arguments.{first_then}
use Rattle.pt_grammar.specs.Arguments.{read_priority, read_moment, name_and_deadline, one_deadline}
use Rattle.pt_grammar.specs.Arguments.{clock_and_deadline, name_clock_and_deadline}
use Rattle.pt_fields.specs.Fields.{join_with_spaces, after_spaces}
use Rattle.pt_grammar.specs.Grammar.{robust_word, clock_name, OnName, OnNameUntil, OnNameByClock}
use Rattle.pt_grammar.specs.Grammar.{OnNewMutex, OnNewBarrier, OnWait, OnTimedwait, OnClockwait}
use Rattle.pt_grammar.specs.Grammar.{OnHello, OnMoment}
use Rattle.pt_fields.specs.Numbers.{IsNumber, read_number}
use Rattle.pt_grammar.specs.Reading.{line_of}
use Rattle.pt_grammar.specs.Verbs.{named_word, timed_word, clocked_word, moment_word, word_of}
use Rattle.pt_grammar.specs.Verbs.{call_until, call_by_clock}
use Rattle.pt_grammar.proofs.ArgumentLemmas.{first_then-again, name_again, name_is_word, kind_again}
use Rattle.pt_grammar.proofs.ArgumentLemmas.{kind_is_word, robust_again, robust_is_word}
use Rattle.pt_grammar.proofs.ArgumentLemmas.{clock_again}
use Rattle.pt_grammar.proofs.ArgumentLemmas.{clock_is_word, length-clock_name, priority_again}
use Rattle.pt_grammar.proofs.ArgumentLemmas.{moment_again, two_numbers_again, one_deadline_again}
use Rattle.pt_fields.proofs.FieldLemmas.{is_word, is_short_word, AreWords}
use Rattle.pt_fields.proofs.NumberLemmas.{read_number-decimal, decimal_is_word, length-decimal}
use Rattle.pt_fields.proofs.TestLemmas.{and_parts}

-- the text is a verb's word and fields from which the line is read
pub record IsSpelled (text : List ℕ) (read : CallLine) : Type 0 where
  pub verb : Verb
  pub args : List (List ℕ)
  pub text_is : text ≡ join_with_spaces (word_of verb) args
  pub words : AreWords args
  pub short : length (after_spaces args) ≤ 97
  pub line_is : line_of verb args ≡ Some read

-- one more word
longer :
    (word : List ℕ) (words : List (List ℕ))
    → length (after_spaces (word ∷ words)) ≡ 1 + length word + length (after_spaces words)
longer word words = omega (arith, length-append word (after_spaces words))

pub short_word :
    (word : List ℕ) → is_short_word word ≡ true → (length word ≤ 15) × (is_word word ≡ true)
short_word word h =
    let parts = and_parts (nat_le (length word) 15) (is_word word) h in
    let short : nat_le (length word) 15 ≡ true = parts.0 in
    (grind arith, parts.1)

pub by_name :
    (verb : NamedVerb) (text name : List ℕ) → OnName text (named_word verb) name
    → IsSpelled text (line.Ask (call_on verb name))
by_name verb text name h = record {
  verb = Named verb;
  args = name ∷ [];
  text_is = h.spelled;
  words = (name_is_word name h.named, tt);
  short = omega (arith, longer name [], h.named.fits);
  line_is = ap (option_map (λ n. line.Ask (call_on verb n))) (name_again name h.named);
}

pub by_deadline :
    (verb : TimedVerb) (text name : List ℕ) (d : Timespec)
    → OnNameUntil text (timed_word verb) name d
    → IsSpelled text (line.Ask (call_until verb name d))
by_deadline verb text name d h = record {
  verb = Timed verb;
  args = name ∷ decimal d.sec ∷ decimal d.nsec ∷ [];
  text_is = h.spelled;
  words = (
    name_is_word name h.named,
    (decimal_is_word d.sec h.sec, (decimal_is_word d.nsec h.nsec, tt)),
  );
  short =
      omega (
        arith,
        longer name (decimal d.sec ∷ decimal d.nsec ∷ []),
        longer (decimal d.sec) (decimal d.nsec ∷ []),
        longer (decimal d.nsec) [],
        h.named.fits,
        length-decimal d.sec h.sec,
        length-decimal d.nsec h.nsec,
      );
  line_is =
      ap (option_map (λ (a : List ℕ × Timespec). line.Ask (call_until verb a.0 a.1)))
      (first_then-again read_name one_deadline name (decimal d.sec ∷ decimal d.nsec ∷ []) name d
      (name_again name h.named) (one_deadline_again d h.sec h.nsec));
}

-- a clock and a deadline are read back
due_again :
    (clock : Clock) (d : Timespec) → IsNumber d.sec → IsNumber d.nsec
    → clock_and_deadline (clock_name clock ∷ decimal d.sec ∷ decimal d.nsec ∷ [])
    ≡ Some (clock, d)
due_again clock d h g =
    first_then-again read_clock one_deadline (clock_name clock)
    (decimal d.sec ∷ decimal d.nsec ∷ []) clock d (clock_again clock) (one_deadline_again d h g)

-- their fields are words, and have at most this length
due_words :
    (clock : Clock) (d : Timespec) → IsNumber d.sec → IsNumber d.nsec
    → AreWords (clock_name clock ∷ decimal d.sec ∷ decimal d.nsec ∷ [])
due_words clock d h g =
    (clock_is_word clock, (decimal_is_word d.sec h, (decimal_is_word d.nsec g, tt)))

due_short :
    (clock : Clock) (d : Timespec) → IsNumber d.sec → IsNumber d.nsec
    → length (after_spaces (clock_name clock ∷ decimal d.sec ∷ decimal d.nsec ∷ [])) ≤ 27
due_short clock d h g =
    omega (
      arith,
      longer (clock_name clock) (decimal d.sec ∷ decimal d.nsec ∷ []),
      longer (decimal d.sec) (decimal d.nsec ∷ []),
      longer (decimal d.nsec) [],
      length-clock_name clock,
      length-decimal d.sec h,
      length-decimal d.nsec g,
    )

pub by_clock :
    (verb : ClockedVerb) (text name : List ℕ) (clock : Clock) (d : Timespec)
    → OnNameByClock text (clocked_word verb) name clock d
    → IsSpelled text (line.Ask (call_by_clock verb name clock d))
by_clock verb text name clock d h =
    let due = clock_name clock ∷ decimal d.sec ∷ decimal d.nsec ∷ [] in
    record {
      verb = Clocked verb;
      args = name ∷ due;
      text_is = h.spelled;
      words = (name_is_word name h.named, due_words clock d h.sec h.nsec);
      short = omega (arith, longer name due, h.named.fits, due_short clock d h.sec h.nsec);
      line_is =
          ap (option_map (λ (a : List ℕ × (Clock × Timespec)).
          line.Ask (call_by_clock verb a.0 a.1.0 a.1.1)))
          (first_then-again read_name clock_and_deadline name due name (clock, d)
          (name_again name h.named) (due_again clock d h.sec h.nsec));
    }

pub by_new_mutex :
    (text name : List ℕ) (kind : MutexKind) (robust : Bool) → OnNewMutex text name kind robust
    → IsSpelled text (line.Ask (call.MutexInit name kind robust))
by_new_mutex text name kind robust h =
    let last = robust_word robust in
    let k = short_word h.word (kind_is_word kind h.word h.kind_is) in
    let r = short_word last (robust_is_word robust) in
    record {
      verb = MutexInit;
      args = name ∷ h.word ∷ last ∷ [];
      text_is = h.spelled;
      words = (name_is_word name h.named, (k.1, (r.1, tt)));
      short =
          omega (
            arith,
            longer name (h.word ∷ last ∷ []),
            longer h.word (last ∷ []),
            longer last [],
            h.named.fits,
            k.0,
            r.0,
          );
      line_is =
          ap (option_map (λ (a : List ℕ × (MutexKind × Bool)).
          line.Ask (call.MutexInit a.0 a.1.0 a.1.1)))
          (first_then-again read_name (first_then read_kind (single_field read_robust)) name
          (h.word ∷ last ∷ []) name (kind, robust) (name_again name h.named)
          (first_then-again read_kind (single_field read_robust) h.word (last ∷ []) kind robust
          (kind_again kind h.word h.kind_is) (robust_again robust)));
    }

pub by_new_barrier :
    (text name : List ℕ) (count : ℕ) → OnNewBarrier text name count
    → IsSpelled text (line.Ask (call.BarrierInit name count))
by_new_barrier text name count h = record {
  verb = BarrierInit;
  args = name ∷ decimal count ∷ [];
  text_is = h.spelled;
  words = (name_is_word name h.named, (decimal_is_word count h.counted, tt));
  short =
      omega (
        arith,
        longer name (decimal count ∷ []),
        longer (decimal count) [],
        h.named.fits,
        length-decimal count h.counted,
      );
  line_is =
      ap (option_map (λ (a : List ℕ × ℕ). line.Ask (call.BarrierInit a.0 a.1)))
      (first_then-again read_name (single_field read_number) name (decimal count ∷ []) name count
      (name_again name h.named) (read_number-decimal count h.counted));
}

pub by_wait :
    (text cond mutex : List ℕ) → OnWait text cond mutex
    → IsSpelled text (line.Ask (call.Wait cond mutex))
by_wait text cond mutex h = record {
  verb = Wait;
  args = cond ∷ mutex ∷ [];
  text_is = h.spelled;
  words = (name_is_word cond h.cond_named, (name_is_word mutex h.mutex_named, tt));
  short =
      omega (
        arith,
        longer cond (mutex ∷ []),
        longer mutex [],
        h.cond_named.fits,
        h.mutex_named.fits,
      );
  line_is =
      ap (option_map (λ (a : List ℕ × List ℕ). line.Ask (call.Wait a.0 a.1)))
      (first_then-again read_name (single_field read_name) cond (mutex ∷ []) cond mutex
      (name_again cond h.cond_named) (name_again mutex h.mutex_named));
}

pub by_timedwait :
    (text cond mutex : List ℕ) (d : Timespec) → OnTimedwait text cond mutex d
    → IsSpelled text (line.Ask (call.Timedwait cond mutex d))
by_timedwait text cond mutex d h =
    let times = decimal d.sec ∷ decimal d.nsec ∷ [] in
    record {
      verb = Timedwait;
      args = cond ∷ mutex ∷ decimal d.sec ∷ decimal d.nsec ∷ [];
      text_is = h.spelled;
      words = (
        name_is_word cond h.cond_named,
        (
          name_is_word mutex h.mutex_named,
          (decimal_is_word d.sec h.sec, (decimal_is_word d.nsec h.nsec, tt)),
        ),
      );
      short =
          omega (
            arith,
            longer cond (mutex ∷ decimal d.sec ∷ decimal d.nsec ∷ []),
            longer mutex (decimal d.sec ∷ decimal d.nsec ∷ []),
            longer (decimal d.sec) (decimal d.nsec ∷ []),
            longer (decimal d.nsec) [],
            h.cond_named.fits,
            h.mutex_named.fits,
            length-decimal d.sec h.sec,
            length-decimal d.nsec h.nsec,
          );
      line_is =
          ap (option_map (λ (a : List ℕ × (List ℕ × Timespec)).
          line.Ask (call.Timedwait a.0 a.1.0 a.1.1)))
          (first_then-again read_name name_and_deadline cond (mutex ∷ times) cond (mutex, d)
          (name_again cond h.cond_named)
          (first_then-again read_name one_deadline mutex times mutex d
          (name_again mutex h.mutex_named) (one_deadline_again d h.sec h.nsec)));
    }

pub by_clockwait :
    (text cond mutex : List ℕ) (clock : Clock) (d : Timespec)
    → OnClockwait text cond mutex clock d
    → IsSpelled text (line.Ask (call.Clockwait cond mutex clock d))
by_clockwait text cond mutex clock d h =
    let due = clock_name clock ∷ decimal d.sec ∷ decimal d.nsec ∷ [] in
    record {
      verb = Clockwait;
      args = cond ∷ mutex ∷ due;
      text_is = h.spelled;
      words = (
        name_is_word cond h.cond_named,
        (name_is_word mutex h.mutex_named, due_words clock d h.sec h.nsec),
      );
      short =
          omega (
            arith,
            longer cond (mutex ∷ due),
            longer mutex due,
            h.cond_named.fits,
            h.mutex_named.fits,
            due_short clock d h.sec h.nsec,
          );
      line_is =
          ap (option_map (λ (a : List ℕ × (List ℕ × (Clock × Timespec))).
          line.Ask (call.Clockwait a.0 a.1.0 a.1.1.0 a.1.1.1)))
          (first_then-again read_name name_clock_and_deadline cond (mutex ∷ due) cond
          (mutex, (clock, d)) (name_again cond h.cond_named)
          (first_then-again read_name clock_and_deadline mutex due mutex (clock, d)
          (name_again mutex h.mutex_named) (due_again clock d h.sec h.nsec)));
    }

pub by_hello : (text : List ℕ) (p : ℕ) → OnHello text p → IsSpelled text (line.Hello p)
by_hello text p h =
    let fits : IsNumber p = let high = h.high in omega arith in
    record {
      verb = Hello;
      args = decimal p ∷ [];
      text_is = h.spelled;
      words = (decimal_is_word p fits, tt);
      short = omega (arith, longer (decimal p) [], length-decimal p fits);
      line_is =
          ap (λ o. option_map line.Hello (option_and_then read_priority o))
          (read_number-decimal p fits)
          ∙ ap (option_map line.Hello) (priority_again p h.low h.high);
    }

pub by_moment :
    (clock : Clock) (text : List ℕ) (t : ℕ) → OnMoment text (moment_word clock) t
    → IsSpelled text (line.Tick clock t)
by_moment clock text t h =
    let fits : IsNumber h.nsec = let low = h.nsec_fits in omega arith in
    record {
      verb = Moment clock;
      args = decimal h.sec ∷ decimal h.nsec ∷ [];
      text_is = h.spelled;
      words = (decimal_is_word h.sec h.sec_fits, (decimal_is_word h.nsec fits, tt));
      short =
          omega (
            arith,
            longer (decimal h.sec) (decimal h.nsec ∷ []),
            longer (decimal h.nsec) [],
            length-decimal h.sec h.sec_fits,
            length-decimal h.nsec fits,
          );
      line_is =
          ap (λ o. option_map (line.Tick clock) (option_and_then read_moment o))
          (two_numbers_again h.sec h.nsec h.sec_fits fits)
          ∙ ap (option_map (line.Tick clock)) (moment_again h.sec h.nsec h.nsec_fits)
          ∙ ap (λ m. Some (line.Tick clock m)) (sym h.time);
    }
