-- VerbLemmas: each verb is found by its word, and its word is short and has no space.
use Rattle.std.proofs.Common.{◌≡◌, ◌==◌, ℕ, Bool, true, false, cond, List, [], ◌∷◌, Option, None}
use Rattle.std.proofs.Common.{Some, find, length, refl, ap, sym}
use Rattle.std.proofs.lemmas.Bool.{eq-eqb}
use Rattle.std.proofs.lemmas.Slice.Eq.{bytes_eq-Decides}
use Rattle.std.specs.Option.{IfSome}
use Rattle.std.specs.Str.{bytes_eq}
use Rattle.std.specs.List.{filter}
use Rattle.pt_types.specs.declared.time.Clock.TheVariants.{Real, Mono}
use Rattle.pt_types.specs.declared.named_verb.NamedVerb.TheVariants.{Lock, Trylock, Unlock}
use Rattle.pt_types.specs.declared.named_verb.NamedVerb.TheVariants.{Consistent, MutexDestroy}
use Rattle.pt_types.specs.declared.named_verb.NamedVerb.TheVariants.{RwlockInit, Rdlock, Tryrdlock}
use Rattle.pt_types.specs.declared.named_verb.NamedVerb.TheVariants.{Wrlock, Trywrlock, Rwunlock}
use Rattle.pt_types.specs.declared.named_verb.NamedVerb.TheVariants.{RwlockDestroy, CondInit}
use Rattle.pt_types.specs.declared.named_verb.NamedVerb.TheVariants.{CondDestroy, Signal, Broadcast}
use Rattle.pt_types.specs.declared.named_verb.NamedVerb.TheVariants.{Bwait, BarrierDestroy}
use Rattle.pt_grammar.specs.declared.verb.TimedVerb.TheVariants.{Timedlock, Timedrdlock}
use Rattle.pt_grammar.specs.declared.verb.TimedVerb.TheVariants.{Timedwrlock}
use Rattle.pt_grammar.specs.declared.verb.ClockedVerb.TheVariants.{Clocklock, Clockrdlock}
use Rattle.pt_grammar.specs.declared.verb.ClockedVerb.TheVariants.{Clockwrlock}
use Rattle.pt_grammar.specs.declared.verb.TheConstants.{VERBS}
use Rattle.pt_grammar.specs.declared.verb.Verb.{Verb}
use Rattle.pt_grammar.specs.declared.verb.Verb.TheVariants.{Hello, Moment, MutexInit, BarrierInit}
use Rattle.pt_grammar.specs.declared.verb.Verb.TheVariants.{Wait, Timedwait, Clockwait, Named}
use Rattle.pt_grammar.specs.declared.verb.Verb.TheVariants.{Timed}
use Rattle.pt_grammar.specs.declared.verb.Verb.TheVariants.{Clocked}
use Rattle.pt_grammar.specs.Verbs.{word_of, verb_of}
use Rattle.pt_grammar.proofs.ArgumentLemmas.{bytes_are}
use Rattle.pt_fields.proofs.FieldLemmas.{is_short_word}
use Rattle.pt_fields.proofs.TestLemmas.{find-passes}

-- each verb is found by its word
pub verb_of-word : (verb : Verb) → verb_of (word_of verb) ≡ Some verb
verb_of-word Hello = refl
verb_of-word (Moment Real) = refl
verb_of-word (Moment Mono) = refl
verb_of-word MutexInit = refl
verb_of-word BarrierInit = refl
verb_of-word Wait = refl
verb_of-word Timedwait = refl
verb_of-word Clockwait = refl
verb_of-word (Named Lock) = refl
verb_of-word (Named Trylock) = refl
verb_of-word (Named Unlock) = refl
verb_of-word (Named Consistent) = refl
verb_of-word (Named MutexDestroy) = refl
verb_of-word (Named RwlockInit) = refl
verb_of-word (Named Rdlock) = refl
verb_of-word (Named Tryrdlock) = refl
verb_of-word (Named Wrlock) = refl
verb_of-word (Named Trywrlock) = refl
verb_of-word (Named Rwunlock) = refl
verb_of-word (Named RwlockDestroy) = refl
verb_of-word (Named CondInit) = refl
verb_of-word (Named CondDestroy) = refl
verb_of-word (Named Signal) = refl
verb_of-word (Named Broadcast) = refl
verb_of-word (Named Bwait) = refl
verb_of-word (Named BarrierDestroy) = refl
verb_of-word (Timed Timedlock) = refl
verb_of-word (Timed Timedrdlock) = refl
verb_of-word (Timed Timedwrlock) = refl
verb_of-word (Clocked Clocklock) = refl
verb_of-word (Clocked Clockrdlock) = refl
verb_of-word (Clocked Clockwrlock) = refl

-- each word is short, and has no space
pub word_is_short : (verb : Verb) → is_short_word (word_of verb) ≡ true
word_is_short Hello = refl
word_is_short (Moment Real) = refl
word_is_short (Moment Mono) = refl
word_is_short MutexInit = refl
word_is_short BarrierInit = refl
word_is_short Wait = refl
word_is_short Timedwait = refl
word_is_short Clockwait = refl
word_is_short (Named Lock) = refl
word_is_short (Named Trylock) = refl
word_is_short (Named Unlock) = refl
word_is_short (Named Consistent) = refl
word_is_short (Named MutexDestroy) = refl
word_is_short (Named RwlockInit) = refl
word_is_short (Named Rdlock) = refl
word_is_short (Named Tryrdlock) = refl
word_is_short (Named Wrlock) = refl
word_is_short (Named Trywrlock) = refl
word_is_short (Named Rwunlock) = refl
word_is_short (Named RwlockDestroy) = refl
word_is_short (Named CondInit) = refl
word_is_short (Named CondDestroy) = refl
word_is_short (Named Signal) = refl
word_is_short (Named Broadcast) = refl
word_is_short (Named Bwait) = refl
word_is_short (Named BarrierDestroy) = refl
word_is_short (Timed Timedlock) = refl
word_is_short (Timed Timedrdlock) = refl
word_is_short (Timed Timedwrlock) = refl
word_is_short (Clocked Clocklock) = refl
word_is_short (Clocked Clockrdlock) = refl
word_is_short (Clocked Clockwrlock) = refl

find-filter :
    {X : Type 0} (p q : X → Bool) (xs : List X) → ((x : X) → p x ≡ true → q x ≡ true)
    → find p (filter q xs) ≡ find p xs
find-filter p q [] h = refl
find-filter {X} p q (x ∷ xs) h = go (q x) (h x) (find-filter p q xs h)
  where
    other : (c : Bool) → (c ≡ true → false ≡ true) → find p (filter q xs) ≡ find p xs
        → find p (filter q xs) ≡ cond c (Some x) (find p xs)
    other false f ih = ih
    other true f ih = absurd (no (f refl))
      where
        no : false ≡ true → ⊥
        no e = absurd cc

    go : (b : Bool) → (p x ≡ true → b ≡ true) → find p (filter q xs) ≡ find p xs
        → find p (cond b (x ∷ filter q xs) (filter q xs)) ≡ cond (p x) (Some x) (find p xs)
    go true f ih = ap (cond (p x) (Some x)) ih
    go false f ih = other (p x) f ih

-- a verb with this word is one of those whose words have its length
pub found-by-length : (text : List ℕ)
    → find (λ verb. bytes_eq (word_of verb) text)
    (filter (λ verb. length text == length (word_of verb)) VERBS)
    ≡ verb_of text
found-by-length text =
    find-filter (λ verb. bytes_eq (word_of verb) text)
    (λ verb. length text == length (word_of verb)) VERBS
    (λ verb e. eq-eqb (length text) (length (word_of verb))
    (ap length (sym ((bytes_eq-Decides (word_of verb) text).0 e))))

-- a verb that is found has its word
pub word_of-found :
    (text : List ℕ) (r : Option Verb) → r ≡ verb_of text → IfSome r (λ verb. text ≡ word_of verb)
word_of-found text None is = tt
word_of-found text (Some verb) is =
    sym (bytes_are (word_of verb) text
    (find-passes (λ v. bytes_eq (word_of v) text) VERBS verb (sym is)))
