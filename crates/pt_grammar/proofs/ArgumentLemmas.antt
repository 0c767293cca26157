-- ArgumentLemmas: what fields are read as, and what is read back from its fields.
use Rattle.std.proofs.Common.{◌≡◌, ◌<◌, ◌≤◌, ◌∙◌, ◌&&◌, ◌==◌, ◌⊎◌, inl, inr, ℕ, Bool, true, false}
use Rattle.std.proofs.Common.{cond, not, List, [], ◌∷◌, length, nat_le, nat_lt, refl, ap, sym}
use Rattle.std.proofs.Common.{subst, arith, Option, None, Some, decimal, codes}
use Rattle.std.proofs.lemmas.Bool.{eqb-true}
use Rattle.std.specs.List.{list_all}
use Rattle.std.specs.Option.{option_map, option_and_then}
use Rattle.std.specs.Str.{bytes_eq}
use Rattle.std.proofs.lemmas.Slice.Eq.{bytes_eq-Decides}
use Rattle.pt_types.specs.Limits.{max_priority, nanoseconds_per_second}
use Rattle.pt_types.specs.Names.{IsName, is_name_byte}
use Rattle.pt_types.specs.Times.{Timespec, nanos}
use Rattle.pt_types.specs.declared.time.Clock.{Clock}
use Rattle.pt_types.specs.declared.time.Clock.TheVariants.{Real, Mono}
use Rattle.pt_types.specs.declared.call.MutexKind.{MutexKind}
use Rattle.pt_types.specs.declared.call.MutexKind.TheVariants.{Normal, Errorcheck, Recursive}
use Rattle.pt_grammar.specs.Arguments.{read_name, read_kind, read_robust, read_clock, single_field}
use Rattle.pt_grammar.specs.Arguments.{first_then}
use Rattle.pt_grammar.specs.Arguments.{read_priority, read_moment, read_deadline, two_numbers}
use Rattle.pt_grammar.specs.Arguments.{one_deadline}
use Rattle.pt_grammar.specs.Arguments.{clock_and_deadline}
use Rattle.pt_grammar.specs.Grammar.{IsKindWord, robust_word, clock_name}
use Rattle.pt_fields.specs.Numbers.{IsNumber, read_number}
use Rattle.pt_fields.proofs.FieldLemmas.{is_no_space, is_word, is_short_word}
use Rattle.pt_fields.proofs.NumberLemmas.{read_number-decimal, decimal-read_number}
use Rattle.pt_fields.proofs.TestLemmas.{some_inj, and_parts, and_true, map_some, then_some}

-- exactly one field
pub single_field-some :
    {X : Type 0} (read : List ℕ → Option X) (args : List (List ℕ)) (x : X)
    → single_field read args ≡ Some x → (field : List ℕ) × (args ≡ field ∷ []) × (read field
    ≡ Some x)
single_field-some read [] x h = cc
single_field-some read (field ∷ []) x h = (field, refl, h)
single_field-some read (field ∷ other ∷ more) x h = cc

-- a field followed by others
pub record IsFirstThen
    {X Y : Type 0} (first : List ℕ → Option X) (rest : List (List ℕ) → Option Y)
    (args : List (List ℕ)) (p : X × Y) : Type 0 where
  pub field : List ℕ
  pub more : List (List ℕ)
  pub args_are : args ≡ field ∷ more
  pub first_is : first field ≡ Some p.0
  pub rest_is : rest more ≡ Some p.1

pub first_then-some :
    {X Y : Type 0} (first : List ℕ → Option X) (rest : List (List ℕ) → Option Y)
    (args : List (List ℕ)) (p : X × Y)
    → first_then first rest args ≡ Some p → IsFirstThen first rest args p
first_then-some first rest [] p h = cc
first_then-some first rest (field ∷ more) p h =
    let a = then_some (λ x. option_map (λ y. (x, y)) (rest more)) (first field) p h in
    let b = map_some (λ y. (a.0, y)) (rest more) p a.2 in
    record {
      field = field;
      more = more;
      args_are = refl;
      first_is = a.1 ∙ ap Some (ap (λ q. q.0) b.2);
      rest_is = b.1 ∙ ap Some (ap (λ q. q.1) b.2);
    }

pub first_then-again :
    {X Y : Type 0} (first : List ℕ → Option X) (rest : List (List ℕ) → Option Y)
    (field : List ℕ) (more : List (List ℕ)) (x : X) (y : Y)
    → first field ≡ Some x → rest more ≡ Some y
    → first_then first rest (field ∷ more) ≡ Some (x, y)
first_then-again first rest field more x y e f =
    ap (λ o. option_and_then (λ a. option_map (λ b. (a, b)) (rest more)) o) e
    ∙ ap (λ o. option_map (λ b. (x, b)) o) f

-- a name is read back
pub name_again : (name : List ℕ) → IsName name → read_name name ≡ Some name
name_again name h =
    let some = h.some in
    let fits = h.fits in
    let low : nat_le 1 (length name) ≡ true = grind arith in
    let high : nat_le (length name) 32 ≡ true = grind arith in
    ap (λ b. cond b (Some name) None) (and_true _ _ (and_true _ _ low high) h.bytes)

is_name :
    (field : List ℕ)
    → (nat_le 1 (length field) && nat_le (length field) 32 && list_all is_name_byte field) ≡ true
    → IsName field
is_name field e =
    let least = nat_le 1 (length field) in
    let most = nat_le (length field) 32 in
    let outer = and_parts (least && most) (list_all is_name_byte field) e in
    let lens = and_parts least most outer.0 in
    let low : nat_le 1 (length field) ≡ true = lens.0 in
    let high : nat_le (length field) 32 ≡ true = lens.1 in
    record { some = grind arith; fits = grind arith; bytes = outer.1 }

pub name_found :
    (field name : List ℕ) → read_name field ≡ Some name → (field ≡ name) × IsName name
name_found field name h = by _ refl h
  where
    by :
        (b : Bool)
        → (nat_le 1 (length field) && nat_le (length field) 32 && list_all is_name_byte field) ≡ b
        → cond b (Some field) None ≡ Some name → (field ≡ name) × IsName name
    by false e h = cc
    by true e h =
        let same : field ≡ name = some_inj h in
        (same, subst IsName same (is_name field e))

name_byte_is_no_space : (b : ℕ) → is_name_byte b ≡ true → is_no_space b ≡ true
name_byte_is_no_space b h = by (b == 32) refl
  where
    by : (t : Bool) → (b == 32) ≡ t → is_no_space b ≡ true
    by true e =
        let space : is_name_byte 32 ≡ true =
        subst (λ x. is_name_byte x ≡ true) (eqb-true b 32 e) h in
        cc
    by false e = ap not e

bytes_are_word : (xs : List ℕ) → list_all is_name_byte xs ≡ true → is_word xs ≡ true
bytes_are_word [] h = refl
bytes_are_word (x ∷ xs) h =
    let parts = and_parts (is_name_byte x) (list_all is_name_byte xs) h in
    and_true (is_no_space x) (is_word xs) (name_byte_is_no_space x parts.0)
    (bytes_are_word xs parts.1)

-- a name has no space
pub name_is_word : (name : List ℕ) → IsName name → is_word name ≡ true
name_is_word name h = bytes_are_word name h.bytes

-- one in a series of tests
cond_some :
    {X : Type 0} (b : Bool) (x y : X) (rest : Option X) → cond b (Some x) rest ≡ Some y
    → ((b ≡ true) × (x ≡ y)) ⊎ (rest ≡ Some y)
cond_some true x y rest h = inl (refl, some_inj h)
cond_some false x y rest h = inr h

none_some : {X : Type 0} {P : Type 0} {x : X} → None ≡ Some x → P
none_some h = cc

pub bytes_are : (xs ys : List ℕ) → bytes_eq xs ys ≡ true → xs ≡ ys
bytes_are xs ys h = (bytes_eq-Decides xs ys).0 h

-- kinds of mutexes
abbrev at_recursive : List ℕ → Option MutexKind
at_recursive field = cond (bytes_eq field (codes "recursive")) (Some Recursive) None

abbrev at_errorcheck : List ℕ → Option MutexKind
at_errorcheck field =
    cond (bytes_eq field (codes "errorcheck")) (Some Errorcheck) (at_recursive field)

abbrev at_default : List ℕ → Option MutexKind
at_default field = cond (bytes_eq field (codes "default")) (Some Normal) (at_errorcheck field)

recursive_found :
    (field : List ℕ) (kind : MutexKind) → at_recursive field ≡ Some kind → IsKindWord kind field
recursive_found field kind h =
    let test = bytes_eq field (codes "recursive") in
    elim (cond_some test Recursive kind None h) as (λ _. IsKindWord kind field) [
      | inl e ↦ subst (λ k. IsKindWord k field) e.1 (bytes_are field (codes "recursive") e.0)
      | inr none ↦ none_some none
    ]

errorcheck_found :
    (field : List ℕ) (kind : MutexKind) → at_errorcheck field ≡ Some kind → IsKindWord kind field
errorcheck_found field kind h =
    let test = bytes_eq field (codes "errorcheck") in
    elim (cond_some test Errorcheck kind (at_recursive field) h)
    as (λ _. IsKindWord kind field) [
      | inl e ↦ subst (λ k. IsKindWord k field) e.1 (bytes_are field (codes "errorcheck") e.0)
      | inr more ↦ recursive_found field kind more
    ]

default_found :
    (field : List ℕ) (kind : MutexKind) → at_default field ≡ Some kind → IsKindWord kind field
default_found field kind h =
    let test = bytes_eq field (codes "default") in
    elim (cond_some test Normal kind (at_errorcheck field) h) as (λ _. IsKindWord kind field) [
      | inl e ↦
          subst (λ k. IsKindWord k field) e.1 (inr (bytes_are field (codes "default") e.0))
      | inr more ↦ errorcheck_found field kind more
    ]

pub kind_found :
    (field : List ℕ) (kind : MutexKind) → read_kind field ≡ Some kind → IsKindWord kind field
kind_found field kind h =
    let test = bytes_eq field (codes "normal") in
    elim (cond_some test Normal kind (at_default field) h) as (λ _. IsKindWord kind field) [
      | inl e ↦ subst (λ k. IsKindWord k field) e.1 (inl (bytes_are field (codes "normal") e.0))
      | inr more ↦ default_found field kind more
    ]

pub kind_again :
    (kind : MutexKind) (word : List ℕ) → IsKindWord kind word → read_kind word ≡ Some kind
kind_again Normal word h = elim h as (λ _. read_kind word ≡ Some Normal) [
  | inl e ↦ ap read_kind e
  | inr e ↦ ap read_kind e
]
kind_again Errorcheck word h = ap read_kind h
kind_again Recursive word h = ap read_kind h

pub kind_is_word :
    (kind : MutexKind) (word : List ℕ) → IsKindWord kind word → is_short_word word ≡ true
kind_is_word Normal word h = elim h as (λ _. is_short_word word ≡ true) [
  | inl e ↦ ap is_short_word e
  | inr e ↦ ap is_short_word e
]
kind_is_word Errorcheck word h = ap is_short_word h
kind_is_word Recursive word h = ap is_short_word h

-- robust or stalled
abbrev at_stalled : List ℕ → Option Bool
at_stalled field = cond (bytes_eq field (codes "stalled")) (Some false) None

stalled_found :
    (field : List ℕ) (robust : Bool) → at_stalled field ≡ Some robust
    → field ≡ robust_word robust
stalled_found field robust h =
    let test = bytes_eq field (codes "stalled") in
    elim (cond_some test false robust None h) as (λ _. field ≡ robust_word robust) [
      | inl e ↦ subst (λ r. field ≡ robust_word r) e.1 (bytes_are field (codes "stalled") e.0)
      | inr none ↦ none_some none
    ]

pub robust_found :
    (field : List ℕ) (robust : Bool) → read_robust field ≡ Some robust
    → field ≡ robust_word robust
robust_found field robust h =
    let test = bytes_eq field (codes "robust") in
    elim (cond_some test true robust (at_stalled field) h)
    as (λ _. field ≡ robust_word robust) [
      | inl e ↦ subst (λ r. field ≡ robust_word r) e.1 (bytes_are field (codes "robust") e.0)
      | inr more ↦ stalled_found field robust more
    ]

pub robust_again : (robust : Bool) → read_robust (robust_word robust) ≡ Some robust
robust_again true = refl
robust_again false = refl

pub robust_is_word : (robust : Bool) → is_short_word (robust_word robust) ≡ true
robust_is_word true = refl
robust_is_word false = refl

-- clocks
abbrev at_mono : List ℕ → Option Clock
at_mono field = cond (bytes_eq field (codes "mono")) (Some Mono) None

mono_found :
    (field : List ℕ) (clock : Clock) → at_mono field ≡ Some clock → field ≡ clock_name clock
mono_found field clock h =
    let test = bytes_eq field (codes "mono") in
    elim (cond_some test Mono clock None h) as (λ _. field ≡ clock_name clock) [
      | inl e ↦ subst (λ k. field ≡ clock_name k) e.1 (bytes_are field (codes "mono") e.0)
      | inr none ↦ none_some none
    ]

pub clock_found :
    (field : List ℕ) (clock : Clock) → read_clock field ≡ Some clock
    → field ≡ clock_name clock
clock_found field clock h =
    let test = bytes_eq field (codes "real") in
    elim (cond_some test Real clock (at_mono field) h) as (λ _. field ≡ clock_name clock) [
      | inl e ↦ subst (λ k. field ≡ clock_name k) e.1 (bytes_are field (codes "real") e.0)
      | inr more ↦ mono_found field clock more
    ]

pub clock_again : (clock : Clock) → read_clock (clock_name clock) ≡ Some clock
clock_again Real = refl
clock_again Mono = refl

pub clock_is_word : (clock : Clock) → is_word (clock_name clock) ≡ true
clock_is_word Real = refl
clock_is_word Mono = refl

pub length-clock_name : (clock : Clock) → length (clock_name clock) ≡ 4
length-clock_name Real = refl
length-clock_name Mono = refl

-- priorities
pub priority_found : (n p : ℕ) → read_priority n ≡ Some p → (n ≡ p) × (1 ≤ p) × (p ≤ max_priority)
priority_found n p h = by _ refl h
  where
    by :
        (b : Bool) → (nat_le 1 n && nat_le n max_priority) ≡ b → cond b (Some n) None ≡ Some p
        → (n ≡ p) × (1 ≤ p) × (p ≤ max_priority)
    by false e h = cc
    by true e h =
        let same : n ≡ p = some_inj h in
        let parts = and_parts (nat_le 1 n) (nat_le n max_priority) e in
        let low : nat_le 1 n ≡ true = parts.0 in
        let high : nat_le n max_priority ≡ true = parts.1 in
        (same, grind arith, grind arith)

pub priority_again : (p : ℕ) → 1 ≤ p → p ≤ max_priority → read_priority p ≡ Some p
priority_again p low high =
    let a : nat_le 1 p ≡ true = grind arith in
    let b : nat_le p max_priority ≡ true = grind arith in
    ap (λ t. cond t (Some p) None) (and_true (nat_le 1 p) (nat_le p max_priority) a b)

-- moments
pub moment_found :
    (time : ℕ × ℕ) (t : ℕ) → read_moment time ≡ Some t
    → (time.1 < nanoseconds_per_second) × (t ≡ nanos time.0 time.1)
moment_found time t h = by _ refl h
  where
    by :
        (b : Bool) → nat_lt time.1 nanoseconds_per_second ≡ b
        → cond b (Some (nanos time.0 time.1)) None ≡ Some t
        → (time.1 < nanoseconds_per_second) × (t ≡ nanos time.0 time.1)
    by false e h = cc
    by true e h = (grind arith, sym (some_inj h))

pub moment_again :
    (sec nsec : ℕ) → nsec < nanoseconds_per_second → read_moment (sec, nsec) ≡ Some (nanos sec nsec)
moment_again sec nsec lt =
    let b : nat_lt nsec nanoseconds_per_second ≡ true = grind arith in
    ap (λ t. cond t (Some (nanos sec nsec)) None) b

-- seconds and nanoseconds
pub record AreNumbers (args : List (List ℕ)) (sec nsec : ℕ) : Type 0 where
  pub args_are : args ≡ decimal sec ∷ decimal nsec ∷ []
  pub sec_fits : IsNumber sec
  pub nsec_fits : IsNumber nsec

pub one_number_found :
    (args : List (List ℕ)) (n : ℕ) → single_field read_number args ≡ Some n
    → (args ≡ decimal n ∷ []) × IsNumber n
one_number_found args n h =
    let a = single_field-some read_number args n h in
    let b = decimal-read_number a.0 n a.2 in
    (a.1 ∙ ap (λ f. f ∷ []) b.0, b.1)

pub two_numbers_found :
    (args : List (List ℕ)) (p : ℕ × ℕ) → two_numbers args ≡ Some p → AreNumbers args p.0 p.1
two_numbers_found args p h =
    let a = first_then-some read_number (single_field read_number) args p h in
    let sec = decimal-read_number a.field p.0 a.first_is in
    let nsec = one_number_found a.more p.1 a.rest_is in
    record {
      args_are = a.args_are ∙ ap (λ f. f ∷ a.more) sec.0 ∙ ap (λ fs. decimal p.0 ∷ fs) nsec.0;
      sec_fits = sec.1;
      nsec_fits = nsec.1;
    }

pub two_numbers_again :
    (sec nsec : ℕ) → IsNumber sec → IsNumber nsec
    → two_numbers (decimal sec ∷ decimal nsec ∷ []) ≡ Some (sec, nsec)
two_numbers_again sec nsec h g =
    first_then-again read_number (single_field read_number) (decimal sec) (decimal nsec
    ∷ []) sec nsec
    (read_number-decimal sec h) (read_number-decimal nsec g)

-- deadlines
pub one_deadline_found :
    (args : List (List ℕ)) (d : Timespec) → one_deadline args ≡ Some d
    → AreNumbers args d.sec d.nsec
one_deadline_found args d h =
    let a = map_some read_deadline (two_numbers args) d h in
    subst (λ (e : Timespec). AreNumbers args e.sec e.nsec) a.2 (two_numbers_found args a.0 a.1)

pub one_deadline_again :
    (d : Timespec) → IsNumber d.sec → IsNumber d.nsec
    → one_deadline (decimal d.sec ∷ decimal d.nsec ∷ []) ≡ Some d
one_deadline_again d h g = ap (option_map read_deadline) (two_numbers_again d.sec d.nsec h g)

-- a clock and a deadline
pub record AreDue (args : List (List ℕ)) (due : Clock × Timespec) : Type 0 where
  pub args_are :
      args ≡ clock_name due.0 ∷ decimal due.1.sec ∷ decimal due.1.nsec ∷ []
  pub sec_fits : IsNumber due.1.sec
  pub nsec_fits : IsNumber due.1.nsec

pub due_found :
    (args : List (List ℕ)) (due : Clock × Timespec) → clock_and_deadline args ≡ Some due
    → AreDue args due
due_found args due h =
    let a = first_then-some read_clock one_deadline args due h in
    let clock = clock_found a.field due.0 a.first_is in
    let d = one_deadline_found a.more due.1 a.rest_is in
    record {
      args_are =
          a.args_are ∙ ap (λ f. f ∷ a.more) clock ∙ ap (λ fs. clock_name due.0 ∷ fs) d.args_are;
      sec_fits = d.sec_fits;
      nsec_fits = d.nsec_fits;
    }
