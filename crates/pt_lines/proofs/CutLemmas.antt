-- CutLemmas: the lines of bytes, by the first bytes of a line.
use Rattle.std.proofs.Common.{◌≡◌, ◌≢◌, ◌<◌, ◌≤◌, ◌+◌, ◌∙◌, ◌==◌, ℕ, suc, Bool, true, false, cond}
use Rattle.std.proofs.Common.{nat_le, nat_lt, List, [], ◌∷◌, ◌++◌, length, take, drop, get_or, refl}
use Rattle.std.proofs.Common.{map, Result}
use Rattle.std.proofs.Common.{Option, None, Some, length-append, ap, sym, drop-cons, add-one, arith}
use Rattle.std.proofs.Common.{append_assoc, length-drop}
use Rattle.std.proofs.lemmas.Grind.{common_steps}
use Rattle.std.proofs.lemmas.List.{take-append-drop, append-nil, get_or-take}
use Rattle.std.proofs.lemmas.Bool.{eq-eqb, eqb-true}
use Rattle.std.specs.Option.{IfSome}
use Rattle.memchr.specs.Find.{IsFirstByte, is_byte}
use Rattle.pt_types.specs.declared.outcome.Refusal.{Refusal}
use Rattle.pt_grammar.specs.declared.call_line.CallLine.{CallLine}
use Rattle.pt_grammar.specs.declared.cut.Cut.{Cut}
use Rattle.pt_grammar.specs.declared.cut.Cut.TheVariants.{Line, Long}
use Rattle.pt_grammar.specs.Cuts.{cut_of}
use Rattle.pt_grammar.specs.Lines.{lines_after, lines, lines_after_newline, NoNewline, CutterView}
use Rattle.pt_grammar.specs.Lines.{HasNoWholeLine}
use Rattle.pt_grammar.specs.Lines.{lines_to_come, last_of, join_lines, AllTexts, IsFirstLine}
use Rattle.pt_grammar.specs.Lines.{after_line}
use Rattle.pt_grammar.specs.Reading.{call_of_cut, call_read, IsNextCallLine}
use Rattle.pt_grammar.specs.declared.script_line.ScriptLine.{ScriptLine}
use Rattle.pt_grammar.specs.Script.{script_of, script_read, short_read, long_line, IsNextScriptLine}

not_newline : (x : ℕ) → x ≢ 10 → (x == 10) ≡ false
not_newline x ne = grind arith

tail_has_none : (x : ℕ) (xs : List ℕ) → NoNewline (x ∷ xs) → NoNewline xs
tail_has_none x xs h i lt = h (suc i) (omega arith)

-- one more byte of a line
lines_after-byte :
    (begun : List ℕ) (b : ℕ) (bytes : List ℕ)
    → lines_after begun (b ∷ bytes)
    ≡ cond (b == 10) (cut_of begun ∷ lines_after [] bytes) (lines_after (begun ++ b ∷ []) bytes)
lines_after-byte [] b bytes = refl
lines_after-byte (x ∷ begun) b bytes = refl

-- a byte other than a newline continues the line
lines_after-other :
    (begun : List ℕ) (b : ℕ) (bytes : List ℕ) → b ≢ 10
    → lines_after begun (b ∷ bytes) ≡ lines_after (begun ++ b ∷ []) bytes
lines_after-other begun b bytes ne =
    let ended = cut_of begun ∷ lines_after [] bytes in
    lines_after-byte begun b bytes
    ∙ ap (λ t. cond t ended (lines_after (begun ++ b ∷ []) bytes)) (not_newline b ne)

-- bytes without a newline continue the line
pub lines_after-append :
    (begun xs ys : List ℕ) → NoNewline xs
    → lines_after begun (xs ++ ys) ≡ lines_after (begun ++ xs) ys
lines_after-append begun [] ys h = ap (λ text. lines_after text ys) (sym (append-nil begun))
lines_after-append begun (x ∷ xs) ys h =
    lines_after-other begun x (xs ++ ys) (h 0 (omega arith))
    ∙ lines_after-append (begun ++ x ∷ []) xs ys (tail_has_none x xs h)
    ∙ ap (λ text. lines_after text ys) (append_assoc begun (x ∷ []) xs)

-- a newline ends the line
pub lines_after-newline :
    (begun xs ys : List ℕ) → NoNewline xs
    → lines_after begun (xs ++ 10 ∷ ys) ≡ cut_of (begun ++ xs) ∷ lines ys
lines_after-newline begun xs ys h =
    lines_after-append begun xs (10 ∷ ys) h ∙ lines_after-byte (begun ++ xs) 10 ys

pub cut_of-long : (text : List ℕ) → 128 < length text → cut_of text ≡ Long
cut_of-long text long =
    let no : nat_le (length text) 128 ≡ false = grind arith in
    ap (λ b. cond b (Line (record { items = text })) Long) no

pub cut_of-short :
    (text : List ℕ) → length text ≤ 128 → cut_of text ≡ Line (record { items = text })
cut_of-short text short =
    let yes : nat_le (length text) 128 ≡ true = grind arith in
    ap (λ b. cond b (Line (record { items = text })) Long) yes

-- a line that is too long is given once, and the rest of it is dropped
pub lines_after-long :
    (begun bytes : List ℕ) → 128 < length begun
    → lines_after begun bytes ≡ Long ∷ lines_after_newline bytes
lines_after-long [] [] long = absurd (omega arith)
lines_after-long (x ∷ begun) [] long = ap (λ c. c ∷ []) (cut_of-long (x ∷ begun) long)
lines_after-long begun (b ∷ bytes) long =
    let longer : 128 < length (begun ++ b ∷ []) =
    omega (arith, length-append begun (b ∷ [])) in
    lines_after-byte begun b bytes
    ∙ ap (λ c. cond (b == 10) (c ∷ lines bytes) (lines_after (begun ++ b ∷ []) bytes))
    (cut_of-long begun long)
    ∙ ap (λ ls. cond (b == 10) (Long ∷ lines bytes) ls)
    (lines_after-long (begun ++ b ∷ []) bytes longer)
    ∙ either (b == 10) (lines bytes) (lines_after_newline bytes)
  where
    either :
        (t : Bool) (xs ys : List Cut) → cond t (Long ∷ xs) (Long ∷ ys) ≡ Long ∷ cond t xs ys
    either true xs ys = refl
    either false xs ys = refl

-- bytes without a newline are dropped
pub lines_after_newline-append :
    (xs ys : List ℕ) → NoNewline xs → lines_after_newline (xs ++ ys) ≡ lines_after_newline ys
lines_after_newline-append [] ys h = refl
lines_after_newline-append (x ∷ xs) ys h =
    ap (λ b. cond b (lines (xs ++ ys)) (lines_after_newline (xs ++ ys)))
    (not_newline x (h 0 (omega arith)))
    ∙ lines_after_newline-append xs ys (tail_has_none x xs h)

-- the newline is passed over
pub lines_after_newline-newline :
    (xs ys : List ℕ) → NoNewline xs → lines_after_newline (xs ++ 10 ∷ ys) ≡ lines ys
lines_after_newline-newline xs ys h = lines_after_newline-append xs (10 ∷ ys) h

-- the first newline of the bytes is at i
pub record FirstAt (xs : List ℕ) (i : ℕ) : Type 0 where
  pub within : i < length xs
  pub here : get_or xs i 0 ≡ 10
  pub before : (k : ℕ) → k < i → get_or xs k 0 ≢ 10

pub split_at_newline :
    (xs : List ℕ) (i : ℕ) → FirstAt xs i → xs ≡ take i xs ++ 10 ∷ drop (i + 1) xs
split_at_newline xs i f =
    let back =
    drop-cons xs i 0 f.within
    ∙ ap (λ b. b ∷ drop (suc i) xs) f.here
    ∙ ap (λ n. 10 ∷ drop n xs) (sym (add-one i)) in
    sym (take-append-drop i xs) ∙ ap (λ ys. take i xs ++ ys) back

pub NoNewline-take : (xs : List ℕ) (i : ℕ) → FirstAt xs i → NoNewline (take i xs)
NoNewline-take xs i f k lt e =
    let small : k < i = grind (arith, common_steps) in
    f.before k small (sym (get_or-take i xs k 0 small) ∙ e)

-- the newline that memchr finds is the first
pub first_at : (xs : List ℕ) (i : ℕ) → IsFirstByte (is_byte 10) xs (Some i) → FirstAt xs i
first_at xs i h = record {
  within = h.0.high;
  here = eqb-true (get_or xs i 0) 10 h.1;
  before = λ k lt e. h.0.before k (omega arith) lt (eq-eqb (get_or xs k 0) 10 e);
}

pub none_at : (xs : List ℕ) → IsFirstByte (is_byte 10) xs None → NoNewline xs
none_at xs h k lt e = h k (omega arith) lt (eq-eqb (get_or xs k 0) 10 e)

-- the same in the first n bytes
pub first_in_front :
    (xs : List ℕ) (n i : ℕ) → IsFirstByte (is_byte 10) (take n xs) (Some i)
    → FirstAt xs i × (i < n)
first_in_front xs n i h =
    let f = first_at (take n xs) i h in
    let w : i < length (take n xs) = f.within in
    let small : i < n = grind (arith, common_steps) in (
      record {
        within = grind (arith, common_steps);
        here = sym (get_or-take n xs i 0 small) ∙ f.here;
        before = λ k lt e. f.before k lt (get_or-take n xs k 0 (omega arith) ∙ e);
      },
      small,
    )

-- the lines after the first newline
pub past_first :
    (xs : List ℕ) (i : ℕ) → FirstAt xs i → (more : List ℕ)
    → lines_after_newline (xs ++ more) ≡ lines (drop (i + 1) xs ++ more)
past_first xs i f more =
    ap (λ ys. lines_after_newline (ys ++ more)) (split_at_newline xs i f)
    ∙ ap lines_after_newline (append_assoc (take i xs) (10 ∷ drop (i + 1) xs) more)
    ∙ lines_after_newline-newline (take i xs) (drop (i + 1) xs ++ more) (NoNewline-take xs i f)

-- the bytes before the first newline are the first line
pub first_line :
    (xs : List ℕ) (i : ℕ) → FirstAt xs i → i ≤ 128
    → (text : List ℕ) → text ≡ take i xs → (more : List ℕ)
    → lines (xs ++ more) ≡ Line (record { items = text }) ∷ lines (drop (i + 1) xs ++ more)
first_line xs i f short text is more =
    let line =
    cut_of-short (take i xs) (grind (arith, common_steps))
    ∙ ap (λ t. Line (record { items = t })) (sym is) in
    ap (λ ys. lines (ys ++ more)) (split_at_newline xs i f)
    ∙ ap lines (append_assoc (take i xs) (10 ∷ drop (i + 1) xs) more)
    ∙ lines_after-newline [] (take i xs) (drop (i + 1) xs ++ more) (NoNewline-take xs i f)
    ∙ ap (λ c. c ∷ lines (drop (i + 1) xs ++ more)) line

take_short : (n : ℕ) (xs : List ℕ) → n ≤ 128 → length (take n xs) ≤ 128
take_short n xs le = grind (arith, common_steps)

-- a newline among the first 129 bytes ends the first line
pub front_of :
    (held : CutterView) (n : ℕ) (r : Option ℕ) → held.dropping ≡ false → n ≤ 129
    → IsFirstByte (is_byte 10) (take n held.rest) r → IfSome r (IsFirstLine held)
front_of held n None keeps few h = tt
front_of held n (Some i) keeps few h =
    let found = first_in_front held.rest n i h in
    let short : i ≤ 128 = omega (arith, found.1) in
    let line =
    cut_of-short (take i held.rest) (take_short i held.rest short) in
    record {
      within = found.0.within;
      short = short;
      given = λ more.
          ap (λ d. cond d (lines_after_newline (held.rest ++ more)) (lines (held.rest ++ more)))
          keeps
          ∙ first_line held.rest i found.0 short (take i held.rest) refl more
          ∙ ap (λ c. c ∷ lines (drop (i + 1) held.rest ++ more)) (sym line)
          ∙ ap (λ ls. cut_of (take i held.rest) ∷ ls)
          (sym (ap (λ d. cond d (lines_after_newline (drop (i + 1) held.rest ++ more))
          (lines (drop (i + 1) held.rest ++ more))) keeps));
    }

abbrev held_of : List ℕ → Bool → CutterView
held_of rest dropping = record { rest = rest; dropping = dropping }

-- the next line is given, if it is read in place
given_in_place :
    (old : CutterView) (rest : List ℕ) (dropping : Bool) (end : ℕ) → IsFirstLine old end
    → rest ≡ drop (end + 1) old.rest → dropping ≡ old.dropping → (more : List ℕ)
    → lines_to_come old more ≡ cut_of (take end old.rest)
    ∷ lines_to_come (held_of rest dropping) more
given_in_place old rest dropping end front past same more =
    let after : held_of rest dropping ≡ after_line old end =
    ap (λ xs. held_of xs dropping) past
    ∙ ap (λ d. held_of (drop (end + 1) old.rest) d) same in
    front.given more ∙ ap (λ h. cut_of (take end old.rest) ∷ lines_to_come h more) (sym after)

-- that line is given as its text
cut_in_place :
    (old : CutterView) (end : ℕ) → IsFirstLine old end
    → cut_of (take end old.rest) ≡ Line (record { items = take end old.rest })
cut_in_place old end front =
    cut_of-short (take end old.rest) (take_short end old.rest front.short)

-- a line of a script that is read in place
pub read_in_place :
    (old : CutterView) (rest : List ℕ) (dropping : Bool) (end : ℕ) (line : ScriptLine)
    → IsFirstLine old end → line ≡ script_read (take end old.rest) → rest ≡ drop (end + 1) old.rest
    → dropping ≡ old.dropping
    → IsNextScriptLine old line (record { rest = rest; dropping = dropping })
read_in_place old rest dropping end line front is past same = record {
  cut = cut_of (take end old.rest);
  read = is ∙ sym (ap script_of (cut_in_place old end front));
  given = given_in_place old rest dropping end front past same;
}

-- a line of a connection that is read in place
pub called_in_place :
    (old : CutterView) (rest : List ℕ) (dropping : Bool) (end : ℕ)
    (reading : Result CallLine Refusal)
    → IsFirstLine old end → reading ≡ call_read (take end old.rest)
    → rest ≡ drop (end + 1) old.rest → dropping ≡ old.dropping
    → IsNextCallLine old reading (record { rest = rest; dropping = dropping })
called_in_place old rest dropping end reading front is past same = record {
  cut = cut_of (take end old.rest);
  read = is ∙ sym (ap call_of_cut (cut_in_place old end front));
  given = given_in_place old rest dropping end front past same;
}

-- a line that is not too long is read as a short one
pub short_is_read :
    (n : ℕ) (xs : List ℕ) → n ≤ 128 → short_read (take n xs) ≡ script_read (take n xs)
short_is_read n xs le =
    let fits = take_short n xs le in
    let test : nat_lt 128 (length (take n xs)) ≡ false = grind arith in
    sym (ap (λ b. cond b long_line (short_read (take n xs))) test)

front_len : (n : ℕ) (xs : List ℕ) → n ≤ length xs → length (take n xs) ≡ n
front_len n xs le = grind (arith, common_steps)

too_long_by :
    (n : ℕ) (xs : List ℕ) → 128 < n → n ≤ length xs → NoNewline (take n xs)
    → (more : List ℕ) → lines (xs ++ more) ≡ Long ∷ lines_after_newline (drop n xs ++ more)
too_long_by n xs big le none more =
    ap (λ ys. lines (ys ++ more)) (sym (take-append-drop n xs))
    ∙ ap lines (append_assoc (take n xs) (drop n xs) more)
    ∙ lines_after-append [] (take n xs) (drop n xs ++ more) none
    ∙ lines_after-long (take n xs) (drop n xs ++ more) (omega (arith, front_len n xs le))

-- 129 bytes without a newline belong to a line that is too long
pub too_long :
    (n : ℕ) (xs ys : List ℕ) → n ≡ 129 → n ≤ length xs → NoNewline (take n xs)
    → ys ≡ drop 129 xs
    → (more : List ℕ) → lines (xs ++ more) ≡ Long ∷ lines_after_newline (ys ++ more)
too_long n xs ys e le none rest more =
    too_long_by n xs (omega arith) le none more
    ∙ ap (λ zs. Long ∷ lines_after_newline (zs ++ more)) (ap (λ m. drop m xs) e ∙ sym rest)

last_line :
    (xs : List ℕ) → NoNewline xs → length xs ≤ 128 → 0 < length xs
    → lines (xs ++ []) ≡ Line (record { items = xs }) ∷ []
last_line [] none short some = absurd (omega arith)
last_line (x ∷ xs) none short some =
    lines_after-append [] (x ∷ xs) [] none ∙ ap (λ c. c ∷ []) (cut_of-short (x ∷ xs) short)

by_state :
    (rest : List ℕ) (dropping : Bool) → NoNewline rest → length rest ≤ 128
    → (dropping ≡ true → rest ≡ []) → 0 < length rest
    → cond dropping (lines_after_newline (rest ++ [])) (lines (rest ++ []))
    ≡ Line (record { items = rest }) ∷ []
by_state rest true none short dropped some =
    let empty : length rest ≡ 0 = ap length (dropped refl) in
    absurd (omega arith)
by_state rest false none short dropped some = last_line rest none short some

-- the bytes that remain at the end are the last line
pub at_end :
    (held : CutterView) → HasNoWholeLine held → 0 < length held.rest
    → (text : List ℕ) → text ≡ held.rest
    → lines_to_come held [] ≡ Line (record { items = text }) ∷ []
at_end held h some text is =
    by_state held.rest held.dropping h.no_newline h.short h.dropped some
    ∙ ap (λ t. Line (record { items = t }) ∷ []) (sym is)

-- the lines of texts, and of the bytes after them
pub lines-join_lines :
    (texts : List (List ℕ)) (rest : List ℕ) → AllTexts texts → NoNewline rest
    → lines (join_lines texts rest) ≡ map cut_of texts ++ last_of rest
lines-join_lines [] [] all none = refl
lines-join_lines [] (b ∷ rest) all none =
    ap lines (sym (append-nil (b ∷ rest))) ∙ lines_after-append [] (b ∷ rest) [] none
lines-join_lines (text ∷ texts) rest all none =
    lines_after-newline [] text (join_lines texts rest) all.0
    ∙ ap (λ ls. cut_of text ∷ ls) (lines-join_lines texts rest all.1 none)

-- the bytes that remain after a line and its newline are dropped
pub front_dropped :
    (inside old : CutterView) (rest : List ℕ) (end : ℕ) → inside ≡ old → IsFirstLine old end
    → rest ≡ drop (end + 1) inside.rest
    → (held_of rest inside.dropping ≡ after_line old end) × (length rest < length old.rest)
front_dropped inside old rest end same front past =
    let now : rest ≡ drop (end + 1) old.rest =
    past ∙ ap (λ (h : CutterView). drop (end + 1) h.rest) same in (
      ap (λ xs. held_of xs inside.dropping) now
          ∙ ap (λ (h : CutterView). held_of (drop (end + 1) old.rest) h.dropping) same,
      omega (arith, ap length now, length-drop (end + 1) old.rest, front.within),
    )
