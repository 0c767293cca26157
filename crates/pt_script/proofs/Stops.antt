-- What the writer took of a text, and what became of the lines that it tells of.
use Rattle.std.proofs.Common.{◌≡◌, ℕ, ◌<◌, ◌≤◌, List, [], ◌++◌, length, take, drop, Result, Ok, Err}
use Rattle.std.proofs.Common.{sym, ap, subst, ◌∙◌, append-nil}
use Rattle.std.specs.Result.{IsErrAnd, IfOk, IfErr}
use Rattle.std.proofs.lemmas.List.{take-append-drop, take-append-le, drop-append-le}
use Rattle.std.proofs.Math.Seq.{take-append_seam, drop-append_seam}
use Rattle.pt_grammar.specs.declared.cut.Cut.{Cut}
use Rattle.pt_grammar.specs.Lines.{CutterView, lines_to_come}
use Rattle.pt_engine.specs.declared.fault.ScriptFault.{ScriptFault}
use Rattle.pt_engine.specs.Scripts.{Script}
use Rattle.pt_script.specs.Tellings.{TellsBetween, TellsCuts, Telling}
use Rattle.pt_script.specs.Texts.{BreaksOff, IsCutShort, WriterView}
use Rattle.pt_script.specs.Stops.{IsCutOff}

-- the bytes by which a text grew, and those that remain
pub cut_short : (old bytes text rest : List ℕ) → text ++ rest ≡ old ++ bytes
    → length old ≤ length text → 0 < length rest → IsCutShort old bytes text
cut_short old bytes text rest joins grows some = record {
  front = drop (length old) text;
  rest = rest;
  some = some;
  parts =
      sym (drop-append_seam old bytes)
      ∙ ap (drop (length old)) (sym joins)
      ∙ drop-append-le (length old) text rest grows;
  taken =
      sym (take-append-drop (length old) text)
      ∙ ap (λ xs. xs ++ drop (length old) text)
      (sym (take-append-le (length old) text rest grows)
      ∙ ap (take (length old)) joins
      ∙ take-append_seam old bytes);
}

-- a buffer that was empty at first, after what was taken before
pub onto_taken : (T : Telling) (s : Script) (cuts : List Cut) (begun : List ℕ) (last : Script)
    (out shown old : List ℕ) → TellsCuts T s cuts begun last out → begun ≡ [] → shown ≡ out
    → TellsCuts T s cuts old last (old ++ shown)
onto_taken T s cuts begun last out shown old a empty shows = record {
  text = a.text;
  tells = a.tells;
  grows = ap (λ xs. old ++ xs) (shows ∙ a.grows ∙ ap (λ xs. xs ++ a.text) empty);
}

-- a buffer that was empty at first holds what is told of the lines
shown_text : (T : Telling) (s : Script) (cuts : List Cut) (begun : List ℕ) (last : Script)
    (out shown : List ℕ) (a : TellsCuts T s cuts begun last out) → begun ≡ [] → shown ≡ out
    → shown ≡ a.text
shown_text T s cuts begun last out shown a empty shows =
    shows ∙ a.grows ∙ ap (λ xs. xs ++ a.text) empty

-- the writer failed within what is told of these lines
pub cut_off : (T : Telling) (held fed : CutterView) (s : Script) (begun : List ℕ)
    (next : CutterView)
    (last : Script) (out shown old : List ℕ) (w : WriterView) → TellsBetween T fed s begun next last out
    → fed ≡ held → begun ≡ [] → shown ≡ out → BreaksOff old shown w → IsCutOff T held s old w
cut_off T held fed s begun next last out shown old w a feeds empty shows breaks = record {
  cuts = a.cuts;
  later = lines_to_come next [];
  last = last;
  text = a.appends.text;
  given = ap (λ h. lines_to_come h []) (sym feeds) ∙ a.given [];
  tells = a.appends.tells;
  breaks =
      subst (λ bytes. BreaksOff old bytes w)
      (shown_text T s a.cuts begun last out shown a.appends empty shows) breaks;
}

-- a fault that is returned is this one
pub told_fault : {T : Type 0} (r : Result T ScriptFault) (fault : ScriptFault)
    (P : ScriptFault → Type 0) → IsErrAnd r (λ f. f ≡ fault) → P fault → IfErr r P
told_fault (Ok done) fault P told holds = absurd told
told_fault (Err f) fault P told holds = subst P (sym told) holds

-- the writer failed within what is told of the last line
pub last_cut_off : (T : Telling) (held : CutterView) (s : Script) (begun : List ℕ) (last : Script)
    (out shown old : List ℕ) (w : WriterView) → TellsCuts T s (lines_to_come held []) begun last out
    → begun ≡ [] → shown ≡ out → BreaksOff old shown w → IsCutOff T held s old w
last_cut_off T held s begun last out shown old w a empty shows breaks = record {
  cuts = lines_to_come held [];
  later = [];
  last = last;
  text = a.text;
  given = sym (append-nil (lines_to_come held []));
  tells = a.tells;
  breaks =
      subst (λ bytes. BreaksOff old bytes w)
      (shown_text T s (lines_to_come held []) begun last out shown a empty shows) breaks;
}

-- what holds of each success
pub on_ok : {T E : Type 0} (P Q : T → Type 0) (r : Result T E)
    → ((x : T) → P x → Q x) → IfOk r P → IfOk r Q
on_ok P Q (Ok x) then holds = then x holds
on_ok P Q (Err e) then holds = tt

-- what holds of each fault
pub on_err : {T E : Type 0} (P Q : E → Type 0) (r : Result T E)
    → ((e : E) → P e → Q e) → IfErr r P → IfErr r Q
on_err P Q (Ok x) then holds = tt
on_err P Q (Err e) then holds = then e holds
