-- A whole script, read piece by piece.
use Rattle.std.proofs.Common.{◌≡◌, ℕ, suc, ◌+◌, ◌<◌, ◌≤◌, ◌==◌, Bool, true, false, ◌||◌, ◌&&◌}
use Rattle.std.proofs.Common.{nat_lt, cond, List, [], ◌∷◌, ◌++◌, length, take, refl, sym, ap}
use Rattle.std.proofs.Common.{subst, ◌∙◌, append_assoc, append-nil, length-append, arith}
use Rattle.std.proofs.Math.Seq.{take-append_seam}
use Rattle.std.proofs.lemmas.Bool.Decides.{Decides-eqb}
use mathlib.Core.List.{IsPrefix}
use Rattle.std.specs.Prelude.{Result, Ok, Err, OnOk}
use Rattle.pt_io.specs.Devices.{moves_none}
use Rattle.pt_grammar.specs.declared.cut.Cut.{Cut}
use Rattle.pt_grammar.specs.Cuts.{cut_of}
use Rattle.pt_grammar.specs.Lines.{CutterView, HasNoWholeLine, lines, lines_after}
use Rattle.pt_grammar.specs.Lines.{lines_after_newline, lines_to_come}
use Rattle.pt_engine.specs.Scripts.{Script, empty_script}
use Rattle.pt_engine.specs.declared.fault.ScriptFault.{ScriptFault}
use Rattle.pt_engine.specs.declared.fault.ScriptFault.TheVariants.{Read, Write, Memory}
use Rattle.pt_script.specs.Ends.{BeginsScriptText, RunView, HasAnsweredLines, IsFaultOf}
use Rattle.pt_script.specs.Ends.{IsScriptText}
use Rattle.pt_script.specs.Ends.{TellsWhole}
use Rattle.pt_script.specs.Stops.{IsCutOff, IsEnd, StopsAtFault}
use Rattle.pt_script.specs.Tellings.{TellsBetween, IsTelling, Telling}
use Rattle.pt_script.specs.Texts.{WriterView}

-- each line has a byte of its own, except one that was begun before
few_after : (text bytes : List ℕ) → length (lines_after text bytes) ≤ length bytes + length text
few_after [] [] = omega arith
few_after (x ∷ text) [] = omega arith
few_after [] (b ∷ bytes) = by (b == 10) (few_after [] bytes) (few_after (b ∷ []) bytes)
  where
    by : (t : Bool) → length (lines_after [] bytes) ≤ length bytes + 0
        → length (lines_after (b ∷ []) bytes) ≤ length bytes + 1
        → length (cond t (cut_of [] ∷ lines_after [] bytes) (lines_after (b ∷ []) bytes))
        ≤ suc (length bytes) + 0
    by true ended goes = omega (arith, ended)
    by false ended goes = omega (arith, goes)
few_after (x ∷ text) (b ∷ bytes) =
    by (b == 10) (few_after [] bytes) (few_after (x ∷ (text ++ b ∷ [])) bytes)
    (length-append text (b ∷ []))
  where
    by : (t : Bool) → length (lines_after [] bytes) ≤ length bytes + 0
        → length (lines_after (x ∷ (text ++ b ∷ [])) bytes)
        ≤ length bytes + suc (length (text ++ b ∷ []))
        → length (text ++ b ∷ []) ≡ length text + 1
        → length (cond t (cut_of (x ∷ text) ∷ lines_after [] bytes)
        (lines_after (x ∷ (text ++ b ∷ [])) bytes))
        ≤ suc (length bytes) + suc (length text)
    by true ended goes longer = omega (arith, ended)
    by false ended goes longer = omega (arith, goes, longer)

-- there are no more lines than bytes
pub few_lines : (bytes : List ℕ) → length (lines bytes) ≤ length bytes
few_lines bytes = let few = few_after [] bytes in omega (arith, few)

-- bytes that are held count like bytes that come later
pub fed : (held : CutterView) (piece more : List ℕ)
    → lines_to_come (record held { rest = held.rest ++ piece }) more ≡ lines_to_come held (piece
    ++ more)
fed held piece more =
    ap (λ bytes. cond held.dropping (lines_after_newline bytes) (lines bytes))
    (append_assoc held.rest piece more)

pub fed_end : (held : CutterView) (piece : List ℕ)
    → lines_to_come (record held { rest = held.rest ++ piece }) [] ≡ lines_to_come held piece
fed_end held piece = fed held piece [] ∙ ap (lines_to_come held) (append-nil piece)

-- as many lines were seen as were given, and the rest are still to come
pub behind_few : (T : Telling) (laws : IsTelling T) (bytes : List ℕ) (held : CutterView)
    (s : Script)
    (text : List ℕ) (more : List ℕ) → HasAnsweredLines T bytes held s text
    → length s.seen + length (lines_to_come held more) ≤ length (bytes ++ more)
behind_few T laws bytes held s text more b =
    let seen = laws.counts empty_script b.cuts s text b.tells in
    let all = ap length (b.given more) ∙ length-append b.cuts (lines_to_come held more) in
    let few = few_lines (bytes ++ more) in
    omega (arith, seen, all, few)

-- one more piece was told of
pub behind_fed : (T : Telling) (laws : IsTelling T) (bytes piece : List ℕ) (held : CutterView)
    (s : Script) (text : List ℕ) (next : CutterView) (last : Script) (new : List ℕ)
    → HasAnsweredLines T bytes held s text
    → TellsBetween T (record held { rest = held.rest ++ piece }) s text next last new
    → HasAnsweredLines T (bytes ++ piece) next last new
behind_fed T laws bytes piece held s text next last new b a = record {
  cuts = b.cuts ++ a.cuts;
  given = λ more.
      ap lines (append_assoc bytes piece more)
      ∙ b.given (piece ++ more)
      ∙ ap (λ xs. b.cuts ++ xs) (sym (fed held piece more) ∙ a.given more)
      ∙ sym (append_assoc b.cuts a.cuts (lines_to_come next more));
  tells =
      subst (λ t. T empty_script (b.cuts ++ a.cuts) last t) (sym a.appends.grows)
      (laws.join empty_script b.cuts s text a.cuts last a.appends.text b.tells a.appends.tells);
}

-- the first lines of these bytes, with a text for them
begins_at : (T : Telling) (bytes : List ℕ) (xs later : List Cut) (last : Script)
    (whole text : List ℕ) → lines bytes ≡ xs ++ later → T empty_script xs last whole
    → IsPrefix text whole
    → (b : BeginsScriptText T bytes text) × (b.whole ≡ whole)
begins_at T bytes xs later last whole text all tells begins = (
  record {
    count = length xs;
    last = last;
    whole = whole;
    within = let long = ap length all ∙ length-append xs later in omega (arith, long);
    tells =
        subst (λ ls. T empty_script ls last whole)
        (sym (ap (take (length xs)) all ∙ take-append_seam xs later)) tells;
    begins = begins;
  },
  refl,
)

-- what was written is the text for the lines so far
pub behind_begins : (T : Telling) (bytes : List ℕ) (held : CutterView) (s : Script)
    (text more : List ℕ)
    → HasAnsweredLines T bytes held s text → BeginsScriptText T (bytes ++ more) text
behind_begins T bytes held s text more b =
    (begins_at T (bytes ++ more) b.cuts (lines_to_come held more) s text text (b.given more) b.tells
    ([], append-nil text)).0

-- the writer failed within what is told of the next lines
pub behind_cut_off : (T : Telling) (laws : IsTelling T) (bytes : List ℕ) (held next : CutterView)
    (s : Script) (text more : List ℕ) (w : WriterView) → HasAnsweredLines T bytes held s text
    → lines_to_come next [] ≡ lines_to_come held more → IsCutOff T next s text w
    → (b : BeginsScriptText T (bytes ++ more) w.taken) × (length w.flushed < length b.whole)
behind_cut_off T laws bytes held next s text more w b same off =
    let begins = begins_at T (bytes ++ more) (b.cuts ++ off.cuts) off.later off.last
    (text ++ off.text) w.taken
    (b.given more
    ∙ ap (λ xs. b.cuts ++ xs) (sym same ∙ off.given)
    ∙ sym (append_assoc b.cuts off.cuts off.later))
    (laws.join empty_script b.cuts s text off.cuts off.last off.text b.tells off.tells) (
      off.breaks.rest,
      ap (λ xs. xs ++ off.breaks.rest) off.breaks.taken
          ∙ append_assoc text off.breaks.front off.breaks.rest
          ∙ ap (λ xs. text ++ xs) (sym off.breaks.parts),
    ) in
    let some = off.breaks.some in
    let flushed = ap length off.breaks.flushed in
    let parts = length-append text off.text in
    let whole = ap length begins.1 in
    (begins.0, omega (arith, flushed, parts, some, whole))

-- all lines were told of
pub behind_end : (T : Telling) (laws : IsTelling T) (bytes : List ℕ) (held : CutterView)
    (s : Script)
    (text new : List ℕ) (count entries : ℕ) → HasAnsweredLines T bytes held s text
    → IsEnd T held s text new count entries → IsScriptText T bytes new count entries
behind_end T laws bytes held s text new count entries b end = record {
  last = end.last;
  tells = told;
  lines = end.lines ∙ laws.counts empty_script (lines bytes) end.last new told ∙ omega arith;
  history = end.history;
}
  where
    all : lines bytes ≡ b.cuts ++ lines_to_come held []
    all = ap lines (sym (append-nil bytes)) ∙ b.given []

    told : T empty_script (lines bytes) end.last new
    told =
        subst (λ t. T empty_script (lines bytes) end.last t) (sym end.appends.grows)
        (subst (λ xs. T empty_script xs end.last (text ++ end.appends.text)) (sym all)
        (laws.join empty_script b.cuts s text (lines_to_come held []) end.last end.appends.text b.tells
        end.appends.tells))

-- what was written, after more bytes have come
pub begins_given : (T : Telling) (bytes given more : List ℕ) (held : CutterView) (s : Script)
    (text : List ℕ) → HasAnsweredLines T bytes held s text → given ≡ bytes ++ more
    → BeginsScriptText T given text
begins_given T bytes given more held s text b gives =
    subst (λ bs. BeginsScriptText T bs text) (sym gives) (behind_begins T bytes held s text more b)

-- what was written, if telling was stopped
pub stopped_begins : (T : Telling) (laws : IsTelling T) (bytes given more : List ℕ)
    (held next : CutterView) (s : Script) (text : List ℕ) (w : WriterView) (fault : ScriptFault)
    → HasAnsweredLines T bytes held s text → given ≡ bytes ++ more → lines_to_come next []
    ≡ lines_to_come held more
    → StopsAtFault T fault next s text w → BeginsScriptText T given w.taken
stopped_begins T laws bytes given more held next s text w Read b gives same stop = absurd stop
stopped_begins T laws bytes given more held next s text w Write b gives same stop =
    subst (λ bs. BeginsScriptText T bs w.taken) (sym gives)
    (behind_cut_off T laws bytes held next s text more w b same stop).0
stopped_begins T laws bytes given more held next s text w Memory b gives same stop =
    subst (λ t. BeginsScriptText T given t) (sym stop.taken)
    (begins_given T bytes given more held s text b gives)

-- all whole lines in these bytes were told of
pub whole_told : (T : Telling) (bytes : List ℕ) (held : CutterView) (s : Script)
    (text given new : List ℕ) → HasAnsweredLines T bytes held s text → HasNoWholeLine held → given
    ≡ bytes
    → new ≡ text → TellsWhole T given new
whole_told T bytes held s text given new b begins same wrote =
    subst (λ bs. TellsWhole T bs new) (sym same)
    (subst (λ t. TellsWhole T bytes t) (sym wrote)
    (record { rest = held; last = s; answered = b; begun = begins }))

-- why telling was stopped
pub stopped_why : (T : Telling) (laws : IsTelling T) (bytes more : List ℕ) (held next : CutterView)
    (s : Script) (text : List ℕ) (c : RunView) (fault : ScriptFault)
    → HasAnsweredLines T bytes held s text
    → HasNoWholeLine held → c.reader.given ≡ bytes ++ more → c.reader.earlier ≡ bytes
    → lines_to_come next [] ≡ lines_to_come held more → c.reader.failures ≡ 0
    → StopsAtFault T fault next s text c.writer → IsFaultOf T c fault
stopped_why T laws bytes more held next s text c Read b begins gives before same read stop =
    absurd stop
stopped_why T laws bytes more held next s text c Write b begins gives before same read stop =
    let off =
    subst
    (λ bs. (t : BeginsScriptText T bs c.writer.taken)
    × (length c.writer.flushed < length t.whole)) (sym gives)
    (behind_cut_off T laws bytes held next s text more c.writer b same stop) in
    record {
      cause = stop.breaks.cause;
      begins = off.0;
      short = off.1;
      whole = whole_told T bytes held s text c.reader.earlier c.writer.flushed b begins before
          stop.breaks.flushed;
      read = read;
    }
stopped_why T laws bytes more held next s text c Memory b begins gives before same read stop =
    record {
      read = read;
      wrote = stop.failures;
      accepted = stop.rejections;
      whole = whole_told T bytes held s text c.reader.earlier c.writer.taken b begins before
          stop.taken;
      flushed = stop.flushed ∙ sym stop.taken;
    }

-- before the first read the reader gave nothing, and a writer flushed nothing that it did not take
pub nothing_before : (front bytes : List ℕ) → IsPrefix front bytes → bytes ≡ [] → front ≡ []
nothing_before [] bytes begins none = refl
nothing_before (b ∷ front) bytes begins none = absurd (let no = begins.1 ∙ none in cc)

-- a read that gave a byte reported no end
pub not_ended : (n : ℕ) (buf : List ℕ) (before after : Bool) → (n ≡ 0 → ⊥)
    → after ≡ (before || moves_none n buf) → after ≡ before
not_ended n buf before after some says = says ∙ by (n == 0) (Decides-eqb n 0).0 before
  where
    by : (b : Bool) → (b ≡ true → n ≡ 0) → (e : Bool) → (e || (b && nat_lt 0 (length buf))) ≡ e
    by true none e = absurd (some (none refl))
    by false none true = refl
    by false none false = refl

-- an error reports no end
pub never_ended : (before after : Bool) → before ≡ false → after ≡ (before || false)
    → after ≡ false
never_ended before after none says = says ∙ ap (λ b. b || false) none

-- before the first byte no line has come, and none is begun
pub behind_begun : (T : Telling) (laws : IsTelling T) (given : List ℕ) (held : CutterView)
    (s : Script)
    (text : List ℕ) → given ≡ [] → held ≡ record { rest = []; dropping = false } → s ≡ empty_script
    → text ≡ [] → HasAnsweredLines T given held s text
behind_begun T laws given held s text eg eh es et =
    rw (eg, eh, es, et) (record { cuts = []; given = λ more. refl; tells = laws.none empty_script })

pub begun_held : (held : CutterView) → held ≡ record { rest = []; dropping = false }
    → HasNoWholeLine held
begun_held held e =
    rw e (record {
      no_newline = λ i lt e. absurd (omega (arith, lt));
      short = omega arith;
      dropped = λ d. refl;
    })

-- a read of no byte into a buffer that has room reports the end
pub has_ended : (n : ℕ) (buf : List ℕ) (before after : Bool) → n ≡ 0 → length buf ≡ 4096
    → after ≡ (before || moves_none n buf) → after ≡ true
has_ended n buf before after e room says =
    says ∙ (ap (λ k. before || moves_none k buf) e
    ∙ (ap (λ k. before || nat_lt 0 k) room ∙ by before))
  where
    by : (b : Bool) → (b || nat_lt 0 4096) ≡ true
    by true = refl
    by false = refl

pub done_if : {T E : Type 0} (P : Type 0) (r : Result T E) → P → OnOk r P
done_if P (Ok x) holds = holds
done_if P (Err e) holds = tt
