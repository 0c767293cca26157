-- WorkerResultLemmas: what was submitted and written when a working side ends.
use Rattle.std.proofs.Common.{◌≡◌, ℕ, suc, ◌+◌, ◌-◌, Bool, true, false, List, [], ◌∷◌, ◌++◌, length}
use Rattle.std.proofs.Common.{map, take, Option, Some, None, refl, sym, ap, ◌∙◌, subst}
use Rattle.std.proofs.Common.{append_assoc, append-nil, length-append, arith}
use Rattle.std.specs.Prelude.{if◌then◌else◌}
use Rattle.std.proofs.lemmas.List.{map-append}
use Rattle.std.proofs.Math.ListN.{length-map}
use Rattle.std.proofs.Math.Seq.{take-append_seam}
use mathlib.Core.List.{IsPrefix}
use Rattle.pt_lines.specs.declared.reply.Word.{Word}
use Rattle.pt_session.specs.Readings.{Reading}
use Rattle.pt_session.specs.Transcripts.{Exchange, all_answered, answer_line, lines_of_exchanges}
use Rattle.pt_session.specs.Transcripts.{text_from}
use Rattle.pt_session.specs.Transcripts.{text_of}
use Rattle.pt_session.specs.Outputs.{WorkerResult, OutputView, IsWorkerResult, IsTextBegun, StopsBy}
use Rattle.pt_session.specs.Outputs.{Works, worker_result}
use Rattle.pt_session.specs.declared.kinds.EndCause.{EndCause}
use Rattle.pt_session.specs.declared.kinds.EndCause.TheVariants.{InputEnded, InputFailed, RingFull}
use Rattle.pt_session.specs.declared.kinds.EndCause.TheVariants.{WriteFailed, GateShut, Memory}
use Rattle.pt_session.specs.Steps.{StopsWriting}

-- one more answer, to line j
text_push : (k : ℕ) (xs : List Exchange) (x : Exchange) (j : ℕ) → j ≡ k + length xs
    → text_from k (xs ++ x ∷ []) ≡ text_from k xs ++ answer_line j x.1
text_push k [] x j e =
    append-nil (answer_line k x.1) ∙ ap (λ i. answer_line i x.1) (same_number e)
  where
    same_number : j ≡ k + 0 → k ≡ j
    same_number h = omega (arith, h)
text_push k (y ∷ xs) x j e =
    ap (λ ys. answer_line k y.1 ++ ys) (text_push (suc k) xs x j (next e))
    ∙ sym (append_assoc (answer_line k y.1) (text_from (suc k) xs) (answer_line j x.1))
  where
    next : j ≡ k + suc (length xs) → j ≡ suc k + length xs
    next h = omega (arith, h)

-- one more line
pub lines_push : (xs : List Exchange) (x : Exchange)
    → lines_of_exchanges (xs ++ x ∷ []) ≡ lines_of_exchanges xs ++ x.0 ∷ []
lines_push xs x = map-append (λ y. y.0) xs (x ∷ [])

-- a line that was answered
pub all_push_some : (xs : List Exchange) (line : Reading) (w : Word) → all_answered xs ≡ true
    → all_answered (xs ++ (line, Some w) ∷ []) ≡ true
all_push_some [] line w h = refl
all_push_some ((l, None) ∷ xs) line w h = h
all_push_some ((l, Some v) ∷ xs) line w h = all_push_some xs line w h

-- a line that was not answered
all_push_none : (xs : List Exchange) (line : Reading)
    → all_answered (xs ++ (line, None) ∷ []) ≡ false
all_push_none [] line = refl
all_push_none ((l, None) ∷ xs) line = refl
all_push_none ((l, Some v) ∷ xs) line = all_push_none xs line

take_front : (xs : List Exchange) (ys : List Exchange) (n : ℕ) → length xs ≡ n
    → take n (xs ++ ys) ≡ xs
take_front xs ys n e = ap (λ k. take k (xs ++ ys)) (sym e) ∙ take-append_seam xs ys

take_all : (xs : List Exchange) (n : ℕ) → length xs ≡ n → take n xs ≡ xs
take_all xs n e = ap (take n) (sym (append-nil xs)) ∙ take_front xs [] n e

-- each line has its answer, and all answers went out whole
pub labour_whole : (xs : List Exchange) (n : ℕ) (received : List Reading) (o : OutputView)
    → length xs ≡ n → IsPrefix (lines_of_exchanges xs) received → o.taken ≡ text_of xs
    → o.flushed ≡ o.taken
    → IsWorkerResult (worker_result n n xs received o)
labour_whole xs n received o count lines taken flushed =
    let done = ap text_of (take_all xs n count) in
    record {
      lines = lines;
      submitted = sym count;
      flushed = flushed ∙ taken ∙ sym done;
      taken = record {
        front = [];
        rest = [];
        parts =
            sym done
            ∙ sym (append-nil (text_of (take n xs)))
            ∙ sym (append-nil (text_of (take n xs) ++ []));
        begun = taken ∙ sym done ∙ sym (append-nil (text_of (take n xs)));
      };
    }

-- the last line has no answer, or one that did not go out whole
pub labour_part : (xs : List Exchange) (x : Exchange) (n : ℕ) (received : List Reading)
    (o : OutputView) (front rest : List ℕ) → length xs ≡ n → received ≡ lines_of_exchanges (xs ++ x
    ∷ [])
    → answer_line (n + 1) x.1 ≡ front ++ rest → o.taken ≡ text_of xs ++ front
    → o.flushed ≡ text_of xs
    → IsWorkerResult (worker_result (n + 1) n (xs ++ x ∷ []) received o)
labour_part xs x n received o front rest count lines parts taken flushed =
    let done = ap text_of (take_front xs (x ∷ []) n count) in
    record {
      lines = ([], append-nil (lines_of_exchanges (xs ++ x ∷ [])) ∙ sym lines);
      submitted = omega (arith, count, length-append xs (x ∷ []));
      flushed = flushed ∙ sym done;
      taken = record {
        front = front;
        rest = rest;
        parts =
            text_push 1 xs x (n + 1) (omega (arith, count))
            ∙ ap (λ ys. text_of xs ++ ys) parts
            ∙ sym (append_assoc (text_of xs) front rest)
            ∙ ap (λ ys. ys ++ front ++ rest) (sym done);
        begun = taken ∙ ap (λ ys. ys ++ front) (sym done);
      };
    }

-- the text after one more answer
pub text_more : (xs : List Exchange) (x : Exchange) (n : ℕ) → length xs ≡ n
    → text_of (xs ++ x ∷ []) ≡ text_of xs ++ answer_line (n + 1) x.1
text_more xs x n count = text_push 1 xs x (n + 1) (omega (arith, count))

-- the input has ended, and each line was answered
pub stops_whole : (xs : List Exchange) (n : ℕ) (received : List Reading) (o : OutputView)
    → received ≡ lines_of_exchanges xs → all_answered xs ≡ true → Works o
    → StopsBy (worker_result n n xs received o) None
stops_whole xs n received o lines all works =
    let none = ap {B = ℕ} (λ b. if b then 0 else 1) all in
    (lines, works, omega (arith, none))

-- the input has ended, and the last call is open
pub stops_open : (xs : List Exchange) (line : Reading) (n : ℕ) (received : List Reading)
    (o : OutputView) → received ≡ lines_of_exchanges (xs ++ (line, None) ∷ []) → Works o
    → StopsBy (worker_result (n + 1) n (xs ++ (line, None) ∷ []) received o) None
stops_open xs line n received o lines works =
    let one = ap {B = ℕ} (λ b. if b then 0 else 1) (all_push_none xs line) in
    (lines, works, omega (arith, one))

-- the gate did not let a line through
pub stops_shut : (xs : List Exchange) (line : Reading) (n : ℕ) (received : List Reading)
    (o : OutputView) → length xs ≡ n → received ≡ lines_of_exchanges xs ++ line ∷ [] → Works o
    → StopsBy (worker_result n n xs received o) (Some GateShut)
stops_shut xs line n received o count lines works =
    let all = ap length lines ∙ length-append (lines_of_exchanges xs) (line ∷ []) in
    let each : length (lines_of_exchanges xs) ≡ length xs = simp length-map in
    (omega (arith, all, each, count), works, refl)

-- the last answer did not go out whole
pub labour_stopped : (xs : List Exchange) (x : Exchange) (n : ℕ) (received : List Reading)
    (o written : OutputView) (cause : EndCause) → length xs ≡ n
    → received ≡ lines_of_exchanges (xs ++ x ∷ []) → o.taken ≡ written.taken
    → o.flushed ≡ written.flushed
    → StopsWriting (text_of xs) (answer_line (n + 1) x.1) written cause
    → IsWorkerResult (worker_result (n + 1) n (xs ++ x ∷ []) received o)
labour_stopped xs x n received o written Memory count lines taken flushed stops =
    labour_part xs x n received o [] (answer_line (n + 1) x.1) count lines refl
    (taken ∙ stops.taken ∙ sym (append-nil (text_of xs))) (flushed ∙ stops.flushed)
labour_stopped xs x n received o written WriteFailed count lines taken flushed stops =
    labour_part xs x n received o stops.front stops.rest count lines stops.parts
    (taken ∙ stops.taken) (flushed ∙ stops.flushed)
labour_stopped xs x n received o written InputEnded count lines taken flushed stops = absurd stops
labour_stopped xs x n received o written InputFailed count lines taken flushed stops = absurd stops
labour_stopped xs x n received o written RingFull count lines taken flushed stops = absurd stops
labour_stopped xs x n received o written GateShut count lines taken flushed stops = absurd stops

-- the last answer did not go out, or only in part
pub stops_stopped : (xs : List Exchange) (n : ℕ) (received : List Reading) (o : OutputView)
    (old line : List ℕ) (cause : EndCause) → received ≡ lines_of_exchanges xs
    → StopsWriting old line o cause → StopsBy (worker_result (n + 1) n xs received o) (Some cause)
stops_stopped xs n received o old line Memory lines stops =
    (lines, (stops.taken ∙ sym stops.flushed, stops.failures, stops.rejections), refl)
stops_stopped xs n received o old line WriteFailed lines stops = (lines, stops.cause, refl)
stops_stopped xs n received o old line InputEnded lines stops = absurd stops
stops_stopped xs n received o old line InputFailed lines stops = absurd stops
stops_stopped xs n received o old line RingFull lines stops = absurd stops
stops_stopped xs n received o old line GateShut lines stops = absurd stops

-- a count did not grow
pub none_more : (n m : ℕ) → n ≡ m → n - m ≡ 0
none_more n m e = omega arith

-- one more line
pub more_counted : (xs : List Exchange) (x : Exchange) (n : ℕ) → length xs ≡ n
    → length (xs ++ x ∷ []) ≡ n + 1
more_counted xs x n count = omega (arith, count, length-append xs (x ∷ []))
