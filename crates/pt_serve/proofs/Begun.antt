-- Texts that a writer took in part.
use Rattle.std.specs.Prelude.{Result, Ok, Err, OnOk, OnErr}
use Rattle.std.proofs.Common.{◌≡◌, ℕ, ◌-◌, ◌≤◌, List, [], ◌++◌, length, take, drop}
use Rattle.std.proofs.Common.{append_assoc, append-nil, sym, ap, subst, refl, ◌∙◌, arith}
use Rattle.std.proofs.Common.{length-append, length-drop, take_all, inl, inr}
use Rattle.std.proofs.lemmas.List.{take-append-drop, take-append-le, drop-append-le}
use Rattle.std.proofs.Math.Seq.{take-append_seam, drop-append_seam}
use Rattle.pt_session.specs.Outputs.{IsBroken, IsPartlyTaken, OutputView}
use Rattle.pt_serve.specs.Served.{IsReported, IsServiceBegun, closed_line, ready_line}

-- the bytes by which a text grew, and those that remain
pub begun : (old bytes text rest : List ℕ) → text ++ rest ≡ old ++ bytes
    → length old ≤ length text → IsPartlyTaken old bytes text
begun old bytes text rest joins grows = record {
  front = drop (length old) text;
  rest = rest;
  parts =
      sym (drop-append_seam old bytes)
      ∙ ap (drop (length old)) (sym joins)
      ∙ drop-append-le (length old) text rest grows;
  taken =
      sym (take-append-drop (length old) text)
      ∙ ap (λ xs. xs ++ drop (length old) text)
      (sym (take-append-le (length old) text rest grows)
      ∙ ap (take (length old)) joins
      ∙ take-append_seam old bytes);
}

-- what was taken and what remains, after some more is taken
pub joined : (old bytes text new rest : List ℕ) (n : ℕ) → new ≡ text ++ take n rest
    → text ++ rest ≡ old ++ bytes
    → new ++ take (length rest - n) (drop n rest) ≡ old ++ bytes
joined old bytes text new rest n more joins =
    ap (λ xs. new ++ xs)
    (take_all (length rest - n) (drop n rest) (omega (arith, length-drop n rest)))
    ∙ (ap (λ xs. xs ++ drop n rest) more
    ∙ (append_assoc text (take n rest) (drop n rest)
    ∙ (ap (λ xs. text ++ xs) (take-append-drop n rest)
    ∙ joins)))

-- what was taken only grows
pub grown : (old text new more : List ℕ) → new ≡ text ++ more → length old ≤ length text
    → length old ≤ length new
grown old text new more adds grows = omega (arith, ap length adds, length-append text more)

-- the same with an equal text
pub begun_same : (old bytes text new : List ℕ) → IsPartlyTaken old bytes text → new ≡ text
    → IsPartlyTaken old bytes new
begun_same old bytes text new b same = subst (IsPartlyTaken old bytes) (sym same) b

-- a server that has written no line
pub none_begun : (old : List ℕ) → IsServiceBegun old old
none_begun old = record {
  outer = 0;
  begun = record {
    front = [];
    rest = ready_line ++ closed_line 0;
    parts = refl;
    taken = sym (append-nil old);
  };
}

-- a server that writes its first line
pub ready_begun : (old text : List ℕ) → IsPartlyTaken old ready_line text → IsServiceBegun old text
ready_begun old text b = record {
  outer = 0;
  begun = record {
    front = b.front;
    rest = b.rest ++ closed_line 0;
    parts = ap (λ xs. xs ++ closed_line 0) b.parts ∙ append_assoc b.front b.rest (closed_line 0);
    taken = b.taken;
  };
}

-- a server that writes its last line
pub closed_begun : (old text : List ℕ) (outer : ℕ)
    → IsPartlyTaken (old ++ ready_line) (closed_line outer) text → IsServiceBegun old text
closed_begun old text n b = record {
  outer = n;
  begun = record {
    front = ready_line ++ b.front;
    rest = b.rest;
    parts = ap (λ xs. ready_line ++ xs) b.parts ∙ sym (append_assoc ready_line b.front b.rest);
    taken = b.taken ∙ append_assoc old ready_line b.front;
  };
}

-- a statement that holds anyway holds if there is an error
pub on_err : {T E : Type 0} (r : Result T E) (P : Type 0) → P → OnErr r P
on_err (Ok x) P p = tt
on_err (Err e) P p = p

-- a line is written and flushed, or the writer broke
pub reported : {T E : Type 0} (F R : Type 0) (r : Result T E) (old line : List ℕ) (o : OutputView)
    → OnOk r ((o.taken ≡ old ++ line) × (o.flushed ≡ o.taken) × F × R)
    → IsPartlyTaken old line o.taken → OnErr r (IsBroken o.failures o.rejections)
    → IsReported old line o
reported F R (Ok x) old line o told cut broke = inl (told.0, told.1 ∙ told.0)
reported F R (Err e) old line o told cut broke = inr (cut, broke)
