use Rattle.std.proofs.Common.{◌≡◌, ◌<◌, ◌≤◌, ◌+◌, ◌∙◌, ℕ, List, [], ◌∷◌, ◌++◌, length, take, get_or}
use Rattle.std.proofs.Common.{refl}
use Rattle.std.proofs.Common.{Bool, true, false, cond, ap, sym, append_assoc, arith}
use Rattle.std.proofs.lemmas.List.{append-nil, take_more, take_all, flat_map_more}
use Rattle.std.specs.List.{flat_map}
use Rattle.pt_grammar.specs.declared.cut.Cut.{Cut}
use Rattle.pt_grammar.specs.Lines.{lines, lines_after_newline, lines_to_come, CutterView}
use Rattle.pt_grammar.specs.Lines.{HasNoWholeLine}
use Rattle.pt_lines.proofs.cutter.cut_all.Goals as goal
use Rattle.pt_lines.proofs.cutter.cut_all.Goals.{in-Some-finish+else-is_err-2, in_default-finish}

-- these lines were given for these bytes, and a cutter that holds the rest gives the others
abbrev Given : List ℕ → List Cut → CutterView → Type 0
Given bytes cuts held = (more : List ℕ) → lines (bytes ++ more) ≡ cuts ++ lines_to_come held more

-- after one more piece is fed
given-fed :
    {X : Type 0} (text : X → List ℕ) (pieces : List X) (i : ℕ) (d : X) (cuts : List Cut)
    (old new : CutterView) → i < length pieces → Given (flat_map text (take i pieces)) cuts old
    → new ≡ record { rest = old.rest ++ text (get_or pieces i d); dropping = old.dropping }
    → Given (flat_map text (take (i + 1) pieces)) cuts new
given-fed text pieces i d cuts old new lt given fed more =
    let piece = text (get_or pieces i d) in
    let before = flat_map text (take i pieces) in
    ap (λ ps. lines (flat_map text ps ++ more)) (take_more pieces i d lt)
    ∙ ap (λ bytes. lines (bytes ++ more))
    (sym (flat_map_more text [] (take i pieces) (get_or pieces i d)))
    ∙ ap lines (append_assoc before piece more)
    ∙ given (piece ++ more)
    ∙ ap (λ bytes. cuts ++ cond old.dropping (lines_after_newline bytes) (lines bytes))
    (sym (append_assoc old.rest piece more))
    ∙ ap (λ held. cuts ++ lines_to_come held more) (sym fed)

-- a push that was not refused added the line
pushed :
    (done : Bool) (cuts all : List Cut) (cut : Cut)
    → all ≡ cond done (cuts ++ cut ∷ []) cuts → done ≡ true → all ≡ cuts ++ cut ∷ []
pushed done cuts all cut is held = is ∙ ap (λ b. cond b (cuts ++ cut ∷ []) cuts) held

-- after one more line is given
given-line :
    (bytes : List ℕ) (cuts all : List Cut) (cut : Cut) (old new : CutterView) → Given bytes cuts old
    → ((more : List ℕ) → lines_to_come old more ≡ cut ∷ lines_to_come new more)
    → all ≡ cuts ++ cut ∷ [] → Given bytes all new
given-line bytes cuts all cut old new given next is more =
    given more
    ∙ ap (λ rest. cuts ++ rest) (next more)
    ∙ sym (append_assoc cuts (cut ∷ []) (lines_to_come new more))
    ∙ ap (λ ls. ls ++ lines_to_come new more) (sym is)

-- after no line is given
given-none :
    (bytes : List ℕ) (cuts : List Cut) (old new : CutterView) → Given bytes cuts old
    → ((more : List ℕ) → lines_to_come old more ≡ lines_to_come new more) → Given bytes cuts new
given-none bytes cuts old new given same more =
    given more ∙ ap (λ rest. cuts ++ rest) (same more)

-- all pieces were fed, and these are the last lines
given-all :
    {X : Type 0} (text : X → List ℕ) (pieces : List X) (i : ℕ) (cuts rest : List Cut)
    (held : CutterView) → length pieces ≤ i → Given (flat_map text (take i pieces)) cuts held
    → lines_to_come held [] ≡ rest → cuts ++ rest ≡ lines (flat_map text pieces)
given-all text pieces i cuts rest held le given last =
    ap (λ ls. cuts ++ ls) (sym last)
    ∙ sym (given [])
    ∙ ap lines (append-nil (flat_map text (take i pieces)))
    ∙ ap (λ ps. lines (flat_map text ps)) (take_all i pieces le)

-- nothing was fed
given-empty :
    (cuts : List Cut) (held : CutterView) → cuts ≡ [] → held
    ≡ record { rest = []; dropping = false }
    → Given [] cuts held × HasNoWholeLine held
given-empty cuts held none new = (
  λ more. ap (λ h. lines_to_come h more) (sym new)
      ∙ ap (λ cs. cs ++ lines_to_come held more) (sym none),
  begun held (ap (λ (h : CutterView). h.rest) new),
)
  where
    begun : (held : CutterView) → held.rest ≡ [] → HasNoWholeLine held
    begun held empty =
        let none : length held.rest ≡ 0 = ap length empty in
        record {
          no_newline = λ i lt. absurd (omega arith);
          short = omega arith;
          dropped = λ _. empty;
        }

pub loop-cut-preserved : goal.loop-cut-preserved
loop-cut-preserved g c =
    given-line
    (flat_map (λ piece. piece.now) (take (c.loop-piece.piece-index + 1) c.args.pieces.now))
    c.loop-cut.cuts.items c.push.new.self.items c.in-Some.cut c.loop-cut.cutter
    c.next_line.new.self c.loop-cut.invariant c.in-Some.ensures.given
    (pushed _ c.loop-cut.cuts.items c.push.new.self.items c.in-Some.cut c.push.ensures.items
    c.if-is_err.ensures.negation)

pub loop-cut-init : goal.loop-cut-init
loop-cut-init g c =
    given-fed (λ piece. piece.now) c.args.pieces.now c.loop-piece.piece-index _
    c.loop-piece.cuts.items c.loop-piece.cutter c.feed.new.self c.loop-piece-test.true
    c.loop-piece.invariant.0 c.in_ok-feed.ensures.ok

pub loop-cut-smaller : goal.loop-cut-smaller
loop-cut-smaller g c = c.in-Some.ensures.fewer

pub loop-piece-preserved : goal.loop-piece-preserved
loop-piece-preserved g c = (
  given-none
      (flat_map (λ piece. piece.now) (take (c.loop-piece.piece-index + 1) c.args.pieces.now))
      c.loop-cut.cuts.items c.loop-cut.cutter c.next_line.new.self c.loop-cut.invariant
      c.in_default.ensures.given,
  c.in_default.ensures.none,
)

pub loop-piece-init : goal.loop-piece-init
loop-piece-init g c =
    given-empty c.new-cuts.result.items c.new-cutter.result c.new-cuts.ensures.items
    c.new-cutter.ensures

pub returns : goal.returns
returns g c =
    let cuts = c.loop-piece.cuts.items in
    let all =
    given-all (λ piece. piece.now) c.args.pieces.now c.loop-piece.piece-index cuts _
    c.loop-piece.cutter c.loop-piece-test.false c.loop-piece.invariant.0 c.finish.ensures in
    record {
      ok = elim c.match-finish.branch [
        | in-Some-finish+else-is_err-2 w ↦ ap (λ v. v.items) w.cuts-is
            ∙ pushed _ cuts w.push-in-Some-finish.new.self.items w.in-Some-finish.cut
            w.push-in-Some-finish.ensures.items w.if-is_err-2.ensures.negation
            ∙ ap (λ ls. cuts ++ ls) (sym w.in-Some-finish.ensures ∙ c.finish.ensures)
            ∙ all
        | in_default-finish w ↦ ap (λ v. v.items) w.cuts-is
            ∙ sym (append-nil cuts)
            ∙ ap (λ ls. cuts ++ ls) (sym w.in_default-finish.ensures ∙ c.finish.ensures)
            ∙ all
      ];
      err = tt;
    }

pub returns-then-is_err-clause-ok : goal.returns-then-is_err-clause-ok
returns-then-is_err-clause-ok g c = tt

pub returns-then-is_err-clause-err : goal.returns-then-is_err-clause-err
returns-then-is_err-clause-err g c = refl
