-- Texts of answers.
use Rattle.std.proofs.Common.{◌≡◌, ℕ, ◌<◌, List, [], ◌∷◌, ◌++◌, length, refl, sym, ap}
use Rattle.std.proofs.Common.{◌∙◌, arith}
use Rattle.std.proofs.lemmas.List.{append_assoc}
use Rattle.pt_model.specs.Searches.{Each}
use Rattle.pt_model.specs.Records.{ReplyView}
use Rattle.pt_engine.specs.declared.line_id.LineId.{LineId}
use Rattle.pt_engine.specs.Scripts.{line_at, reply_text, replies_text}
use Rattle.pt_engine.specs.Engines.{IsLineOf, latest_line, latest_text}

-- the first of these answers, and then the others
pub latest_next : (asked : List (ℕ × LineId)) (out : List ℕ) (t : ReplyView) (ts : List ReplyView)
    → out ++ latest_text asked (t ∷ ts)
    ≡ (out ++ reply_text (latest_line asked t.client) t.outcome) ++ latest_text asked ts
latest_next asked out t ts = sym (append_assoc out _ (latest_text asked ts))

-- answers are under the lines of their calls if those are the stored lines
pub same_text : (asked calls : List (ℕ × LineId)) (ts : List ReplyView)
    → Each (λ t. IsLineOf asked calls t.client t.place) ts
    → latest_text asked ts ≡ replies_text calls ts
same_text asked calls [] each = refl
same_text asked calls (t ∷ ts) each =
    ap (λ o. reply_text o t.outcome ++ latest_text asked ts) (each.0.1.0 ∙ sym each.0.1.1)
    ∙ ap (λ xs. reply_text (line_at calls t.place) t.outcome ++ xs)
    (same_text asked calls ts each.1)

-- one answer fewer remains
pub fewer : {X : Type 0} (xs ys : List X) (x : X) → xs ≡ x ∷ ys → length ys < length xs
fewer xs ys x is = let more = ap length is in omega (arith, more)
