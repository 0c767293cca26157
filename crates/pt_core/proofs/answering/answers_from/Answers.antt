use Rattle.std.proofs.Common.{◌≡◌, ◌<◌, List, [], ◌∷◌, ◌++◌, Bool, true, cond, map, length, sym}
use Rattle.std.proofs.Common.{ap, ◌∙◌, append_assoc, arith}
use Rattle.std.proofs.lemmas.List.{append-nil, map-append}
use Rattle.pt_records.specs.declared.answers.Answered.{Answered}
use Rattle.pt_records.specs.Logs.{log_entry}
use Rattle.pt_legal.specs.declared.applied.Reply.{Reply}
use Rattle.pt_legal.specs.Replies.{reply_view}
use Rattle.pt_core.proofs.answering.answers_from.Goals as goal

-- the first answer that is left becomes the last reply
moved : (xs items : List Reply) (r : Reply) (a : Answered) (left after : List Answered) (b : Bool)
    → true ≡ b → items ≡ cond b (xs ++ r ∷ []) xs → reply_view r ≡ (log_entry a).1 → left ≡ a
    ∷ after
    → map reply_view items ++ map (λ x. (log_entry x).1) after
    ≡ map reply_view xs ++ map (λ x. (log_entry x).1) left
moved xs items r a left after b eb ei er el =
    let rest = map (λ (x : Answered). (log_entry x).1) after in
    ap (λ l. map reply_view l ++ rest) (ei ∙ ap (λ y. cond y (xs ++ r ∷ []) xs) (sym eb))
    ∙ (ap (λ l. l ++ rest) (map-append reply_view xs (r ∷ []))
    ∙ (append_assoc (map reply_view xs) (reply_view r ∷ []) rest
    ∙ (ap (λ t. map reply_view xs ++ t ∷ rest) er
    ∙ ap (λ l. map reply_view xs ++ map (λ x. (log_entry x).1) l) (sym el))))

shorter : (left after : List Answered) (a : Answered) → left ≡ a ∷ after
    → length after < length left
shorter left after a e = omega (arith, ap length e)

pub loop-answered-preserved : goal.loop-answered-preserved
loop-answered-preserved g c =
    moved c.loop-answered.replies.items c.push.new.self.items c.reply.result c.in-Some.answered
    c.loop-answered.left c.next.new.self _ c.in_ok-map_err.ensures.variant c.push.ensures.items
    c.reply.ensures c.in-Some.ensures
    ∙ c.loop-answered.invariant

pub loop-answered-smaller : goal.loop-answered-smaller
loop-answered-smaller g c =
    shorter c.loop-answered.left c.next.new.self c.in-Some.answered c.in-Some.ensures

pub returns-clause-ok : goal.returns-clause-ok
returns-clause-ok g c =
    let replies = map reply_view c.loop-answered.replies.items in
    sym (ap (λ (l : List Answered). replies ++ map (λ x. (log_entry x).1) l) c.in_default.ensures.0
    ∙ append-nil replies)
    ∙ c.loop-answered.invariant
