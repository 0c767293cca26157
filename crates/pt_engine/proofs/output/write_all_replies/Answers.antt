use Rattle.std.proofs.Common.{ℕ, List, ◌++◌, sym, ap, ◌∙◌}
use Rattle.pt_legal.specs.Replies.{reply_view}
use Rattle.pt_engine.specs.declared.line_id.LineId.{LineId}
use Rattle.pt_engine.specs.Engines.{latest_text, own_first}
use Rattle.pt_engine.proofs.Texts.{fewer, latest_next}
use Rattle.pt_engine.proofs.output.write_all_replies.Goals as goal

pub loop-reply-preserved : goal.loop-reply-preserved
loop-reply-preserved g c =
    let lines : List (ℕ × LineId) =
    own_first c.args.mark.now c.args.line.now c.args.pending.now.entries in
    let out = c.loop-reply.out.items in
    c.loop-reply.invariant
    ∙ ap (λ ts. out ++ latest_text lines ts) c.in-Some.ensures
    ∙ latest_next lines out (reply_view c.in-Some.reply) c.next.new.self
    ∙ ap (λ xs. xs ++ latest_text lines c.next.new.self) (sym c.in_ok-write_one_reply.ensures.ok)

pub loop-reply-smaller : goal.loop-reply-smaller
loop-reply-smaller g c =
    fewer c.loop-reply.answers c.next.new.self (reply_view c.in-Some.reply) c.in-Some.ensures
