use Rattle.std.proofs.Common.{◌∙◌, [], ◌∷◌, ◌++◌, ap, decimal}
use Rattle.std.specs.Option.{option_copied}
use Rattle.pt_lines.specs.Replies.{answer_word, sender}
use Rattle.pt_lines.proofs.AppendLemmas.{append-two, append-reply}
use Rattle.pt_lines.proofs.reply.append_other.Goals as goal

pub returns : goal.returns
returns g c =
    let out = c.args.out.now.items in
    let from = sender (option_copied c.args.who) in
    let word = answer_word c.args.word in
    let counted = c.append_number.new.out.items in
    let ended = c.append_word.new.out.items in
    ap (λ v. v.items) c.put_back.ensures
    ∙ append-reply out c.append_who.new.out.items counted ended from (decimal c.args.n) word
    (c.append_who.ensures.items ∙ ap (λ v. v.items ++ from) c.taken-text.ensures)
    c.append_number.ensures.items
    (append-two counted c.push_reserved.new.self.items ended (32 ∷ []) (word ++ 10 ∷ [])
    c.push_reserved.ensures.items c.append_word.ensures)
