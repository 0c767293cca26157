use Rattle.std.proofs.Common.{◌∙◌, [], ◌∷◌, ◌++◌, ap, decimal}
use Rattle.pt_lines.proofs.AppendLemmas.{append-same, append-two, append-reply}
use Rattle.pt_lines.proofs.reply.append_done.Goals as goal

pub returns : goal.returns
returns g c =
    let out = c.args.out.now.items in
    let name = c.args.name.now in
    let named = c.append_filled.new.out.items in
    let spaced = c.push_reserved.new.self.items in
    let begun =
    append-same c.taken-text.result.items out named _ name
    (ap (λ v. v.items) c.taken-text.ensures) c.filled-len.ensures.bytes
    c.append_filled.ensures.items in
    ap (λ v. v.items) c.put_back.ensures
    ∙ append-reply out spaced c.append_number.new.out.items c.append_filled-2.new.out.items
    (name ++ 32 ∷ []) (decimal c.args.n) (48 ∷ [])
    (append-two out named spaced name (32 ∷ []) begun c.push_reserved.ensures.items)
    c.append_number.ensures.items c.append_filled-2.ensures.items
