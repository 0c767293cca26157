use Rattle.std.proofs.Common.{◌∙◌, [], ◌∷◌, ◌++◌, ap, sym, arith, refl}
use Rattle.std.specs.Option.{option_copied}
use Rattle.pt_grammar.specs.Clients.{who_text}
use Rattle.pt_lines.specs.Replies.{sender}
use Rattle.pt_lines.proofs.AppendLemmas.{append-same, append-two}
use Rattle.pt_lines.proofs.reply.append_who.Goals as goal

pub returns-in-Some : goal.returns-in-Some
returns-in-Some g c =
    let out = c.args.out.now.items in
    let name = who_text c.in-Some.who.now in
    let named = c.append_filled.new.out.items in
    record {
      items =
          append-two out named c.push_reserved.new.self.items name (32 ∷ [])
          (append-same out out named _ name refl c.filled-len.ensures.bytes
          c.append_filled.ensures.items)
          c.push_reserved.ensures.items
          ∙ ap (λ who. out ++ sender (option_copied who)) (sym c.in-Some.is);
      within = omega arith;
      capacity = c.push_reserved.ensures.capacity ∙ c.append_filled.ensures.capacity;
    }
