use Rattle.std.proofs.Common.{◌+◌, Bool, cond, [], ◌++◌, ap, sym, ◌∙◌}
use Rattle.pt_history.proofs.Views.{from-zero}
use Rattle.pt_history.proofs.memory.take_memory.Goals as goal

pub returns-then-is_ok-clause-items : goal.returns-then-is_ok-clause-items
returns-then-is_ok-clause-items g c =
    let mine = c.clear.new.self.items in
    let its = c.args.list.now.items in
    c.append.ensures.items
    ∙ (ap (λ (b : Bool). cond b (mine ++ its) mine) (sym c.if-is_ok.ensures.value)
    ∙ ap (λ xs. xs ++ its) c.clear.ensures.items)

pub returns-else-is_ok-clause-items : goal.returns-else-is_ok-clause-items
returns-else-is_ok-clause-items g c =
    c.append.ensures.other_items
    ∙ ap (λ (b : Bool). cond b [] c.args.list.now.items) (sym c.if-is_ok.ensures.value)

pub returns-else-is_ok-clause-len : goal.returns-else-is_ok-clause-len
returns-else-is_ok-clause-len g c =
    c.append.ensures.other_len
    ∙ ap (λ (b : Bool). cond b 0 c.args.list.now.len) (sym c.if-is_ok.ensures.value)

pub returns-then-is_ok-clause-len : goal.returns-then-is_ok-clause-len
returns-then-is_ok-clause-len g c =
    let mine = c.clear.new.self.len in
    let its = c.args.list.now.len in
    sym (from-zero its c.append.new.self.len
    (sym (c.append.ensures.len
    ∙ (ap (λ (b : Bool). cond b (mine + its) mine) (sym c.if-is_ok.ensures.value)
    ∙ ap (λ n. n + its) c.clear.ensures.len))))
