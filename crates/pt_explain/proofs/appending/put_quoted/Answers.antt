use Rattle.std.proofs.Common.{◌≡◌, ◌++◌, true, refl, sym, subst}
use Rattle.std.proofs.lemmas.List.{take_rest}
use Rattle.std.proofs.Common.{length}
use Rattle.pt_explain.specs.Explanations.{quoted}
use Rattle.pt_explain.proofs.Quotes.{is_left, less_left, quoted_end, quoted_next}
use Rattle.pt_explain.proofs.appending.put_quoted.Goals as goal

pub loop-rest-init : goal.loop-rest-init
loop-rest-init g c = refl

pub loop-rest-preserved : goal.loop-rest-preserved
loop-rest-preserved g c =
    let rest = c.loop-rest.rest.now in
    let n = c.first_len-len.result in
    let text = c.args.out.now.items ++ quoted true c.args.answers.now in
    let new = c.put-in-loop-rest.new.out.items in
    subst (λ r. new ++ quoted true r ≡ text) (sym (take_rest rest n))
    (quoted_next rest c.loop-rest.out.items c.put.new.out.items new text n
    (c.first_len-len.ensures.line (is_left (length rest) c.loop-rest-test.ensures))
    c.in_ok-put.ensures.ok c.in_ok-put-2.ensures.ok c.loop-rest.invariant)

pub loop-rest-smaller : goal.loop-rest-smaller
loop-rest-smaller g c =
    let rest = c.loop-rest.rest.now in
    let some = is_left (length rest) c.loop-rest-test.ensures in
    less_left rest c.first_len-len.result (c.first_len-len.ensures.some some) some

pub returns-clause-ok : goal.returns-clause-ok
returns-clause-ok g c =
    quoted_end c.loop-rest.rest.now c.loop-rest.out.items
    (c.args.out.now.items ++ quoted true c.args.answers.now) c.loop-rest-test.ensures
    c.loop-rest.invariant
