use Rattle.std.proofs.Common.{◌≡◌, length, arith}
use Rattle.pt_history.proofs.Growing.{shows-appended, at_end, within_end, append-whole}
use Rattle.pt_history.proofs.records.Records.store_whole.Goals as goal

pub returns : goal.returns
returns g c =
    let old = c.args.self.now in
    let n : c.len-index.result ≡ length old.wholes.items = omega (arith, old.wholes.ok.0) in
    let e = c.push_reserved.ensures.items in
    shows-appended _ _ _ _ _ _
    (append-whole old c.push_reserved.new.self c.args.entry e c.push_reserved.ensures.len
    c.push_reserved.ensures.capacity)
    (at_end _ _ _ _ _ e n) (within_end _ _ _ _ e n)
