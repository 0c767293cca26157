use Rattle.std.proofs.Common.{not, rules}
use Rattle.std.proofs.lemmas.Fn.{filter_same}
use Rattle.std.specs.BinaryHeap.{heap_items}
use Rattle.pt_timers.specs.Deadlines.{same_key}
use Rattle.pt_timers.proofs.KeyLemmas.{others-stay}
use Rattle.pt_timers.proofs.keys.drop_key.Goals as goal

pub returns-clause-left : goal.returns-clause-left
returns-clause-left g c =
    let kept = c.retain.ensures.filtered in
    others-stay c.args.key.now (heap_items c.args.keys.now) kept.0 (heap_items c.retain.new.self)
    (filter_same _ (λ k. not (same_key k c.args.key.now)) _ (λ x b f k. search rules) _ _ kept.1)
    kept.2
