use Rattle.std.proofs.Common.{sym, ◌∙◌, None}
use Rattle.std.proofs.lemmas.Bool.{false≢true}
use Rattle.pt_timers.specs.Deadlines.{timer_key}
use Rattle.pt_timers.specs.Orders.{is_due_at, timer_list}
use Rattle.pt_timers.proofs.TimerLemmas.{found-at, timers-of}
use Rattle.pt_timers.proofs.timers.Timers.new.Goals as goal

pub invariant_of-result : goal.invariant_of-result
invariant_of-result g c =
    timers-of c.new.result
    (λ k l a b h i at. absurd (false≢true (sym (c.new.ensures k a) ∙ h)))
    (λ k q h. absurd (false≢true (sym (c.new.ensures k q) ∙ h)))

pub returns : goal.returns
returns g c p =
    let o = c.new.result in
    found-at (timer_list o) (is_due_at o) (invariant_of-result g c) p None (λ k n e. absurd cc)
    (λ k n h. absurd (false≢true (sym (c.new.ensures k (timer_key n p)) ∙ h)))
