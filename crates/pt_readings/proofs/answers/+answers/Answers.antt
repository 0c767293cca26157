use Rattle.std.proofs.Common.{sym, refl, ◌∙◌}
use Rattle.std.proofs.lemmas.Bool.{lt-ltb, le-ltb}
use Rattle.std.specs.Prelude.{nat_lt, ◌==◌, ◌&&◌}
use Rattle.pt_model.specs.WaitingCall.{is_barrier_wait}
use Rattle.pt_model.specs.Histories.{history}
use Rattle.pt_model.specs.Answers.{open_calls}
use Rattle.pt_model.proofs.Ascending.{passes_place}
use Rattle.pt_readings.proofs.Opens.{open-found, open-nowhere}
use Rattle.pt_readings.proofs.answers.+answers.Goals as goal

pub has_later-returns-then-is_later_at_barrier : goal.has_later-returns-then-is_later_at_barrier
has_later-returns-then-is_later_at_barrier t c =
    sym (open-found c.args.entries.now (λ w. nat_lt c.args.j w.place)
    (λ w. is_barrier_wait w.role && (w.object == c.args.b)) c.loop-i.i
    (sym c.is_later_at_barrier.ensures ∙ c.if-is_later_at_barrier.true))

pub has_later-returns : goal.has_later-returns
has_later-returns t c =
    sym (open-nowhere c.args.entries.now (λ w. nat_lt c.args.j w.place)
    (λ w. is_barrier_wait w.role && (w.object == c.args.b)) c.loop-i.i c.loop-i-test.false
    c.loop-i.invariant)

pub is_later_at_barrier-returns-then-j-i : goal.is_later_at_barrier-returns-then-j-i
is_later_at_barrier-returns-then-j-i t c =
    c.is_open_at_barrier.ensures
    ∙ sym (passes_place (λ w. is_barrier_wait w.role && (w.object == c.args.b)) c.args.j c.args.i
    (open_calls (history c.args.entries.now))
    ∙ rw (lt-ltb c.args.j c.args.i c.if-j-i.true) refl)

pub is_later_at_barrier-returns-else-j-i : goal.is_later_at_barrier-returns-else-j-i
is_later_at_barrier-returns-else-j-i t c =
    sym (passes_place (λ w. is_barrier_wait w.role && (w.object == c.args.b)) c.args.j c.args.i
    (open_calls (history c.args.entries.now))
    ∙ rw (le-ltb c.args.j c.args.i c.if-j-i.false) refl)
