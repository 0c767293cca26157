use Rattle.std.proofs.Common.{ℕ, ◌+◌, ◌<◌, ◌≤◌, ap, sym, ◌∙◌, length, subst, arith}
use Rattle.pt_model.specs.Histories.{History}
use Rattle.pt_model.specs.Room.{entry_for}
use Rattle.pt_state.specs.Adds.{Adds, history_of}
use Rattle.pt_machine.proofs.UnsealedMachines.{history_of-renewed}
use Rattle.pt_model.specs.Answers.{entry_replies}
use Rattle.pt_model.specs.Steps.{Step}
use Rattle.pt_machine.proofs.machine.Machine.push_outer_sealed.Goals as goal

pub returns-in-Ok : goal.returns-in-Ok
returns-in-Ok g c = record {
  ok = let sealed = c.seal_with_room.new.self in
      record {
        sealed = sealed;
        seals = c.in_ok-before.ensures.ok;
        adds = subst (λ (h : History). Adds sealed (entry_for h c.args.event.now)
            c.push_outer.new.self)
            (history_of-renewed c.args.self.now sealed c.args.room c.in_ok-before.ensures.ok)
            c.in-Ok.ensures.ok;
      };
  unchanged = tt;
  err = tt;
}

pub returns-in-Err : goal.returns-in-Err
returns-in-Err g c = record {
  ok = tt;
  unchanged = record {
    stored = c.unseal.ensures.stored ∙ c.in_ok-before.ensures.stored;
    read = c.unseal.ensures.read;
    has_capacity = ap (λ a. a.capacity) (c.unseal.ensures.answers ∙ c.in_ok-before.ensures.answers);
    replies = ap (λ a. length a.items) (c.unseal.ensures.answers ∙ c.in_ok-before.ensures.answers);
  };
  err = c.in-Err.ensures.err;
}

pub plan-plan-requires-clause-step : goal.plan-plan-requires-clause-step
plan-plan-requires-clause-step g c =
    subst (λ (h : History). Step h (entry_for h c.args.event.now))
    (sym (history_of-renewed c.args.self.now c.seal_with_room.new.self c.args.room
    c.in_ok-before.ensures.ok))
    c.requires.step

pub push_outer-requires-clause-planned : goal.push_outer-requires-clause-planned
push_outer-requires-clause-planned g c = c.plan-plan.ensures.planned

-- no answer is stored yet, and there is memory for as many as may come
spare-sealed : (n room capacity : ℕ) → n ≤ room → room ≤ capacity → 0 + n ≤ capacity
spare-sealed n room capacity few has_capacity = omega arith

pub push_outer-requires-clause-has_room : goal.push_outer-requires-clause-has_room
push_outer-requires-clause-has_room g c =
    let e = c.args.event.now in
    let sealed = c.seal_with_room.new.self in
    let seals = c.in_ok-before.ensures.ok in
    let begins = history_of-renewed c.args.self.now sealed c.args.room seals in
    record {
      read = seals.read;
      step = subst (λ (h : History). Step h (entry_for h e)) (sym begins) c.requires.step;
      room = subst (λ n. 0 < n) (sym seals.room) c.requires.some;
      spare = subst (λ n. n + length (entry_replies (history_of sealed) (entry_for
          (history_of sealed) e))
          ≤ sealed.answers.capacity) (sym seals.answers)
          (spare-sealed _ _ _ (subst (λ (h : History). length (entry_replies h (entry_for h e))
          ≤ c.args.room) (sym begins) c.requires.spare) seals.has_capacity);
    }
