use Rattle.std.proofs.Common.{◌≡◌, Option, ℕ, sym, ap, ◌∙◌}
use Rattle.std.specs.Prelude.{option_map}
use Rattle.std.specs.Option.{option_copied}
use Rattle.pt_table.specs.ClientRows.{client_value}
use Rattle.pt_model.specs.Answers.{open_place}
use Rattle.pt_records.specs.declared.clients.Open.{Open}
use Rattle.pt_records.specs.Callers.{open_in}
use Rattle.pt_state.specs.declared.state.State.{State}
use Rattle.pt_state.specs.Adds.{history_of}
use Rattle.pt_state.specs.Reads.{AreTables}
use Rattle.pt_state.proofs.Requested.{open_place-kept}
use Rattle.pt_machine.proofs.OpenPlaces.{client-in}
use Rattle.pt_machine.proofs.TimedStates.{own-deadlines, timed-death, timed-death-free}
use Rattle.pt_machine.proofs.push.push_death.Goals as goal
use Rattle.pt_machine.proofs.push.push_death.Goals.{in-Some, in_default}

-- the place of the open call that is found
placed : {A : Type 0} (s : State A) → AreTables s → (c : ℕ) (found : Option Open)
    → found ≡ open_in (client_value s.clients c)
    → option_map (λ (o : Open). o.call.place) found ≡ open_place (history_of s) c
placed s read c found e =
    ap (option_map (λ (o : Open). o.call.place)) e
    ∙ open_place-kept (history_of s) s.clients read.callers c

pub drop_deadline-requires : goal.drop_deadline-requires
drop_deadline-requires g c =
    let s = c.args.state.now in
    let o = c.in-Some.open.now in
    own-deadlines s c.args.timers.now c.requires.can.ready.read c.requires.timed o
    (client-in s.clients c.args.c o
    (sym c.open_of.ensures ∙ ap option_copied c.in-Some.is))

-- the deadline of its open call is dropped, if it has one
pub returns : goal.returns
returns g c = record {
  pushes = c.push_death.ensures;
  timed = let s = c.args.state.now in
      let its = placed s c.requires.can.ready.read c.args.c (option_copied c.open_of.result)
      c.open_of.ensures in
      elim c.match-open_of.branch [
        | in-Some w ↦ rw w.timers-is
            (timed-death s c.push_death.new.state c.args.timers.now w.drop_deadline.new.timers
            c.requires.can.ready.read c.requires.timed c.args.c w.in-Some.open.now.call.place
            c.push_death.ensures.adds
            (sym its ∙ ap (λ r. option_map (λ (o : Open). o.call.place) (option_copied r))
            w.in-Some.is)
            w.drop_deadline.ensures)
        | in_default w ↦ rw w.timers-is
            (timed-death-free s c.push_death.new.state c.args.timers.now c.args.timers.now
            c.requires.can.ready.read c.requires.timed c.args.c c.push_death.ensures.adds
            (sym its ∙ ap (λ r. option_map (λ (o : Open). o.call.place) (option_copied r))
            w.in_default.is))
      ];
}
