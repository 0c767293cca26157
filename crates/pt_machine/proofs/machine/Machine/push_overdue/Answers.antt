use Rattle.std.proofs.Common.{◌≡◌, ℕ, Option, Some, sym, ap, ◌∙◌, subst}
use Rattle.std.specs.Prelude.{option_map}
use Rattle.std.specs.Option.{option_copied}
use Rattle.pt_model.specs.Answers.{open_calls}
use Rattle.pt_model.specs.declared.entry.Entry.TheVariants.{Expire}
use Rattle.pt_model.specs.WaitingCall.{call_at_place}
use Rattle.pt_records.specs.declared.clients.Open.{Open}
use Rattle.pt_state.specs.declared.state.State.{State}
use Rattle.pt_state.specs.Adds.{Adds, HasRoomFor, history_of}
use Rattle.pt_state.specs.Serving.{call_of_open}
use Rattle.pt_machine.proofs.OpenPlaces.{place-in}
use Rattle.pt_machine.proofs.machine.Machine.push_overdue.Goals as goal

-- the call that is found came at the place
at-its-place : {A : Type 0} (s : State A) (p : ℕ) (found : Option Open) (o : Open)
    → option_map call_of_open found ≡ call_at_place p (open_calls (history_of s)) → found ≡ Some o
    → o.call.place ≡ p
at-its-place s p found o e is =
    (place-in p (open_calls (history_of s)) (call_of_open o)
    (sym e ∙ ap (option_map call_of_open) is)).1

pub push_late-requires-clause-has_room : goal.push_late-requires-clause-has_room
push_late-requires-clause-has_room g c =
    let s = c.args.self.now in
    subst (λ (p : ℕ). HasRoomFor s (Expire p))
    (sym (at-its-place s c.args.place (option_copied c.open_at.result) c.unwrap.result.now
    c.open_at.ensures.value (ap option_copied c.unwrap.ensures))) c.requires.has_room

pub returns : goal.returns
returns g c =
    let s = c.args.self.now in
    subst (λ (p : ℕ). Adds s (Expire p) c.push_late.new.self)
    (at-its-place s c.args.place (option_copied c.open_at.result) c.unwrap.result.now
    c.open_at.ensures.value (ap option_copied c.unwrap.ensures)) c.push_late.ensures
