use Rattle.std.proofs.Common.{ℕ, ap, sym, ◌∙◌}
use Rattle.pt_model.specs.declared.entry.Entry.TheVariants.{Join as JoinEntry, Death as DeathEntry}
use Rattle.pt_history.proofs.compact.single_entry.Goals as goal

pub returns-in_ok-near-in-Join : goal.returns-in_ok-near-in-Join
returns-in_ok-near-in-Join c =
    record {
      same = λ p. ap (λ (x : ℕ). JoinEntry x c.in-Join.priority)
          (c.in_ok-near-in-Join.ensures ∙ c.client.view_is)
          ∙ sym c.in-Join.is;
      stored = λ p. tt;
    }

pub returns-in_ok-near-in-Death : goal.returns-in_ok-near-in-Death
returns-in_ok-near-in-Death c =
    record {
      same = λ p. ap DeathEntry (c.in_ok-near-in-Death.ensures ∙ c.client-in-Death.view_is)
          ∙ sym c.in-Death.is;
      stored = λ p. tt;
    }
