use Rattle.std.proofs.Common.{ℕ, ap, sym, ◌∙◌}
use Rattle.pt_model.specs.declared.entry.Entry.TheVariants.{Grant as GrantEntry, Trip as TripEntry}
use Rattle.pt_model.specs.declared.entry.Entry.TheVariants.{Yield as YieldEntry}
use Rattle.pt_model.specs.declared.entry.Entry.TheVariants.{Expire as ExpireEntry}
use Rattle.pt_history.specs.Compact.{forced_entry}
use Rattle.pt_history.proofs.compact.stored_forced.Goals as goal

pub returns-in_ok-near-in-Grant : goal.returns-in_ok-near-in-Grant
returns-in_ok-near-in-Grant c =
    record {
      same = λ p. ap (λ (j : ℕ). GrantEntry j c.in-Grant.outcome) c.in_ok-near-in-Grant.ensures
          ∙ sym (ap forced_entry c.in-Grant.is);
      stored = λ p. tt;
    }

pub returns-in_ok-near-in-Trip : goal.returns-in_ok-near-in-Trip
returns-in_ok-near-in-Trip c =
    record {
      same = λ p. ap TripEntry (c.in_ok-near-in-Trip.ensures ∙ c.barrier.view_is)
          ∙ sym (ap forced_entry c.in-Trip.is);
      stored = λ p. tt;
    }

pub returns-in_ok-near-in-Yield : goal.returns-in_ok-near-in-Yield
returns-in_ok-near-in-Yield c =
    record {
      same = λ p. ap YieldEntry (c.in_ok-near-in-Yield.ensures ∙ c.mutex.view_is)
          ∙ sym (ap forced_entry c.in-Yield.is);
      stored = λ p. tt;
    }

pub returns-in_ok-near-in-Expire : goal.returns-in_ok-near-in-Expire
returns-in_ok-near-in-Expire c =
    record {
      same = λ p. ap ExpireEntry c.in_ok-near-in-Expire.ensures
          ∙ sym (ap forced_entry c.in-Expire.is);
      stored = λ p. tt;
    }
