-- LastTouched: where a call may be served and whose call came last, as they are read off a history.
use Rattle.std.specs.Prelude.{ℕ, ◌≡◌, Option}
use Rattle.pt_model.specs.Histories.{History}
use Rattle.pt_next_grant.specs.Touched.{service_object}
use Rattle.pt_next_grant.specs.Candidates.{latest_caller}

-- the object is the one at which a call may be served, if there is one, and the client is the one
-- whose call came last
pub record IsTouched (h : History) (object client : Option ℕ) : Type 0 where
  pub touches : object ≡ service_object h
  pub enters : client ≡ latest_caller h
