-- Reserved: the stored number of reserved entries.
use Rattle.std.specs.Prelude.{ℕ, ◌≡◌, Bool, false, ◌&&◌, Option, Some, None, is_none}
use Rattle.pt_types.specs.MutexTable.{is_acquired}
use Rattle.pt_model.specs.Histories.{History}
use Rattle.pt_model.specs.Objects.{kind_of, is_robust}
use Rattle.pt_model.specs.declared.waiting_call.WaitingCall.{WaitingCall}
use Rattle.pt_model.specs.Mutexes.{owner}
use Rattle.pt_model.specs.Grants.{grant_outcome}
use Rattle.pt_model.specs.Room.{need}

-- the stored number of reserved entries is the need  [profile]
pub record IsReserved (h : History) (reserved : ℕ) : Type 0 where
  pub needs : reserved ≡ need h

-- whether the Grant of a call gives an owner to the robust mutex that it is for, for whose Yield an
-- entry is then reserved  [profile]
abbrev pub gives_owner : History → WaitingCall → Option ℕ → Bool
gives_owner h w None = false
gives_owner h w (Some m) =
    (is_robust (kind_of h m) && is_none (owner h m)) && is_acquired (grant_outcome h w)
