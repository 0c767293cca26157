-- Served: what a server writes.
use Rattle.std.specs.Prelude.{ℕ, ◌≡◌, ◌⊎◌, ◌++◌, List, [], ◌∷◌, codes, decimal, Option, Some, None}
use Rattle.std.specs.Prelude.{Result, Ok, Err}
use Rattle.pt_session.specs.Outputs.{IsBroken, IsPartlyTaken, OutputView}
use Rattle.pt_serve.specs.declared.fault.ServeFault.{ServeFault}
use Rattle.pt_serve.specs.Faults.{serve_report}

-- the line that says that connections are accepted  [profile]
abbrev pub ready_line : List ℕ
ready_line = codes "ready" ++ 10 ∷ []

-- the line that says that the history is closed, with its number of events  [profile]
abbrev pub closed_line : ℕ → List ℕ
closed_line outer = codes "closed " ++ decimal outer ++ 10 ∷ []

-- a front of what a server writes for some number of events was taken after the old text
pub record IsServiceBegun (old taken : List ℕ) : Type 0 where
  pub outer : ℕ
  pub begun : IsPartlyTaken old (ready_line ++ closed_line outer) taken

-- the line was written after the old text, and all is flushed; or the writer broke, and a first
-- part of the line was taken
abbrev pub IsReported : List ℕ → List ℕ → OutputView → Type 0
IsReported old line o =
    ((o.taken ≡ old ++ line) × (o.flushed ≡ old ++ line))
    ⊎ (IsPartlyTaken old line o.taken × IsBroken o.failures o.rejections)

-- the fault with which something ended, if it has one
abbrev pub fault_in : {T : Type 0} → Result T ServeFault → Option ServeFault
fault_in (Ok x) = None
fault_in (Err fault) = Some fault

-- a writer of errors, before and after: the fault is reported, and without one nothing is written;
-- `output` gives what is seen of it
abbrev pub ReportsFault : {E : Type 0} → (E → E → OutputView) → E → Option ServeFault → E → Type 0
ReportsFault output old None new = new ≡ old
ReportsFault output old (Some fault) new =
    IsReported (output old old).taken (serve_report fault) (output old new)
