-- What is read off the rows of a Start.
use Rattle.std.proofs.Common.{◌≡◌, Some, None, refl, ap}
use Rattle.std.proofs.Math.Path.{fun_ext}
use Rattle.pt_types.specs.declared.time.Clock.{Clock}
use Rattle.pt_types.specs.declared.time.Clock.TheVariants.{Real, Mono}
use Rattle.pt_model.specs.Starts.{Start, empty_start}
use Rattle.pt_model.specs.StartRows.{clock_in, empty_rows, start_of_rows}

-- a Start without rows reads as nothing
pub rows-none : start_of_rows empty_rows ≡ empty_start
rows-none = ap (λ (clock : Clock → _). record empty_start { clock = clock }) (fun_ext none)
  where
    none : (k : Clock) → clock_in empty_rows k ≡ None
    none Real = refl
    none Mono = refl
