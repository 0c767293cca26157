-- Sealing: a core whose entries are dropped, and when it cannot be sealed.
use Rattle.std.specs.Prelude.{ℕ, ◌≡◌, ◌≤◌, [], nat_le, if◌then◌else◌}
use Rattle.pt_types.specs.Limits.{max_place}
use Rattle.pt_types.specs.declared.outcome.Refusal.{Refusal}
use Rattle.pt_types.specs.declared.outcome.Refusal.TheVariants.{Enomem, Full}
use Rattle.pt_model.specs.Histories.{place}
use Rattle.pt_model.specs.Seals.{seal}
use Rattle.pt_legal.specs.Cores.{CoreState, history_of}

-- the core with its history sealed, which begins with the seal and has no entries
abbrev pub core_after_seal : CoreState → CoreState
core_after_seal k = record k { start = seal (history_of k); entries = [] }

-- the history was sealed, and goes on with this place
pub record IsSealed (old new : CoreState) (at : ℕ) : Type 0 where
  pub next : at ≡ place (history_of old)
  pub core : new ≡ core_after_seal old
  pub within : at ≤ max_place

-- FULL if no numbers are left for the places of a history that goes on, else lack of memory
-- [profile]
abbrev pub seal_refusal : CoreState → Refusal
seal_refusal k = if nat_le (place (history_of k)) max_place then Enomem else Full
