-- ObjectRules: the lines of the tables of making and destroying objects, in the order of
-- docs/RULES.md.
use Rattle.std.specs.Prelude.{◌≡◌, ℕ, ◌==◌, List, [], ◌∷◌, Bool, false, nat_le}
use Rattle.pt_types.specs.Limits.{max_objects}
use Rattle.pt_types.specs.ObjectTable.{destroy_verdict, init_verdict, is_invalid_kind}
use Rattle.pt_types.specs.declared.call.ObjectKind.{ObjectKind}
use Rattle.pt_types.specs.declared.call.ObjectKind.TheVariants.{Barrier}
use Rattle.pt_types.specs.declared.outcome.Outcome.TheVariants.{Done, Eagain, Ebusy, Einval}
use Rattle.pt_types.specs.declared.outcome.Verdict.{Verdict}
use Rattle.pt_types.specs.declared.outcome.Verdict.TheVariants.{Reply}
use Rattle.pt_rules.specs.Tables.{first_that_applies}
use Rattle.pt_rules.specs.declared.object.InitRule.{InitRule}
use Rattle.pt_rules.specs.declared.object.InitRule.TheVariants.{NoCount, BadCount, NameInUse}
use Rattle.pt_rules.specs.declared.object.InitRule.TheVariants.{TooMany, Inits}
use Rattle.pt_rules.specs.declared.object.DestroyRule.{DestroyRule}
use Rattle.pt_rules.specs.declared.object.DestroyRule.TheVariants.{Busy, Ends}

-- whether a kind is that of a barrier whose count is 0  [XSH pthread_barrier_init]
abbrev pub is_empty_barrier : ObjectKind → Bool
is_empty_barrier (Barrier count) = count == 0
is_empty_barrier _ = false

-- the table of the init calls, without its last line  [XSH pthread_mutex_init]
abbrev pub init_lines : ObjectKind → (in_use : Bool) → (objects : ℕ) → List (Bool × InitRule)
init_lines kind in_use objects =
    (is_empty_barrier kind, NoCount)
    ∷ (is_invalid_kind kind, BadCount)
    ∷ (in_use, NameInUse)
    ∷ (nat_le max_objects objects, TooMany)
    ∷ []

-- the line that applies to making an object  [XSH pthread_mutex_init]
abbrev pub init_rule : ObjectKind → (in_use : Bool) → (objects : ℕ) → InitRule
init_rule kind in_use objects = first_that_applies (init_lines kind in_use objects) Inits

-- what that line says becomes of the call
abbrev pub outcome_by_init_rule : InitRule → Verdict
outcome_by_init_rule NoCount = Reply Einval
outcome_by_init_rule BadCount = Reply Einval
outcome_by_init_rule NameInUse = Reply Ebusy
outcome_by_init_rule TooMany = Reply Eagain
outcome_by_init_rule Inits = Reply Done

-- Init rules: the verdict of making an object is what the first line that applies says.
abbrev pub InitRules : Type 0
InitRules =
    (kind : ObjectKind) (in_use : Bool) (objects : ℕ)
    → init_verdict kind in_use objects ≡ outcome_by_init_rule (init_rule kind in_use objects)

-- the table of the destroy calls, without its last line  [XSH pthread_mutex_destroy]
abbrev pub destroy_lines : (busy : Bool) → List (Bool × DestroyRule)
destroy_lines busy = (busy, Busy) ∷ []

-- the line that applies to destroying an object  [XSH pthread_mutex_destroy]
abbrev pub destroy_rule : (busy : Bool) → DestroyRule
destroy_rule busy = first_that_applies (destroy_lines busy) Ends

-- what that line says becomes of the call
abbrev pub outcome_by_destroy_rule : DestroyRule → Verdict
outcome_by_destroy_rule Busy = Reply Ebusy
outcome_by_destroy_rule Ends = Reply Done

-- Destroy rules: the verdict of destroying an object is what the first line that applies says.
abbrev pub DestroyRules : Type 0
DestroyRules = (busy : Bool) → destroy_verdict busy ≡ outcome_by_destroy_rule (destroy_rule busy)
