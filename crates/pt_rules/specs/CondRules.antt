-- CondRules: the lines of the tables of conditions, in the order of docs/RULES.md.
use Rattle.std.specs.Prelude.{◌≡◌, ℕ, not, ◌&&◌, List, [], ◌∷◌, Bool, Option, is_none, nat_lt}
use Rattle.pt_types.specs.Times.{Timespec, has_invalid_deadline}
use Rattle.pt_types.specs.CondTable.{CondView, is_bound_elsewhere, wait_verdict}
use Rattle.pt_types.specs.MutexTable.{is_errorcheck, is_inconsistent, owns}
use Rattle.pt_types.specs.declared.views.MutexView.{MutexView}
use Rattle.pt_types.specs.declared.outcome.Outcome.TheVariants.{Done, Einval, Eperm}
use Rattle.pt_types.specs.declared.outcome.Verdict.{Verdict}
use Rattle.pt_types.specs.declared.outcome.Verdict.TheVariants.{Reply, Stands}
use Rattle.pt_rules.specs.Tables.{first_that_applies}
use Rattle.pt_rules.specs.declared.cond.WaitRule.{WaitRule}
use Rattle.pt_rules.specs.declared.cond.WaitRule.TheVariants.{BadTime, OtherMutex, Undefined}
use Rattle.pt_rules.specs.declared.cond.WaitRule.TheVariants.{NotOwner, Counts, Loses, Waits}
use Rattle.pt_rules.specs.declared.cond.WakeRule.{WakeRule}
use Rattle.pt_rules.specs.declared.cond.WakeRule.TheVariants.{Nobody, MovesFirst, MovesAll}

-- whether the page leaves open what a wait by another client than the owner does
-- [XSH pthread_cond_timedwait]
abbrev pub stays_open : MutexView → Bool
stays_open m = not (is_errorcheck m.kind) && not m.robust

-- the table of `wait`, `timedwait` and `clockwait`, without its last line; the lines OtherMutex,
-- Undefined and Loses are profile  [XSH pthread_cond_timedwait]
abbrev pub wait_lines : CondView → (mutex : ℕ) → MutexView → (caller : ℕ) → Option Timespec
    → List (Bool × WaitRule)
wait_lines q n m c due =
    (has_invalid_deadline due, BadTime)
    ∷ (is_bound_elsewhere q.bound n, OtherMutex)
    ∷ (not (owns m c) && stays_open m, Undefined)
    ∷ (not (owns m c), NotOwner)
    ∷ (nat_lt 1 m.count, Counts)
    ∷ (is_inconsistent m.consistency, Loses)
    ∷ []

-- the line that applies to a wait  [XSH pthread_cond_timedwait]
abbrev pub wait_rule : CondView → (mutex : ℕ) → MutexView → (caller : ℕ) → Option Timespec
    → WaitRule
wait_rule q n m c due = first_that_applies (wait_lines q n m c due) Waits

-- what that line says becomes of the call
abbrev pub outcome_by_wait_rule : WaitRule → Verdict
outcome_by_wait_rule BadTime = Reply Einval
outcome_by_wait_rule OtherMutex = Reply Einval
outcome_by_wait_rule Undefined = Reply Eperm
outcome_by_wait_rule NotOwner = Reply Eperm
outcome_by_wait_rule Counts = Stands
outcome_by_wait_rule Loses = Stands
outcome_by_wait_rule Waits = Stands

-- Wait rules: the verdict of a wait at a condition is what the first line that applies says.
abbrev pub WaitRules : Type 0
WaitRules =
    (q : CondView) (n : ℕ) (m : MutexView) (c : ℕ) (due : Option Timespec)
    → wait_verdict q n (owns m c) due ≡ outcome_by_wait_rule (wait_rule q n m c due)

-- the table of `signal` and `broadcast`, without its last line  [XSH pthread_cond_broadcast]
abbrev pub wake_lines : CondView → (all : Bool) → List (Bool × WakeRule)
wake_lines q all = (is_none q.bound, Nobody) ∷ (all, MovesAll) ∷ []

-- the line that applies to `signal`, or to `broadcast`, which wakes all
-- [XSH pthread_cond_broadcast]
abbrev pub wake_rule : CondView → (all : Bool) → WakeRule
wake_rule q all = first_that_applies (wake_lines q all) MovesFirst

-- what that line says becomes of the call
abbrev pub outcome_by_wake_rule : WakeRule → Verdict
outcome_by_wake_rule rule = Reply Done
