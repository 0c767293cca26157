-- NeedLimits: the number of objects is within its limit, and so is the need.
use Rattle.std.proofs.Common.{◌≡◌, ℕ, suc, ◌*◌, ◌<◌, ◌≤◌, nat_le, Bool, true, false, cond, List, []}
use Rattle.std.proofs.Common.{◌∷◌, filter, length, Option, Some, None, refl, sym, ap, arith}
use Rattle.std.proofs.lemmas.Bool.Decides.{nat_tests}
use Rattle.pt_types.specs.declared.call.Call.{Call as FunctionCall}
use Rattle.pt_types.specs.declared.outcome.Outcome.{Outcome}
use Rattle.pt_types.specs.declared.outcome.Outcome.TheVariants.{Done, Serial, Eperm, Einval, Ebusy}
use Rattle.pt_types.specs.declared.outcome.Outcome.TheVariants.{Eagain, Edeadlk, Etimedout}
use Rattle.pt_types.specs.declared.outcome.Outcome.TheVariants.{Eownerdead, Enotrecoverable}
use Rattle.pt_types.specs.declared.outcome.Verdict.TheVariants.{Reply}
use Rattle.pt_types.specs.Limits.{max_objects}
use Rattle.pt_types.specs.ObjectTable.{is_invalid_kind}
use Rattle.pt_types.specs.Operations.{Operation, Inits, Ends, Acquires, Unlocks, Restores}
use Rattle.pt_types.specs.Operations.{Rwunlocks, CondWaits, Signals, Broadcasts, BarrierWaits, operation}
use Rattle.pt_types.specs.Tables.{reply}
use Rattle.pt_model.specs.declared.entry.Entry.{Entry}
use Rattle.pt_model.specs.declared.entry.Entry.TheVariants.{Call}
use Rattle.pt_model.specs.Histories.{History, ◌▷◌}
use Rattle.pt_model.specs.Objects.{object_count, object_count_by, object_count_by_operation}
use Rattle.pt_model.specs.Verdicts.{operation_verdict, verdict}
use Rattle.pt_model.specs.Steps.{Step, joins, calls, dies, ticks, grants, trips, yields, expires}
use Rattle.pt_model.specs.Steps.{Follows}
use Rattle.pt_model.specs.declared.waiting_call.WaitingCall.{WaitingCall}
use Rattle.pt_model.specs.Answers.{open_calls}
use Rattle.pt_model.specs.Moves.{is_moved}
use Rattle.pt_model.specs.Room.{need, reserved_for}
use Rattle.pt_model.proofs.Counting.{total}
use Rattle.pt_model.proofs.Induction.{by_steps}
use Rattle.pt_model.proofs.Lists.{filter-all}
use Rattle.pt_model.proofs.Room.{need-reserved}
use Rattle.pt_state.specs.declared.state.State.{State}
use Rattle.pt_state.specs.Adds.{history_of}
use Rattle.pt_state.specs.Reads.{AreTables}
use Rattle.pt_state.proofs.RobustLemmas.{held-most}
use Rattle.pt_machine.proofs.QueueCounts.{living_count-most, open-most}

-- an object is made only below the limit
made_below : (n : ℕ) (bad used full : Bool) → nat_le max_objects n ≡ full
    → Some Done ≡ reply (cond bad (Reply Einval)
    (cond used (Reply Ebusy) (cond full (Reply Eagain) (Reply Done)))) → suc n ≤ max_objects
made_below n true used full e k = absurd cc
made_below n false true full e k = absurd cc
made_below n false false true e k = absurd cc
made_below n false false false e k =
    let lt : n < max_objects = grind (arith, nat_tests) in omega (arith, lt)

module _ (h : History) (le : object_count h ≤ max_objects) where
  done_most : (c : ℕ) (d : Operation) → Some Done ≡ reply (operation_verdict h c d)
      → object_count_by_operation d (object_count h) ≤ max_objects
  done_most c (Inits n kind) e =
      made_below (object_count h) (is_invalid_kind kind) _ (nat_le max_objects
      (object_count h)) refl e
  done_most c (Ends n class) e = omega (arith, le)
  done_most c (Acquires n lock_kind how) e = le
  done_most c (Unlocks n) e = le
  done_most c (Restores n) e = le
  done_most c (Rwunlocks n) e = le
  done_most c (CondWaits n m deadline) e = le
  done_most c (Signals n) e = le
  done_most c (Broadcasts n) e = le
  done_most c (BarrierWaits n) e = le

  call_most : (c : ℕ) (call : FunctionCall) (r : Option Outcome) → r ≡ reply (verdict h c call)
      → object_count_by (Call c call r) (object_count h) ≤ max_objects
  call_most c call None e = le
  call_most c call (Some Done) e = done_most c (operation call) e
  call_most c call (Some Serial) e = le
  call_most c call (Some Eperm) e = le
  call_most c call (Some Einval) e = le
  call_most c call (Some Ebusy) e = le
  call_most c call (Some Eagain) e = le
  call_most c call (Some Edeadlk) e = le
  call_most c call (Some Etimedout) e = le
  call_most c call (Some Eownerdead) e = le
  call_most c call (Some Enotrecoverable) e = le

  objects_step : (e : Entry) → Step h e → object_count (h ▷ e) ≤ max_objects
  objects_step _ (calls c call n a o) = call_most c call (reply (verdict h c call)) refl
  objects_step _ (joins p n lt) = le
  objects_step _ (dies c n a) = le
  objects_step _ (ticks k t n) = le
  objects_step _ (grants w s i g) = le
  objects_step _ (trips w s i t) = le
  objects_step _ (yields m s t) = le
  objects_step _ (expires w s i t) = le

pub object_count-most : (h : History) → Follows h → object_count h ≤ max_objects
object_count-most h f =
    by_steps (λ h. object_count h ≤ max_objects) (omega arith) (λ h e f le s. objects_step h le e s)
    (λ h f le. le) h f

-- at most three entries are reserved for each call
reserved_most : (h : History) (ws : List WaitingCall) → total (reserved_for h) ws ≤ 3 * length ws
reserved_most h [] = omega arith
reserved_most h (w ∷ ws) = omega (arith, three (is_moved h w), reserved_most h ws)
  where
    three : (b : Bool) → cond {A = ℕ} b 2 3 ≤ 3
    three true = omega arith
    three false = omega arith

-- the need is limited, since the numbers of clients and of objects are
pub need-most : {A : Type 0} (s : State A) → AreTables s → need (history_of s) ≤ 8192
need-most s r =
    let h = history_of s in
    let all : filter (λ (w : WaitingCall). true) (open_calls h) ≡ open_calls h =
    filter-all (λ (w : WaitingCall). true) (open_calls h) (λ w i. refl) in
    omega (
      arith,
      need-reserved h,
      living_count-most h r.follows,
      reserved_most h (open_calls h),
      open-most h s.clients r.follows r.callers (λ w. true) (length (open_calls h))
          (ap length (sym all)),
      held-most h s.objects r.object_rows,
      r.object_rows.many,
      object_count-most h r.follows,
    )
