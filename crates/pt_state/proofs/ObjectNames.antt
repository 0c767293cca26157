-- ObjectNames: what names mean and how many objects there are, after each entry.
use Rattle.std.proofs.Common.{◌≡◌, ℕ, suc, ◌-◌, Bool, true, false, cond, ◌==◌, List, Option, Some}
use Rattle.std.proofs.Common.{None, option_map, refl, sym, ap, ◌∙◌, subst, arith}
use Rattle.std.proofs.lemmas.Bool.{false≢true}
use Rattle.std.proofs.lemmas.Bool.Decides.{nat_tests}
use Rattle.pt_types.specs.declared.call.Call.{Call as FunctionCall}
use Rattle.pt_types.specs.declared.call.ObjectKind.{ObjectKind}
use Rattle.pt_types.specs.declared.outcome.Outcome.{Outcome}
use Rattle.pt_types.specs.declared.outcome.Outcome.TheVariants.{Done, Serial, Eperm, Einval, Ebusy}
use Rattle.pt_types.specs.declared.outcome.Outcome.TheVariants.{Eagain, Edeadlk, Etimedout}
use Rattle.pt_types.specs.declared.outcome.Outcome.TheVariants.{Eownerdead, Enotrecoverable}
use Rattle.pt_types.specs.Names.{same_name}
use Rattle.pt_types.specs.Operations.{Operation, Inits, Ends, Acquires, Unlocks, Restores}
use Rattle.pt_types.specs.Operations.{Rwunlocks, CondWaits, Signals, Broadcasts, BarrierWaits, operation}
use Rattle.pt_types.specs.Operations.{clock_of}
use Rattle.pt_types.specs.declared.operations.ObjectClass.{ObjectClass}
use Rattle.pt_types.specs.declared.operations.ObjectClass.TheVariants.{Mutex as MutexClass}
use Rattle.pt_types.specs.declared.operations.ObjectClass.TheVariants.{Rwlock as RwlockClass}
use Rattle.pt_types.specs.declared.operations.LockKind.TheVariants.{MutexLock, ReadLock, WriteLock}
use Rattle.pt_types.specs.MutexTable.{is_some_number}
use Rattle.pt_types.specs.Tables.{reply}
use Rattle.pt_model.specs.declared.entry.Entry.TheVariants.{Call}
use Rattle.pt_model.specs.Histories.{History, place}
use Rattle.pt_model.specs.Objects.{object_named, find_object, object_count_by_operation}
use Rattle.pt_model.specs.Objects.{object_count_by, object_count}
use Rattle.pt_model.specs.Records.{Object as Named_object}
use Rattle.pt_model.specs.Verdicts.{verdict}
use Rattle.pt_model.specs.Steps.{Follows}
use Rattle.pt_model.proofs.Effects.{Effect, Idle, Creates, Removes, Relocks, Frees, Mends, Returns}
use Rattle.pt_model.proofs.Effects.{Wakes, Waits, succeeds, effect, Allowed}
use Rattle.pt_model.proofs.Allowances.{allowed}
use Rattle.pt_model.proofs.Changes.{found_or, stays_same, named_effect, Resolved, resolved}
use Rattle.pt_model.proofs.Readings.{named-call}
use Rattle.pt_model.proofs.Named.{Named-follows, found_object, same_named, named_same}
use Rattle.pt_state.proofs.OneObject.{number-is}
use Rattle.pt_state.proofs.ObjectCalls.{does, behind}

-- the number of the object that bears a name
abbrev pub numbered : History → List ℕ → Option ℕ
numbered h n = option_map (λ x. x.number) (object_named h n)

-- the number that is found for each name is the one that is read off the history
abbrev pub NamesLook : History → (List ℕ → Option ℕ) → Type 0
NamesLook h names = (n : List ℕ) → names n ≡ numbered h n

-- whether an effect neither makes an object nor ends one
abbrev pub names_none : Effect → Bool
names_none (Creates n kind) = false
names_none (Removes n class q) = false
names_none _ = true

names_kept : (at : ℕ) (E : Effect) (before : Option Named_object) (n : List ℕ)
    → names_none E ≡ true → named_effect at E before n ≡ before
names_kept at Idle before n e = refl
names_kept at (Relocks m) before n e = refl
names_kept at (Frees m) before n e = refl
names_kept at (Mends m) before n e = refl
names_kept at (Returns m) before n e = refl
names_kept at (Wakes m all) before n e = refl
names_kept at (Waits w) before n e = refl
names_kept at (Creates m kind) before n e = absurd (false≢true e)
names_kept at (Removes m class q) before n e = absurd (false≢true e)

-- what a name means after a call
pub numbered-call : (h : History) (c : ℕ) (call : FunctionCall) (E : Effect) → does h c call ≡ E
    → (n : List ℕ) → numbered (behind h c call) n
    ≡ option_map (λ (x : Named_object). x.number)
    (named_effect (place h) E (object_named h n) n)
numbered-call h c call E e n =
    ap (option_map (λ (x : Named_object). x.number))
    (named-call h c call (reply (verdict h c call)) (resolved h c call) (place h)
    (object_named h n) n
    ∙ ap (λ X. named_effect (place h) X (object_named h n) n) e)

numbered_cond : (b : Bool) (x y : Option Named_object)
    → option_map (λ (z : Named_object). z.number) (cond b x y)
    ≡ cond b (option_map (λ (z : Named_object). z.number) x)
    (option_map (λ (z : Named_object). z.number) y)
numbered_cond true x y = refl
numbered_cond false x y = refl

-- a call that is no init and no destroy leaves the names unchanged
pub names-same : (h : History) (c : ℕ) (call : FunctionCall) (names : List ℕ → Option ℕ)
    → names_none (does h c call) ≡ true → NamesLook h names → NamesLook (behind h c call) names
names-same h c call names e t n =
    t n ∙ sym (numbered-call h c call (does h c call) refl n
    ∙ ap (option_map (λ (x : Named_object). x.number))
    (names_kept (place h) (does h c call) (object_named h n) n e))

-- an init names its object
pub names-creates : (h : History) (c : ℕ) (call : FunctionCall) (names names' : List ℕ → Option ℕ)
    (m : List ℕ) (kind : ObjectKind) → does h c call ≡ Creates m kind → NamesLook h names
    → ((n : List ℕ) → names' n ≡ cond (same_name m n) (Some (place h)) (names n))
    → NamesLook (behind h c call) names'
names-creates h c call names names' m kind e t change n =
    change n ∙ (ap (cond (same_name m n) (Some (place h))) (t n)
    ∙ sym (numbered-call h c call (Creates m kind) e n
    ∙ numbered_cond (same_name m n) (Some (record { number = place h; kind = kind }))
    (object_named h n)))

-- a destroy takes its name away
pub names-removes : (h : History) (c : ℕ) (call : FunctionCall) (names names' : List ℕ → Option ℕ)
    (m : List ℕ) (class : ObjectClass) (q : ℕ) → does h c call ≡ Removes m class q
    → NamesLook h names
    → ((n : List ℕ) → names' n ≡ cond (same_name m n) None (names n))
    → NamesLook (behind h c call) names'
names-removes h c call names names' m class q e t change n =
    change n ∙ (ap (cond (same_name m n) None) (t n)
    ∙ sym (numbered-call h c call (Removes m class q) e n
    ∙ numbered_cond (same_name m n) None (object_named h n)))

numbered_some : (x : Option Named_object) (q : ℕ)
    → option_map (λ (z : Named_object). z.number) x ≡ Some q
    → (o : Named_object) × ((x ≡ Some o) × (o.number ≡ q))
numbered_some None q e = absurd cc
numbered_some (Some o) q e = let same : o.number ≡ q = cc in (o, (refl, same))

-- two names never mean one object
pub one-name : (h : History) → Follows h → (m n : List ℕ) (q : ℕ) → numbered h m ≡ Some q
    → numbered h n ≡ Some q → m ≡ n
one-name h f m n q e g =
    let o = numbered_some (object_named h m) q e in
    let p = numbered_some (object_named h n) q g in
    (Named-follows h f).single m n o.0 p.0 o.1.0 p.1.0 (o.1.1 ∙ sym p.1.1)

-- an object that is destroyed bears the name that its call gives
pub removed-name : (h : History) (c : ℕ) (n : List ℕ) (class : ObjectClass) (q : ℕ)
    → Allowed h c (Removes n class q) → numbered h n ≡ Some q
removed-name h c n class q a =
    let u = found_object h n class q a.0 in
    ap (option_map (λ (x : Named_object). x.number)) u.1.0 ∙ ap Some u.1.1.0

-- so the name of a destroyed object is the only one that means its number
pub removed-only : (h : History) → Follows h → (c : ℕ) (m : List ℕ) (class : ObjectClass) (q : ℕ)
    → Allowed h c (Removes m class q) → (n : List ℕ) → same_name m n
    ≡ is_some_number (numbered h n) q
removed-only h f c m class q a n = go (same_name m n) (is_some_number (numbered h n) q) refl refl
  where
    go : (b d : Bool) → same_name m n ≡ b → is_some_number (numbered h n) q ≡ d → b ≡ d
    go true true eb ed = refl
    go false false eb ed = refl
    go true false eb ed =
        let same : m ≡ n = same_named m n eb in
        let here : numbered h n ≡ Some q =
        ap (numbered h) (sym same) ∙ removed-name h c m class q a in
        let yes : is_some_number (numbered h n) q ≡ true =
        rw here (let t : (q == q) ≡ true = grind (arith, nat_tests) in t) in
        sym yes ∙ ed
    go false true eb ed =
        let same : m ≡ n =
        one-name h f m n q (removed-name h c m class q a)
        (number-is (numbered h n) q ed) in
        sym (sym (named_same m n same) ∙ eb)

-- a table that drops the number of the destroyed object drops its name alone
pub names-drops : (h : History) (c : ℕ) (call : FunctionCall) (names names' : List ℕ → Option ℕ)
    (m : List ℕ) (class : ObjectClass) (q : ℕ) → Follows h → does h c call ≡ Removes m class q
    → NamesLook h names
    → ((n : List ℕ) → names' n ≡ cond (is_some_number (names n) q) None (names n))
    → NamesLook (behind h c call) names'
names-drops h c call names names' m class q f e t change =
    names-removes h c call names names' m class q e t
    (λ n. change n ∙ ap (λ b. cond b None (names n))
    (ap (λ o. is_some_number o q) (t n)
    ∙ sym (removed-only h f c m class q
    (subst (λ (E : Effect). Allowed h c E) e (allowed h c call)) n)))

-- what an effect makes of the number of objects
abbrev pub objects_effect : Effect → ℕ → ℕ
objects_effect (Creates n kind) before = suc before
objects_effect (Removes n class q) before = before - 1
objects_effect _ before = before

objects_done : (h : History) (before : ℕ) (d : Operation)
    → ((n : List ℕ) (class : ObjectClass) → d ≡ Ends n class → (o : ℕ) × (find_object h n class
    ≡ Some o))
    → object_count_by_operation d before ≡ objects_effect (succeeds h d) before
objects_done h before (Inits n kind) has_call = refl
objects_done h before (Ends n class) has_call = rw (has_call n class refl).1 refl
objects_done h before (Acquires n MutexLock how) has_call =
    found_or (λ E. objects_effect E before) Relocks (λ o. before) refl (λ o. refl)
    (find_object h n MutexClass)
objects_done h before (Acquires n ReadLock how) has_call = refl
objects_done h before (Acquires n WriteLock how) has_call = refl
objects_done h before (Unlocks n) has_call =
    found_or (λ E. objects_effect E before) Frees (λ o. before) refl (λ o. refl)
    (find_object h n MutexClass)
objects_done h before (Restores n) has_call =
    found_or (λ E. objects_effect E before) Mends (λ o. before) refl (λ o. refl)
    (find_object h n MutexClass)
objects_done h before (Rwunlocks n) has_call =
    found_or (λ E. objects_effect E before) Returns (λ o. before) refl (λ o. refl)
    (find_object h n RwlockClass)
objects_done h before (CondWaits n k deadline) has_call = refl
objects_done h before (Signals n) has_call = refl
objects_done h before (Broadcasts n) has_call = refl
objects_done h before (BarrierWaits n) has_call = refl

objects_reply : (h : History) (c : ℕ) (call : FunctionCall) (r : Option Outcome) (before : ℕ)
    → Resolved h call r
    → object_count_by (Call c call r) before ≡ objects_effect (effect h c call r) before
objects_reply h c call None before s =
    stays_same (λ E. objects_effect E before) before refl (λ w. refl) h c
    (clock_of call) (operation call)
objects_reply h c call (Some Done) before s =
    objects_done h before (operation call) (λ n class e. s.ended n class e refl)
objects_reply h c call (Some Serial) before s = refl
objects_reply h c call (Some Eperm) before s = refl
objects_reply h c call (Some Einval) before s = refl
objects_reply h c call (Some Ebusy) before s = refl
objects_reply h c call (Some Eagain) before s = refl
objects_reply h c call (Some Edeadlk) before s = refl
objects_reply h c call (Some Etimedout) before s = refl
objects_reply h c call (Some Eownerdead) before s = refl
objects_reply h c call (Some Enotrecoverable) before s = refl

-- how many objects there are after a call
pub object_count-call : (h : History) (c : ℕ) (call : FunctionCall)
    → object_count (behind h c call) ≡ objects_effect (does h c call) (object_count h)
object_count-call h c call =
    objects_reply h c call (reply (verdict h c call)) (object_count h) (resolved h c call)

objects_kept : (E : Effect) (before : ℕ) → names_none E ≡ true → objects_effect E before ≡ before
objects_kept Idle before t = refl
objects_kept (Relocks m) before t = refl
objects_kept (Frees m) before t = refl
objects_kept (Mends m) before t = refl
objects_kept (Returns m) before t = refl
objects_kept (Wakes m all) before t = refl
objects_kept (Waits w) before t = refl
objects_kept (Creates m kind) before t = absurd (false≢true t)
objects_kept (Removes m class q) before t = absurd (false≢true t)

-- as many as before, if the call is no init and no destroy
pub object_count-same : (h : History) (c : ℕ) (call : FunctionCall) → names_none (does h c call) ≡ true
    → object_count (behind h c call) ≡ object_count h
object_count-same h c call e =
    object_count-call h c call ∙ objects_kept (does h c call) (object_count h) e

-- one more after an init
pub object_count-creates : (h : History) (c : ℕ) (call : FunctionCall) (m : List ℕ) (kind : ObjectKind)
    → does h c call ≡ Creates m kind → object_count (behind h c call) ≡ suc (object_count h)
object_count-creates h c call m kind e =
    object_count-call h c call ∙ ap (λ E. objects_effect E (object_count h)) e

-- one less after a destroy
pub object_count-removes : (h : History) (c : ℕ) (call : FunctionCall) (m : List ℕ) (class : ObjectClass)
    (q : ℕ)
    → does h c call ≡ Removes m class q → object_count (behind h c call) ≡ object_count h - 1
object_count-removes h c call m class q e =
    object_count-call h c call ∙ ap (λ E. objects_effect E (object_count h)) e
