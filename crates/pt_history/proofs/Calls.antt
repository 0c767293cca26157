-- Calls as they are stored, and readings of clocks.
use Rattle.std.proofs.Common.{ℕ, ◌≡◌, ◌+◌, List, [], ◌∷◌, ◌++◌, length, vec_len, vec_capacity}
use Rattle.std.proofs.Common.{Option, subst}
use Rattle.std.specs.Prelude.{Vec}
use Rattle.pt_types.specs.Names.{IsName}
use Rattle.pt_types.specs.declared.call.Call.{Call}
use Rattle.pt_types.specs.declared.call.Call.TheVariants.{BarrierInit, Wait as WaitCall}
use Rattle.pt_types.specs.declared.operations.LockKind.{LockKind}
use Rattle.pt_types.specs.declared.outcome.Outcome.{Outcome}
use Rattle.pt_types.specs.declared.time.Clock.{Clock}
use Rattle.pt_model.specs.declared.entry.Entry.TheVariants.{Call as CallEntry}
use Rattle.pt_model.specs.declared.entry.Entry.TheVariants.{Moment as MomentEntry}
use Rattle.pt_hints.specs.declared.hints.Hints.{Hints}
use Rattle.pt_history.specs.declared.compact.Answer.{Answer}
use Rattle.pt_history.specs.declared.compact.Compact.{Compact}
use Rattle.pt_history.specs.declared.compact.Compact.TheVariants.{Named, Barrier, Timed, Wait}
use Rattle.pt_history.specs.declared.compact.Compact.TheVariants.{TimedWait, Moment}
use Rattle.pt_history.specs.declared.compact.TimeLimit.{TimeLimit}
use Rattle.pt_history.specs.declared.compact.Word.{Word}
use Rattle.pt_history.specs.declared.records.Records.{Records}
use Rattle.pt_history.specs.Compact.{outcome_of_answer, call_of_word, with_limit, wait_until}
use Rattle.pt_history.specs.Records.{HasText, HasTexts, LiesAt, LieAt, Shows}
use Rattle.pt_history.proofs.Growing.{shows-appended, append-texts, append-limit, append-moment}
use Rattle.pt_history.proofs.Growing.{append-nothing, at_end, within_end}
use Rattle.pt_history.proofs.Names.{for-two, found-there, text-there}

pub shows-named : {A : Type 0} (b : ℕ) (old : Records A) (ts : Vec ℕ A) (hs : Hints A)
    (name : List ℕ) (w : Word) (a : Answer) (n client i : ℕ) (call : Call)
    → HasText old.texts ts name n i → call_of_word w name ≡ call
    → Shows b (CallEntry (b + client) call (outcome_of_answer a)) old
    (record old { texts = ts; hints = hs }) (Named w a n client i)
shows-named b old ts hs name w a n client i call t s =
    shows-appended _ _ _ _ _ _
    (append-texts old ts hs t.more t.items (for-two _ _ t.len) t.capacity)
    (rw (t.same, s)) t.text

pub shows-barrier : {A : Type 0} (b : ℕ) (old : Records A) (ts : Vec ℕ A) (hs : Hints A)
    (name : List ℕ) (a : Answer) (n client i k : ℕ) (call : Call)
    → HasText old.texts ts name n i → BarrierInit name k ≡ call
    → Shows b (CallEntry (b + client) call (outcome_of_answer a)) old
    (record old { texts = ts; hints = hs }) (Barrier a n client i k)
shows-barrier b old ts hs name a n client i k call t s =
    shows-appended _ _ _ _ _ _
    (append-texts old ts hs t.more t.items (for-two _ _ t.len) t.capacity)
    (rw (t.same, s)) t.text

pub shows-timed : {A : Type 0} (b : ℕ) (old : Records A) (ts : Vec ℕ A) (hs : Hints A)
    (ls : Vec TimeLimit A) (l : TimeLimit) (name : List ℕ) (k : LockKind) (a : Answer)
    (n client i j : ℕ) (call : Call)
    → HasText old.texts ts name n i → with_limit k name l.deadline l.clock ≡ call
    → j ≡ length old.limits.items → ls.items ≡ old.limits.items ++ l ∷ []
    → vec_len ls ≡ vec_len old.limits + 1 → vec_capacity ls ≡ vec_capacity old.limits
    → Shows b (CallEntry (b + client) call (outcome_of_answer a)) old
    (record old { texts = ts; hints = hs; limits = ls }) (Timed k a n client i j)
shows-timed b old ts hs ls l name k a n client i j call t s at e len cap =
    shows-appended _ _ _ _ _ _
    (append-limit old ts hs ls t.more l t.items (for-two _ _ t.len) t.capacity e len cap)
    (rw (t.same, at_end _ _ _ _ _ e at, s))
    (record { text = t.text; limit = within_end _ _ _ _ e at })

pub shows-wait : {A : Type 0} (b : ℕ) (old : Records A) (ts : Vec ℕ A) (hs : Hints A)
    (one other : List ℕ) (a : Answer) (n m client i : ℕ) (call : Call)
    → HasTexts old.texts ts one other n m i → call ≡ WaitCall one other
    → Shows b (CallEntry (b + client) call (outcome_of_answer a)) old
    (record old { texts = ts; hints = hs }) (Wait a n m client i)
shows-wait b old ts hs one other a n m client i call t s =
    shows-appended _ _ _ _ _ _ (append-texts old ts hs t.more t.items t.len t.capacity)
    (rw (t.same, t.next, s)) t.texts

pub shows-timed-wait : {A : Type 0} (b : ℕ) (old : Records A) (ts : Vec ℕ A) (hs : Hints A)
    (ls : Vec TimeLimit A) (l : TimeLimit) (one other : List ℕ) (a : Answer)
    (n m client i j : ℕ) (call : Call)
    → HasTexts old.texts ts one other n m i → wait_until one other l.deadline l.clock ≡ call
    → j ≡ length old.limits.items → ls.items ≡ old.limits.items ++ l ∷ []
    → vec_len ls ≡ vec_len old.limits + 1 → vec_capacity ls ≡ vec_capacity old.limits
    → Shows b (CallEntry (b + client) call (outcome_of_answer a)) old
    (record old { texts = ts; hints = hs; limits = ls }) (TimedWait a n m client i j)
shows-timed-wait b old ts hs ls l one other a n m client i j call t s at e len cap =
    shows-appended _ _ _ _ _ _
    (append-limit old ts hs ls t.more l t.items t.len t.capacity e len cap)
    (rw (t.same, t.next, at_end _ _ _ _ _ e at, s))
    (record { texts = t.texts; limit = within_end _ _ _ _ e at })

pub shows-moment : {A : Type 0} (b : ℕ) (old : Records A) (ms : Vec ℕ A) (clock : Clock)
    (m j : ℕ)
    → j ≡ length old.moments.items → ms.items ≡ old.moments.items ++ m ∷ []
    → vec_len ms ≡ vec_len old.moments + 1 → vec_capacity ms ≡ vec_capacity old.moments
    → Shows b (MomentEntry clock m) old (record old { moments = ms }) (Moment clock j)
shows-moment b old ms clock m j at e len cap =
    shows-appended _ _ _ _ _ _ (append-moment old ms m e len cap)
    (rw (at_end _ _ _ 0 _ e at)) (within_end _ _ _ _ e at)

-- the client and the outcome of a stored call
told : {A : Type 0} (b client who : ℕ) (call : Call) (a : Answer) (outcome : Option Outcome)
    (old : Records A) (c : Compact) → b + client ≡ who → outcome_of_answer a ≡ outcome
    → Shows b (CallEntry (b + client) call (outcome_of_answer a)) old old c
    → Shows b (CallEntry who call outcome) old old c
told b client who call a outcome old c k o s =
    subst (λ (x : ℕ). Shows b (CallEntry x call outcome) old old c) k
    (subst (λ (x : Option Outcome). Shows b (CallEntry (b + client) call x) old old c) o s)

pub named-again : {A : Type 0} (b : ℕ) (old : Records A) (seen bytes name : List ℕ) (w : Word)
    (a : Answer) (client who i : ℕ) (call : Call) (outcome : Option Outcome)
    → seen ≡ old.texts.items → LiesAt seen name i → bytes ≡ name → IsName bytes
    → call_of_word w name ≡ call → b + client ≡ who → outcome_of_answer a ≡ outcome
    → Shows b (CallEntry who call outcome) old old (Named w a (length bytes) client i)
named-again b old seen bytes name w a client who i call outcome e l f n s k o =
    told b client who call a outcome old (Named w a (length bytes) client i) k o
    (shows-named b old old.texts old.hints name w a (length bytes) client i call
    (text-there old.texts bytes name i f n
    (found-there seen old.texts.items bytes name i e f l)) s)

pub barrier-again : {A : Type 0} (b : ℕ) (old : Records A) (seen bytes name : List ℕ)
    (a : Answer) (client who i m : ℕ) (call : Call) (outcome : Option Outcome)
    → seen ≡ old.texts.items → LiesAt seen name i → bytes ≡ name → IsName bytes
    → BarrierInit name m ≡ call → b + client ≡ who → outcome_of_answer a ≡ outcome
    → Shows b (CallEntry who call outcome) old old (Barrier a (length bytes) client i m)
barrier-again b old seen bytes name a client who i m call outcome e l f n s k o =
    told b client who call a outcome old (Barrier a (length bytes) client i m) k o
    (shows-barrier b old old.texts old.hints name a (length bytes) client i m call
    (text-there old.texts bytes name i f n
    (found-there seen old.texts.items bytes name i e f l)) s)

pub wait-again : {A : Type 0} (b : ℕ) (old : Records A) (seen one other : List ℕ) (a : Answer)
    (n m client who i : ℕ) (call : Call) (outcome : Option Outcome)
    → seen ≡ old.texts.items → LieAt seen one other n m i → call ≡ WaitCall one other
    → b + client ≡ who → outcome_of_answer a ≡ outcome
    → Shows b (CallEntry who call outcome) old old (Wait a n m client i)
wait-again b old seen one other a n m client who i call outcome e l s k o =
    let lie = subst (λ (t : List ℕ). LieAt t one other n m i) e l in
    told b client who call a outcome old (Wait a n m client i) k o
    (shows-appended _ _ _ _ _ _ (append-nothing old) (rw (lie.same, lie.next, s)) lie.both)
