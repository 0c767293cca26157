-- A living client's latest call is open, or is answered.
use Rattle.std.proofs.Common.{◌≡◌, ℕ, ◌==◌, Bool, true, false, cond, ◌&&◌, ◌⊎◌, inl, inr, List, []}
use Rattle.std.proofs.Common.{◌∷◌, Option, Some, None, is_some, is_none, refl, sym, ap, ◌∙◌, subst}
use Rattle.std.proofs.Common.{arith}
use Rattle.std.proofs.lemmas.Bool.Decides.{nat_tests}
use Rattle.std.proofs.lemmas.Bool.{false≢true, and_from}
use Rattle.std.specs.Option.{option_or}
use Rattle.pt_types.specs.declared.outcome.Outcome.{Outcome}
use Rattle.pt_types.specs.Tables.{reply}
use Rattle.pt_types.specs.MutexTable.{is_some_number}
use Rattle.pt_model.specs.declared.entry.Entry.{Entry}
use Rattle.pt_model.specs.declared.entry.Entry.TheVariants.{Join, Call, Death, Moment, Grant, Trip}
use Rattle.pt_model.specs.declared.entry.Entry.TheVariants.{Yield, Expire}
use Rattle.pt_model.specs.Searches.{In}
use Rattle.pt_model.specs.declared.waiting_call.WaitingCall.{WaitingCall}
use Rattle.pt_model.specs.Histories.{History, Begin, ◌▷◌, place}
use Rattle.pt_model.specs.Clients.{is_alive}
use Rattle.pt_model.specs.WaitingCall.{waiting_calls, waiting_calls_by}
use Rattle.pt_model.specs.Answers.{outcome_in, is_open_by, outcome, open_calls, open_place}
use Rattle.pt_model.specs.Answers.{place_of_client, entry_replies}
use Rattle.pt_model.specs.Queries.{latest_call, reply_if, answer_of}
use Rattle.pt_model.specs.Seals.{is_latest, seal}
use Rattle.pt_model.specs.Grants.{grant_outcome}
use Rattle.pt_model.specs.Verdicts.{verdict}
use Rattle.pt_model.specs.Steps.{Step, joins, calls, dies, ticks, grants, trips, yields, expires}
use Rattle.pt_model.specs.Steps.{Follows}
use Rattle.pt_model.proofs.Induction.{by_steps}
use Rattle.pt_model.proofs.Lists.{filter-in, In-append_left}
use Rattle.pt_model.proofs.Leasts.{first_below-some}
use Rattle.pt_model.proofs.Rising.{waiting_calls-seal}
use Rattle.pt_model.proofs.Sound.{Fresh-follows, alive_below}
use Rattle.pt_model.proofs.Found.{open_alive}
use Rattle.pt_model.proofs.Opens.{open-sealed, left, was_open}
use Rattle.pt_model.proofs.Once.{open_unanswered}
use Rattle.pt_model.proofs.OneEach.{none_of_client}
use Rattle.pt_model.proofs.Partition.{Stood, Kept, kept_call}
use Rattle.pt_model.proofs.Effects.{Effect, Idle, Creates, Removes, Relocks, Frees, Mends, Returns}
use Rattle.pt_model.proofs.Effects.{Wakes, Waits, effect, Allowed}
use Rattle.pt_model.proofs.Allowances.{allowed}
use Rattle.pt_model.proofs.Changes.{left_by}
use Rattle.pt_client_events.specs.Tallies.{open_call_count}

-- the latest calls were answered, or left waiting
abbrev LatestKept : History → Type 0
LatestKept h = (c j : ℕ) → latest_call h c ≡ Some j → Kept h j c

some_or : (a b : Option Outcome) → is_some b ≡ true → is_some (option_or a b) ≡ true
some_or None b e = e
some_or (Some x) b e = refl

still_kept : (h : History) (e : Entry) (j c : ℕ) → Kept h j c → Kept (h ▷ e) j c
still_kept h e j c (inl t) = inl (some_or (outcome_in (entry_replies h e) j) (outcome h j) t)
still_kept h e j c (inr s) =
    inr (s.0, (In-append_left s.0 (waiting_calls h) (waiting_calls_by h e) s.1.0, s.1.1))

latest_step : (h : History) (e : Entry) → Follows h → LatestKept h → Step h e → LatestKept (h ▷ e)
latest_step h _ f ih (calls d call n a o) c j l =
    go (reply (verdict h d call)) (calls d call n a o) (d == c) refl l
  where
    here : (place h == place h) ≡ true
    here = grind (arith, nat_tests)

    go : (r : Option Outcome) → Step h (Call d call r) → (b : Bool) → (d == c) ≡ b
        → cond b (Some (place h)) (latest_call h c) ≡ Some j → Kept (h ▷ Call d call r) j c
    go r s true e k =
        let at : place h ≡ j = cc in
        let by : d ≡ c = grind (arith, nat_tests) in
        subst (λ i. Kept (h ▷ Call d call r) i c) at
        (kept_call (h ▷ Call d call r) (f, s) (place h) c (rw here (ap Some by)))
    go r s false e k = still_kept h (Call d call r) j c (ih c j k)
latest_step h _ f ih (joins p n lt) c j l =
    still_kept h (Join (place h) p) j c (ih c j l)
latest_step h _ f ih (dies d n a) c j l =
    still_kept h (Death d) j c (ih c j l)
latest_step h _ f ih (ticks z t n) c j l =
    still_kept h (Moment z t) j c (ih c j l)
latest_step h _ f ih (grants w s i g) c j l =
    still_kept h (Grant w.place (grant_outcome h w)) j c (ih c j l)
latest_step h _ f ih (trips w s i t) c j l =
    still_kept h (Trip w.object) j c (ih c j l)
latest_step h _ f ih (yields m s t) c j l =
    still_kept h (Yield m) j c (ih c j l)
latest_step h _ f ih (expires w s i t) c j l =
    still_kept h (Expire w.place) j c (ih c j l)

-- a seal preserves the latest calls of living clients, with their answers
latest_sealed : (h : History) → Follows h → LatestKept h → LatestKept (Begin (seal h))
latest_sealed h f ih c j l = go (is_alive h c) refl l
  where
    is_kept : is_alive h c ≡ true → latest_call h c ≡ Some j → is_latest h j ≡ true
    is_kept a k =
        let same : is_some_number (latest_call h c) j ≡ true =
        let here : (j == j) ≡ true = grind (arith, nat_tests) in rw k here in
        first_below-some (place h) (λ d. is_alive h d && is_some_number (latest_call h d) j) c
        (alive_below h c (Fresh-follows h f) a)
        (and_from (is_alive h c) (is_some_number (latest_call h c) j) a same)

    part : is_alive h c ≡ true → is_latest h j ≡ true → (o : Option Outcome) → outcome h j ≡ o
        → Kept h j c → Kept (Begin (seal h)) j c
    part a t (Some x) e k = inl (rw (t, e) refl)
    part a t None e (inl k) = absurd (false≢true (sym (ap is_some e) ∙ k))
    part a t None e (inr s) =
        let none : is_none (outcome h s.0.place) ≡ true =
        ap is_none (ap (outcome h) s.1.1.0 ∙ e) in
        let lives : is_alive h s.0.client ≡ true = ap (is_alive h) s.1.1.1 ∙ a in
        let opened : In s.0 (open_calls h) =
        filter-in (is_open_by h (outcome h)) (waiting_calls h) s.0 s.1.0
        (and_from (is_none (outcome h s.0.place)) (is_alive h s.0.client) none lives) in
        inr (s.0, (subst (λ ws. In s.0 ws) (sym (waiting_calls-seal h)) opened, s.1.1))

    go : (b : Bool) → is_alive h c ≡ b → cond b (latest_call h c) None ≡ Some j
        → Kept (Begin (seal h)) j c
    go true a k = part a (is_kept a k) (outcome h j) refl (ih c j k)
    go false a k = absurd cc

pub latest_call-kept : (h : History) → Follows h → (c j : ℕ) → latest_call h c ≡ Some j → Kept h j c
latest_call-kept h f = by_steps LatestKept (λ c j l. absurd cc) latest_step latest_sealed h f

-- a call that is left waiting is the caller's own, and is at this place
left_own : (h : History) (c : ℕ) (E : Effect) → Allowed h c E → (w : WaitingCall)
    → In w (left_by E) → (w.client ≡ c) × (w.place ≡ place h)
left_own h c (Waits v) a w (inl e) =
    (ap (λ (u : WaitingCall). u.client) (e ∙ a.0), ap (λ (u : WaitingCall). u.place) (e ∙ a.0))
left_own h c (Waits v) a w (inr i) = absurd i
left_own h c Idle a w i = absurd i
left_own h c (Creates n kind) a w i = absurd i
left_own h c (Removes n s q) a w i = absurd i
left_own h c (Relocks m) a w i = absurd i
left_own h c (Frees m) a w i = absurd i
left_own h c (Mends m) a w i = absurd i
left_own h c (Returns r) a w i = absurd i
left_own h c (Wakes n all) a w i = absurd i

-- an open call is its client's latest
abbrev IsLatest : History → WaitingCall → Type 0
IsLatest h w = latest_call h w.client ≡ Some w.place

open_step : (h : History) (e : Entry) → Step h e → (w : WaitingCall)
    → (In w (open_calls h) → IsLatest h w) → In w (open_calls h) ⊎ In w (left h e)
    → IsLatest (h ▷ e) w
open_step h _ (calls c call n a o) w ih (inl i) = go (c == w.client) refl
  where
    go : (b : Bool) → (c == w.client) ≡ b
        → cond b (Some (place h)) (latest_call h w.client) ≡ Some w.place
    go true e =
        let by : w.client ≡ c = grind (arith, nat_tests) in
        absurd (none_of_client (open_calls h) c w o i by)
    go false e = ih i
open_step h _ (calls c call n a o) w ih (inr i) =
    let own = left_own h c (effect h c call (reply (verdict h c call))) (allowed h c call) w i in
    let by : w.client ≡ c = own.0 in
    let here : (c == w.client) ≡ true = grind (arith, nat_tests) in
    rw here (ap Some (sym own.1))
open_step h _ (joins p n lt) w ih (inl i) = ih i
open_step h _ (joins p n lt) w ih (inr i) = absurd i
open_step h _ (dies d n a) w ih (inl i) = ih i
open_step h _ (dies d n a) w ih (inr i) = absurd i
open_step h _ (ticks z t n) w ih (inl i) = ih i
open_step h _ (ticks z t n) w ih (inr i) = absurd i
open_step h _ (grants v s j g) w ih (inl i) = ih i
open_step h _ (grants v s j g) w ih (inr i) = absurd i
open_step h _ (trips v s j t) w ih (inl i) = ih i
open_step h _ (trips v s j t) w ih (inr i) = absurd i
open_step h _ (yields m s t) w ih (inl i) = ih i
open_step h _ (yields m s t) w ih (inr i) = absurd i
open_step h _ (expires v s j t) w ih (inl i) = ih i
open_step h _ (expires v s j t) w ih (inr i) = absurd i

pub open-latest_call : (h : History) → Follows h → (w : WaitingCall) → In w (open_calls h)
    → latest_call h w.client ≡ Some w.place
open-latest_call h f =
    by_steps (λ h. (w : WaitingCall) → In w (open_calls h) → IsLatest h w) (λ w i. absurd i)
    (λ h e f ih s w i. open_step h e s w (ih w) (was_open h e f s w i))
    (λ h f ih w i. let o : In w (open_calls h) = open-sealed h w i in
    rw (open_alive h w o) (ih w o)) h f

-- a client's open place is that of one of its calls
placed : (ws : List WaitingCall) (c k : ℕ) → place_of_client ws c ≡ Some k
    → (w : WaitingCall) × (In w ws × (w.client ≡ c))
placed [] c k e = absurd cc
placed (w ∷ ws) c k e = go (w.client == c) refl e (placed ws c k)
  where
    go : (b : Bool) → (w.client == c) ≡ b → cond b (Some w.place) (place_of_client ws c) ≡ Some k
        → (place_of_client ws c ≡ Some k → (v : WaitingCall) × (In v ws × (v.client ≡ c)))
        → (v : WaitingCall) × (In v (w ∷ ws) × (v.client ≡ c))
    go true b e ih = (w, (inl refl, grind (arith, nat_tests)))
    go false b e ih = let r = ih e in (r.0, (inr r.1.0, r.1.1))

module _ (h : History) (f : Follows h) (c j : ℕ) (l : latest_call h c ≡ Some j) where
  -- if the latest call is answered, none is open
  answered : (k : ℕ) (x : Outcome) → open_place h c ≡ Some k → outcome h j ≡ Some x → ⊥
  answered k x o a =
      let w = placed (open_calls h) c k o in
      let late : latest_call h c ≡ Some w.0.place =
      ap (latest_call h) (sym w.1.1) ∙ open-latest_call h f w.0 w.1.0 in
      let same : ◌≡◌ {A = Option ℕ} (Some j) (Some w.0.place) = sym l ∙ late in
      let at : j ≡ w.0.place = cc in
      let none : outcome h w.0.place ≡ None = open_unanswered h w.0 w.1.0 in
      let both : ◌≡◌ {A = Option Outcome} (Some x) None = sym a ∙ (ap (outcome h) at ∙ none) in
      cc

  -- if it is not answered, it is open while the client lives
  unanswered : is_alive h c ≡ true → open_place h c ≡ None → outcome h j ≡ None → ⊥
  unanswered a o n = go (latest_call-kept h f c j l)
    where
      go : (is_some (outcome h j) ≡ true) ⊎ Stood h j c → ⊥
      go (inl t) = false≢true (sym (ap is_some n) ∙ t)
      go (inr s) =
          let none : is_none (outcome h s.0.place) ≡ true =
          ap is_none (ap (outcome h) s.1.1.0 ∙ n) in
          let lives : is_alive h s.0.client ≡ true = ap (is_alive h) s.1.1.1 ∙ a in
          none_of_client (open_calls h) c s.0 o
          (filter-in (is_open_by h (outcome h)) (waiting_calls h) s.0 s.1.0
          (and_from (is_none (outcome h s.0.place)) (is_alive h s.0.client) none lives)) s.1.1.1

  latest_tally : is_alive h c ≡ true
      → open_call_count h c ≡ cond (is_some (reply_if c j (outcome h j))) 0 1
  latest_tally a = go (open_place h c) refl (outcome h j) refl
    where
      go : (p : Option ℕ) → open_place h c ≡ p → (x : Option Outcome) → outcome h j ≡ x
          → ◌≡◌ {A = ℕ} (cond (is_some p) 1 0) (cond (is_some (reply_if c j x)) 0 1)
      go None po None eo = absurd (unanswered a po eo)
      go None po (Some x) eo = refl
      go (Some k) po None eo = refl
      go (Some k) po (Some x) eo = absurd (answered k x po eo)

-- a living client that made a call has an open call exactly if its latest has no answer
pub answer-tally : (h : History) → Follows h → (c : ℕ) → is_alive h c ≡ true
    → is_some (latest_call h c) ≡ true → open_call_count h c ≡ cond (is_some (answer_of h c)) 0 1
answer-tally h f c a s = go (latest_call h c) refl s
  where
    go : (o : Option ℕ) → latest_call h c ≡ o → is_some o ≡ true
        → open_call_count h c ≡ cond (is_some (answer_of h c)) 0 1
    go None e t = absurd cc
    go (Some j) e t = rw (a, e) (latest_tally h f c j e a)

-- a dead client has no open call
pub dead-open : (h : History) (c : ℕ) → is_alive h c ≡ false → open_place h c ≡ None
dead-open h c d = go (open_place h c) refl
  where
    go : (o : Option ℕ) → open_place h c ≡ o → open_place h c ≡ None
    go None e = e
    go (Some k) e =
        let w = placed (open_calls h) c k e in
        let lives : is_alive h c ≡ true = ap (is_alive h) (sym w.1.1) ∙ open_alive h w.0 w.1.0 in
        absurd (false≢true (sym d ∙ lives))
