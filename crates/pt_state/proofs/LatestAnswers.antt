-- The answer to a client's latest call, before an entry and after it.
use Rattle.std.proofs.Common.{◌≡◌, ℕ, ◌<◌, ◌==◌, ◌&&◌, Bool, true, false, cond, List, [], ◌∷◌}
use Rattle.std.proofs.Common.{Option, Some, None, is_some, option_and_then, refl, sym, ap, ◌∙◌}
use Rattle.std.proofs.Common.{arith}
use Rattle.std.proofs.lemmas.Bool.Decides.{nat_tests}
use Rattle.std.proofs.lemmas.Bool.{false≢true, and_parts, and_from}
use Rattle.std.specs.Option.{option_or}
use Rattle.pt_types.specs.declared.call.Call.{Call as FunctionCall}
use Rattle.pt_types.specs.declared.outcome.Outcome.{Outcome}
use Rattle.pt_types.specs.MutexTable.{is_some_number}
use Rattle.pt_types.specs.Tables.{reply}
use Rattle.pt_model.specs.declared.entry.Entry.{Entry}
use Rattle.pt_model.specs.declared.entry.Entry.TheVariants.{Join, Call, Death, Moment, Grant, Trip}
use Rattle.pt_model.specs.declared.entry.Entry.TheVariants.{Yield, Expire}
use Rattle.pt_model.specs.Searches.{In}
use Rattle.pt_model.specs.Histories.{History, Begin, ◌▷◌, place}
use Rattle.pt_model.specs.Clients.{is_alive}
use Rattle.pt_model.specs.declared.waiting_call.WaitingCall.{WaitingCall}
use Rattle.pt_model.specs.Answers.{entry_replies, trip_replies, at_barrier, outcome_in, outcome}
use Rattle.pt_model.specs.Answers.{open_calls}
use Rattle.pt_model.specs.Queries.{latest_call}
use Rattle.pt_model.specs.Seals.{is_latest, seal}
use Rattle.pt_model.specs.Grants.{grant_outcome}
use Rattle.pt_model.specs.Verdicts.{verdict}
use Rattle.pt_model.specs.Steps.{Step, joins, calls, dies, ticks, grants, trips, yields, expires}
use Rattle.pt_model.specs.Steps.{Follows}
use Rattle.pt_model.proofs.Induction.{by_steps}
use Rattle.pt_model.proofs.Leasts.{first_below-some}
use Rattle.pt_model.proofs.Lists.{In-filter, any-in}
use Rattle.pt_model.proofs.Once.{open_unanswered}
use Rattle.pt_model.proofs.Opens.{stands_at_barrier, trip-any}
use Rattle.pt_model.proofs.Sound.{Fresh, Fresh-follows, alive_below}
use Rattle.pt_client_events.proofs.LatestCalls.{open-latest_call}
use Rattle.pt_records.specs.Callers.{latest_answer}
use Rattle.pt_records.specs.Logs.{log, outcome_before, outcome_in_log}
use Rattle.pt_records.proofs.LogLemmas.{log-outcome}
use Rattle.pt_state.proofs.ReplyLemmas.{answer_to}

-- a latest call has come, and is no other client's
pub record IsLatest (h : History) (c j : ℕ) : Type 0 where
  pub came : j < place h
  pub alone : (d : ℕ) → latest_call h d ≡ Some j → c ≡ d

abbrev AreLatest : History → Type 0
AreLatest h = (c j : ℕ) → latest_call h c ≡ Some j → IsLatest h c j

-- the latest calls stay if no call is added
later : (h : History) (e : Entry) (c j : ℕ) → ((d : ℕ) → latest_call (h ▷ e) d ≡ latest_call h d)
    → IsLatest h c j
    → IsLatest (h ▷ e) c j
later h e c j same l =
    record { came = omega (arith, l.came); alone = λ d k. l.alone d (sym (same d) ∙ k) }

latest_called : (h : History) (a : ℕ) (call : FunctionCall) (r : Option Outcome) → AreLatest h
    → AreLatest (h ▷ Call a call r)
latest_called h a call r ih c j l = go (a == c) refl l
  where
    own : (d : ℕ) (b : Bool) → (a == d) ≡ b → cond b (Some (place h)) (latest_call h d)
        ≡ Some (place h)
        → a ≡ d
    own d true e k = grind (arith, nat_tests)
    own d false e k = let lt = (ih d (place h) k).came in absurd (omega (arith, lt))

    other : (d : ℕ) (b : Bool) → (a == d) ≡ b → cond b (Some (place h)) (latest_call h d) ≡ Some j
        → latest_call h c ≡ Some j → c ≡ d
    other d true e k m =
        let at : place h ≡ j = cc in
        let lt = (ih c j m).came in
        absurd (omega (arith, at, lt))
    other d false e k m = (ih c j m).alone d k

    go : (b : Bool) → (a == c) ≡ b → cond b (Some (place h)) (latest_call h c) ≡ Some j
        → IsLatest (h ▷ Call a call r) c j
    go true e k =
        let at : place h ≡ j = cc in
        let by : a ≡ c = grind (arith, nat_tests) in
        record {
          came = omega (arith, at);
          alone = λ d m. sym by ∙ own d (a == d) refl (m ∙ ap Some (sym at));
        }
    go false e k = record {
      came = omega (arith, (ih c j k).came);
      alone = λ d m. other d (a == d) refl m k;
    }

latest_step : (h : History) (e : Entry) → AreLatest h → Step h e → AreLatest (h ▷ e)
latest_step h _ ih (calls a call n l o) c j k =
    latest_called h a call (reply (verdict h a call)) ih c j k
latest_step h _ ih (joins p n lt) c j l =
    later h (Join (place h) p) c j (λ d. refl) (ih c j l)
latest_step h _ ih (dies d n a) c j l =
    later h (Death d) c j (λ d. refl) (ih c j l)
latest_step h _ ih (ticks k t n) c j l =
    later h (Moment k t) c j (λ d. refl) (ih c j l)
latest_step h _ ih (grants w s i g) c j l =
    later h (Grant w.place (grant_outcome h w)) c j (λ d. refl) (ih c j l)
latest_step h _ ih (trips w s i t) c j l =
    later h (Trip w.object) c j (λ d. refl) (ih c j l)
latest_step h _ ih (yields m s t) c j l =
    later h (Yield m) c j (λ d. refl) (ih c j l)
latest_step h _ ih (expires w s i t) c j l =
    later h (Expire w.place) c j (λ d. refl) (ih c j l)

kept_some : (b : Bool) (o : Option ℕ) (j : ℕ) → cond b o None ≡ Some j → o ≡ Some j
kept_some true o j e = e
kept_some false o j e = absurd cc

latest_sealed : (h : History) → AreLatest h → AreLatest (Begin (seal h))
latest_sealed h ih c j l =
    let was = ih c j (kept_some (is_alive h c) (latest_call h c) j l) in
    record {
      came = was.came;
      alone = λ d k. was.alone d (kept_some (is_alive h d) (latest_call h d) j k);
    }

pub are-latest_call : (h : History) → Follows h → (c j : ℕ) → latest_call h c ≡ Some j
    → IsLatest h c j
are-latest_call h f =
    by_steps AreLatest (λ c j l. absurd cc) (λ h e f ih s. latest_step h e ih s)
    (λ h f ih. latest_sealed h ih) h f

-- the answer to the latest call is the same if neither the call nor its answer changes
pub answer-same : (h g : History) (c : ℕ) → latest_call g c ≡ latest_call h c
    → ((j : ℕ) → latest_call h c ≡ Some j → outcome g j ≡ outcome h j)
    → latest_answer g c ≡ latest_answer h c
answer-same h g c l t = ap (option_and_then (outcome g)) l ∙ go (latest_call h c) t
  where
    go : (o : Option ℕ) → ((j : ℕ) → o ≡ Some j → outcome g j ≡ outcome h j)
        → option_and_then (outcome g) o ≡ option_and_then (outcome h) o
    go None t = refl
    go (Some j) t = t j refl

-- an entry that answers nothing
pub answer-quiet : (h : History) (e : Entry) (c : ℕ) → latest_call (h ▷ e) c ≡ latest_call h c
    → entry_replies h e ≡ [] → latest_answer (h ▷ e) c ≡ latest_answer h c
answer-quiet h e c l t =
    answer-same h (h ▷ e) c l (λ j k. ap (λ ts. option_or (outcome_in ts j) (outcome h j)) t)

-- a call is its client's latest
pub answer-called : (h : History) (c : ℕ) (call : FunctionCall) (r : Option Outcome) → Fresh h
    → latest_answer (h ▷ Call c call r) c ≡ r
answer-called h c call r f =
    let here : (c == c) ≡ true = grind (arith, nat_tests) in rw here (go r)
  where
    go : (x : Option Outcome) → outcome (h ▷ Call c call x) (place h) ≡ x
    go (Some x) = let there : (place h == place h) ≡ true = grind (arith, nat_tests) in
        rw there refl
    go None = f.answers (place h) (omega arith)

-- and nobody else's
pub answer-other : (h : History) (c : ℕ) (call : FunctionCall) (r : Option Outcome) (d : ℕ) → Follows h
    → (c == d) ≡ false → latest_answer (h ▷ Call c call r) d ≡ latest_answer h d
answer-other h c call r d f ne =
    answer-same h (h ▷ Call c call r) d (rw ne refl) (λ j l. go r j
    (are-latest_call h f d j l).came)
  where
    go : (x : Option Outcome) (j : ℕ) → j < place h
        → outcome (h ▷ Call c call x) j ≡ outcome h j
    go None j lt = refl
    go (Some x) j lt =
        let apart : (place h == j) ≡ false = grind (arith, nat_tests) in rw apart refl

module _ (h : History) (f : Follows h) (w : WaitingCall) (i : In w (open_calls h)) (e : Entry)
    (x : Outcome) (one : entry_replies h e ≡ answer_to w x ∷ []) where
  -- an open call is answered
  pub answer-one : latest_call (h ▷ e) w.client ≡ latest_call h w.client
      → latest_answer (h ▷ e) w.client ≡ Some x
  answer-one l =
      ap (option_and_then (outcome (h ▷ e))) (l ∙ open-latest_call h f w i)
      ∙ (ap (λ ts. option_or (outcome_in ts w.place) (outcome h w.place)) one
      ∙ (let here : (w.place == w.place) ≡ true = grind (arith, nat_tests) in rw here refl))

  -- the other clients' latest calls have the answers that they had
  pub answer-others : (d : ℕ) → (w.client == d) ≡ false → latest_call (h ▷ e) d ≡ latest_call h d
      → latest_answer (h ▷ e) d ≡ latest_answer h d
  answer-others d ne l =
      answer-same h (h ▷ e) d l (λ j k.
      ap (λ ts. option_or (outcome_in ts j) (outcome h j)) one ∙ go j k (w.place == j) refl)
    where
      go : (j : ℕ) → latest_call h d ≡ Some j → (b : Bool) → (w.place == j) ≡ b
          → option_or (cond b (Some x) None) (outcome h j) ≡ outcome h j
      go j k true e =
          let at : w.place ≡ j = grind (arith, nat_tests) in
          let by : w.client ≡ d =
          (are-latest_call h f w.client w.place (open-latest_call h f w i)).alone d (k
          ∙ ap Some (sym at)) in
          absurd (grind (arith, nat_tests))
      go j k false e = refl

or_before : (a b : Option Outcome) → option_or a b ≡ None → b ≡ None
or_before None b e = e
or_before (Some x) b e = absurd cc

or_none : (a b : Option Outcome) → b ≡ None → option_or a b ≡ a
or_none None b e = e
or_none (Some x) b e = refl

module _ (h : History) (f : Follows h) (b : ℕ) where
  -- a call at a barrier that trips has the answer that is logged
  pub answer-tripped : (w : WaitingCall) → In w (open_calls h)
      → latest_answer (h ▷ Trip b) w.client ≡ outcome_in_log (log (h ▷ Trip b)) w.place
  answer-tripped w i =
      ap (option_and_then (outcome (h ▷ Trip b))) (open-latest_call h f w i)
      ∙ (log-outcome (h ▷ Trip b) w.place
      ∙ or_none (outcome_in_log (log (h ▷ Trip b)) w.place) (outcome_before h w.place)
      (or_before (outcome_in_log (log h) w.place) (outcome_before h w.place)
      (sym (log-outcome h w.place) ∙ open_unanswered h w i)))

  -- no other call is answered
  pub answer-untripped : (d : ℕ) → ((w : WaitingCall) → In w (open_calls h) → w.client ≡ d
      → stands_at_barrier b w ≡ false) → latest_answer (h ▷ Trip b) d ≡ latest_answer h d
  answer-untripped d t =
      answer-same h (h ▷ Trip b) d refl (λ j l. go j l (outcome_in (entry_replies h
      (Trip b)) j) refl)
    where
      ws : List WaitingCall
      ws = at_barrier b (open_calls h)

      go : (j : ℕ) → latest_call h d ≡ Some j → (o : Option Outcome)
          → outcome_in (trip_replies (at_barrier b (open_calls h))) j ≡ o
          → option_or o (outcome h j) ≡ outcome h j
      go j l None e = refl
      go j l (Some x) e =
          let r = any-in (λ (v : WaitingCall). (v.place == j) && true) ws
          (sym (trip-any ws j) ∙ ap is_some e) in
          let i = In-filter (stands_at_barrier b) (open_calls h) r.0 r.1.0 in
          let here = (and_parts (r.0.place == j) true r.1.1).0 in
          let at : r.0.place ≡ j = grind (arith, nat_tests) in
          let by : r.0.client ≡ d =
          (are-latest_call h f r.0.client r.0.place (open-latest_call h f r.0 i.0)).alone d
          (l ∙ ap Some (sym at)) in
          absurd (false≢true (sym (t r.0 i.0 by) ∙ i.1))

-- a seal leaves the answer to a living client's latest call unchanged
pub answer-sealed : (h : History) → Follows h → (c : ℕ) → is_alive h c ≡ true
    → latest_answer (Begin (seal h)) c ≡ latest_answer h c
answer-sealed h f c a =
    answer-same h (Begin (seal h)) c (rw a refl) (λ j l. rw (kept j l) refl)
  where
    kept : (j : ℕ) → latest_call h c ≡ Some j → is_latest h j ≡ true
    kept j l =
        let same : is_some_number (latest_call h c) j ≡ true =
        let here : (j == j) ≡ true = grind (arith, nat_tests) in rw l here in
        first_below-some (place h) (λ d. is_alive h d && is_some_number (latest_call h d) j) c
        (alive_below h c (Fresh-follows h f) a)
        (and_from (is_alive h c) (is_some_number (latest_call h c) j) a same)
