-- What each entry adds to a client's answers and takes from its open call.
use Rattle.std.proofs.Common.{◌≡◌, ℕ, ◌+◌, ◌==◌, Bool, true, false, not, cond, ◌||◌, List, [], ◌∷◌}
use Rattle.std.proofs.Common.{◌++◌, length, length-append, append_assoc, Option, Some, None}
use Rattle.std.proofs.Common.{is_some, refl, sym, ap, ◌∙◌, arith, filter}
use Rattle.std.proofs.lemmas.Bool.Decides.{nat_tests}
use Rattle.std.proofs.lemmas.List.Elements.{filter-append}
use Rattle.pt_types.specs.declared.call.Call.{Call as Asked}
use Rattle.pt_types.specs.declared.outcome.Outcome.{Outcome}
use Rattle.pt_types.specs.declared.outcome.Outcome.TheVariants.{Etimedout}
use Rattle.pt_types.specs.Operations.{Operation, Inits, Ends, Acquires, Unlocks, Restores}
use Rattle.pt_types.specs.Operations.{Rwunlocks, CondWaits, Signals, Broadcasts, BarrierWaits, operation}
use Rattle.pt_types.specs.Operations.{clock_of}
use Rattle.pt_types.specs.declared.time.Clock.{Clock}
use Rattle.pt_types.specs.Tables.{reply}
use Rattle.pt_model.specs.declared.entry.Entry.{Entry}
use Rattle.pt_model.specs.declared.entry.Entry.TheVariants.{Call, Death}
use Rattle.pt_model.specs.Searches.{In}
use Rattle.pt_model.specs.Records.{ReplyView}
use Rattle.pt_model.specs.declared.waiting_call.WaitingCall.{WaitingCall}
use Rattle.pt_model.specs.Histories.{History, ◌▷◌, place, append_entries}
use Rattle.pt_model.specs.Clients.{client_priority, is_alive}
use Rattle.pt_model.specs.WaitingCall.{waiting_calls_by, waiting_calls_by_operation, is_cond_wait}
use Rattle.pt_model.specs.Answers.{at_barrier, expiry_replies, open_calls, entry_replies}
use Rattle.pt_model.specs.Answers.{replies_from}
use Rattle.pt_model.specs.Answers.{replies_to}
use Rattle.pt_model.specs.Verdicts.{verdict, operation_verdict}
use Rattle.pt_model.specs.Grants.{grant_outcome}
use Rattle.pt_model.specs.Steps.{Step, joins, calls, dies, ticks, grants, trips, yields, expires}
use Rattle.pt_model.specs.Steps.{Follows}
use Rattle.pt_model.proofs.Lists.{filter-all}
use Rattle.pt_model.proofs.Allowances.{allowed}
use Rattle.pt_model.proofs.Readings.{stood-call}
use Rattle.pt_model.proofs.Sound.{Fresh-follows}
use Rattle.pt_model.proofs.Found.{found_open}
use Rattle.pt_model.proofs.Opens.{stands_at_barrier, open-join, open-moment, open-yield, open-call}
use Rattle.pt_model.proofs.Opens.{open-death, open-grant, open-expire, open-trip}
use Rattle.pt_model.proofs.WaitingOrder.{stands-operation}
use Rattle.pt_model.proofs.Disjoint.{Apart, open_apart}
use Rattle.pt_client_events.specs.Tallies.{reply_count_in, open_call_count, own_call_count}
use Rattle.pt_client_events.proofs.CallCounts.{calls_of, calls_of-append, calls_of-kept, calls_of-split}
use Rattle.pt_client_events.proofs.CallCounts.{calls_of-out, reply_count_in-trip, calls_of-open}

-- an operation with no answer leaves one call waiting, which is the client's
left_waiting : (h : History) (d : ℕ) (k : Clock) (x : Operation) (c : ℕ)
    → reply (operation_verdict h d x) ≡ None
    → calls_of c (waiting_calls_by_operation h d k x) ≡ cond (d == c) 1 0
left_waiting h d k (Acquires n want how) c e = omega arith
left_waiting h d k (CondWaits n m t) c e = omega arith
left_waiting h d k (BarrierWaits n) c e = omega arith
left_waiting h d k (Inits n kind) c e =
    absurd (stands-operation h d k (Inits n kind) e).1.0
left_waiting h d k (Ends n class) c e =
    absurd (stands-operation h d k (Ends n class) e).1.0
left_waiting h d k (Unlocks n) c e = absurd (stands-operation h d k (Unlocks n) e).1.0
left_waiting h d k (Restores n) c e = absurd (stands-operation h d k (Restores n) e).1.0
left_waiting h d k (Rwunlocks n) c e = absurd (stands-operation h d k (Rwunlocks n) e).1.0
left_waiting h d k (Signals n) c e = absurd (stands-operation h d k (Signals n) e).1.0
left_waiting h d k (Broadcasts n) c e = absurd (stands-operation h d k (Broadcasts n) e).1.0

-- a call is answered at once, or waits
call_tally : (h : History) (d : ℕ) (call : Asked) (r : Option Outcome) (c : ℕ)
    → reply (verdict h d call) ≡ r
    → reply_count_in c (entry_replies h (Call d call r)) + calls_of c (waiting_calls_by h
    (Call d call r))
    ≡ cond (d == c) 1 0
call_tally h d call None c e =
    omega (arith, left_waiting h d (clock_of call) (operation call) c e)
call_tally h d call (Some x) c e = go (d == c)
  where
    go : (b : Bool)
        → length {A = ReplyView} (cond b (record { client = d; place = place h; outcome = x }
        ∷ []) [])
        + 0 ≡ cond b 1 0
    go true = refl
    go false = refl

one_told : (c d j : ℕ) (x : Outcome)
    → reply_count_in c (record { client = d; place = j; outcome = x } ∷ []) ≡ cond (d == c) 1 0
one_told c d j x = go (d == c)
  where
    go : (b : Bool)
        → length {A = ReplyView} (cond b (record { client = d; place = j; outcome = x } ∷ []) [])
        ≡ cond b 1 0
    go true = refl
    go false = refl

-- a client that lives after a Death is not the one that died
not_died : (h : History) (d c : ℕ) → is_alive (h ▷ Death d) c ≡ true → (d == c) ≡ false
not_died h d c a = go (d == c) refl a
  where
    go : (b : Bool) → (d == c) ≡ b → is_some (cond b None (client_priority h c)) ≡ true → (d == c)
        ≡ false
    go true e t = absurd cc
    go false e t = e

-- an expired call is answered, or is a wait that stays open
expiry_tally : (c : ℕ) (w : WaitingCall) (ws : List WaitingCall) (b : Bool) → In w ws → Apart ws
    → reply_count_in c (expiry_replies w.place (Some w) b)
    + calls_of c (filter (λ v. b || not (v.place == w.place)) ws) ≡ calls_of c ws
expiry_tally c w ws true i a =
    rw (filter-all (λ (v : WaitingCall). true || not (v.place == w.place)) ws (λ v j. refl))
    (omega arith)
expiry_tally c w ws false i a =
    omega (arith, one_told c w.client w.place Etimedout, calls_of-out c ws w i a)

module _ (h : History) (c : ℕ) where
  -- the client's calls that are open after an entry, and the answers that the entry gives it
  calls_step : (e : Entry) → Follows h → Step h e → is_alive (h ▷ e) c ≡ true
      → reply_count_in c (entry_replies h e) + calls_of c (open_calls (h ▷ e))
      ≡ calls_of c (open_calls h) + own_call_count c e
  calls_step _ f (joins p n lt) a = rw (open-join h p (Fresh-follows h f)) (omega arith)
  calls_step _ f (calls d call n l o) a =
      rw (
        open-call h d call (reply (verdict h d call)) (Fresh-follows h f) l (allowed h d call),
        ← stood-call h d call (reply (verdict h d call)),
        calls_of-append c (open_calls h) (waiting_calls_by h (Call d call (reply
            (verdict h d call)))),
      )
      (omega (arith, call_tally h d call (reply (verdict h d call)) c refl))
  calls_step _ f (dies d n l) a =
      let ne : (d == c) ≡ false = not_died h d c a in
      rw (
        open-death h d,
        calls_of-kept c (λ (w : WaitingCall). not (w.client == d)) (open_calls h)
            (λ w t. let other : (w.client == d) ≡ false = grind (arith, nat_tests) in
            rw other refl),
      )
      (omega arith)
  calls_step _ f (ticks z t n) a = rw (open-moment h z t) (omega arith)
  calls_step _ f (yields m s o) a = rw (open-yield h m) (omega arith)
  calls_step _ f (grants w s i g) a =
      rw (open-grant h w.place _, found_open h f w i)
      (omega (
        arith,
        one_told c w.client w.place (grant_outcome h w),
        calls_of-out c (open_calls h) w i (open_apart h f),
      ))
  calls_step _ f (trips w s i t) a =
      rw (open-trip h w.object f, reply_count_in-trip c (at_barrier w.object (open_calls h)))
      (omega (arith, calls_of-split c (stands_at_barrier w.object) (open_calls h)))
  calls_step _ f (expires w s i t) a =
      rw (open-expire h w f i, found_open h f w i)
      (omega (arith, expiry_tally c w (open_calls h) (is_cond_wait w.role) i (open_apart h f)))

  -- its answers plus its open call: only a call of its own adds one
  pub tally_step : (e : Entry) → Follows h → Step h e → is_alive (h ▷ e) c ≡ true
      → reply_count_in c (entry_replies h e) + open_call_count (h ▷ e) c
      ≡ open_call_count h c + own_call_count c e
  tally_step e f s a =
      omega (arith, calls_step e f s a, calls_of-open h c f, calls_of-open (h ▷ e) c (f, s))

pub reply_count_in-append : (c : ℕ) (xs ys : List ReplyView) → reply_count_in c (xs ++ ys)
    ≡ reply_count_in c xs + reply_count_in c ys
reply_count_in-append c xs ys =
    ap length (filter-append (λ (t : ReplyView). t.client == c) xs ys)
    ∙ length-append (replies_to c xs) (replies_to c ys)

pub replies-append : (h : History) (xs ys : List Entry)
    → replies_from h (xs ++ ys) ≡ replies_from h xs ++ replies_from (append_entries h xs) ys
replies-append h [] ys = refl
replies-append h (x ∷ xs) ys =
    ap (λ ts. entry_replies h x ++ ts) (replies-append (h ▷ x) xs ys)
    ∙ sym (append_assoc (entry_replies h x) (replies_from (h ▷ x) xs) (replies_from (append_entries
    (h ▷ x) xs) ys))
