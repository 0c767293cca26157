-- The log of answers: its order, its end from a place on, and what a search of it finds.
use Rattle.std.proofs.Common.{◌≡◌, ◌≢◌, ◌⊎◌, ℕ, zero, suc, ◌+◌, ◌-◌, ◌<◌, ◌≤◌, Bool, true, false}
use Rattle.std.proofs.Common.{cond, eqb, List, [], ◌∷◌, ◌++◌, Option, Some, None, is_some, length}
use Rattle.std.proofs.Common.{take, drop, refl, sym, ap, ◌∙◌, arith, inl, inr, append_assoc}
use Rattle.std.proofs.Common.{append-nil}
use Rattle.std.specs.Prelude.{◌==◌, ◌&&◌, nat_le}
use Rattle.std.specs.Option.{option_or}
use Rattle.std.proofs.lemmas.Bool.{eq-eqb, ne_eqb, cases_eq, cases_lt, le-leb, lt-leb}
use Rattle.std.proofs.lemmas.List.{map-append, take-append-drop, length-take, length-take-le}
use Rattle.std.proofs.lemmas.List.Elements.{filter-append}
use Rattle.std.proofs.Math.ListN.{drop_of_length-le}
use Rattle.pt_model.specs.declared.entry.Entry.{Entry}
use Rattle.pt_model.specs.declared.entry.Entry.TheVariants.{Join, Call, Death, Moment, Grant, Trip}
use Rattle.pt_model.specs.declared.entry.Entry.TheVariants.{Yield, Expire}
use Rattle.pt_model.specs.Searches.{Each}
use Rattle.pt_types.specs.declared.outcome.Outcome.{Outcome}
use Rattle.pt_model.specs.Starts.{Start}
use Rattle.pt_model.specs.Histories.{History, Begin, ◌▷◌, place, append_entries, history_since}
use Rattle.pt_model.specs.Records.{ReplyView}
use Rattle.pt_model.specs.declared.waiting_call.WaitingCall.{WaitingCall}
use Rattle.pt_model.specs.WaitingCall.{waiting_calls, call_at_place, is_barrier_wait}
use Rattle.pt_model.specs.WaitingCall.{is_cond_wait_if}
use Rattle.pt_model.specs.Answers.{entry_replies, trip_replies, expiry_replies, at_barrier}
use Rattle.pt_model.specs.Answers.{open_calls}
use Rattle.pt_model.specs.Answers.{outcome_in, outcome, replies_from}
use Rattle.pt_model.specs.Queries.{answers_since}
use Rattle.pt_model.specs.Steps.{Follows}
use Rattle.pt_model.proofs.Histories.{append_entries-append, place-history_since}
use Rattle.pt_model.proofs.Lists.{Each-append, Each-weaker}
use Rattle.pt_model.proofs.Sound.{Fresh-follows}
use Rattle.pt_model.proofs.Once.{answers-unanswered}
use Rattle.pt_model.proofs.Ascending.{Ascends, Ascends-filter}
use Rattle.pt_model.proofs.OpenOrder.{open-ascends}
use Rattle.pt_records.specs.Logs.{replies_with_place, log, outcome_before, answers_in, log_since}
use Rattle.pt_records.specs.Logs.{HasRisingPlaces, last_to}
use Rattle.pt_records.specs.Logs.{outcome_if, outcome_in_log, first_to, first_outcome_to}

-- all these answers were given before place n
abbrev pub Before : ℕ → List (ℕ × ReplyView) → Type 0
Before n ps = Each (λ p. p.0 < n) ps

replies_with_place-before : (k : ℕ) (ts : List ReplyView) → Before (suc k) (replies_with_place k ts)
replies_with_place-before k [] = tt
replies_with_place-before k (t ∷ ts) = (omega arith, replies_with_place-before k ts)

-- all answers were given before the next place
pub log-before : (h : History) → Before (place h) (log h)
log-before (Begin s) = tt
log-before (h ▷ e) =
    Each-append (λ p. p.0 < suc (place h)) (log h) (replies_with_place (place h)
    (entry_replies h e))
    (Each-weaker (λ p. p.0 < place h) (λ p. p.0 < suc (place h)) (λ p lt. omega (arith, lt)) (log h)
    (log-before h))
    (replies_with_place-before (place h) (entry_replies h e))

rises-entry_replies : (k : ℕ) (ts : List ReplyView) → HasRisingPlaces k (replies_with_place k ts)
rises-entry_replies k [] = tt
rises-entry_replies k (t ∷ ts) = (omega arith, rises-entry_replies k ts)

rises-weaker : (m n : ℕ) (ps : List (ℕ × ReplyView)) → m ≤ n → HasRisingPlaces n ps
    → HasRisingPlaces m ps
rises-weaker m n [] le r = tt
rises-weaker m n (p ∷ ps) le r = (omega (arith, le, r.0), r.1)

rises-append :
    (n k : ℕ) (xs ys : List (ℕ × ReplyView)) → HasRisingPlaces n xs → Before (suc k) xs → n ≤ k
    → HasRisingPlaces k ys
    → HasRisingPlaces n (xs ++ ys)
rises-append n k [] ys r b le s = rises-weaker n k ys le s
rises-append n k (x ∷ xs) ys r b le s =
    (r.0, rises-append x.0 k xs ys r.1 b.1 (omega (arith, b.0)) s)

-- the places of the entries that gave the answers never fall
pub log-rises : (h : History) → HasRisingPlaces 0 (log h)
log-rises (Begin s) = tt
log-rises (h ▷ e) =
    rises-append 0 (place h) (log h) (replies_with_place (place h) (entry_replies h e))
    (log-rises h)
    (Each-weaker (λ p. p.0 < place h) (λ p. p.0 < suc (place h)) (λ p lt. omega (arith, lt)) (log h)
    (log-before h))
    (omega arith) (rises-entry_replies (place h) (entry_replies h e))

-- none was given since a place that is after all of theirs
pub log_since-none : (n k : ℕ) (ps : List (ℕ × ReplyView)) → Before n ps → n ≤ k → log_since k ps
    ≡ []
log_since-none n k [] b le = refl
log_since-none n k (p ∷ ps) b le =
    rw (lt-leb k p.0 (omega (arith, b.0, le))) (log_since-none n k ps b.1 le)

-- all were given since a place that is not after the first of theirs
pub log_since-all : (n k : ℕ) (ps : List (ℕ × ReplyView)) → HasRisingPlaces n ps → k ≤ n
    → log_since k ps ≡ ps
log_since-all n k [] r le = refl
log_since-all n k (p ∷ ps) r le =
    rw (le-leb k p.0 (omega (arith, r.0, le)))
    (ap (λ qs. p ∷ qs) (log_since-all p.0 k ps r.1 (omega (arith, r.0, le))))

-- the answers that these entries give after h
abbrev pub log_onto : History → List Entry → List (ℕ × ReplyView)
log_onto h [] = []
log_onto h (e ∷ es) = replies_with_place (place h) (entry_replies h e) ++ log_onto (h ▷ e) es

log-append_entries : (h : History) (es : List Entry) → log (append_entries h es) ≡ log h
    ++ log_onto h es
log-append_entries h [] = sym (append-nil (log h))
log-append_entries h (e ∷ es) =
    log-append_entries (h ▷ e) es
    ∙ append_assoc (log h) (replies_with_place (place h) (entry_replies h e)) (log_onto (h ▷ e) es)

answers_in-entry_replies : (k : ℕ) (ts : List ReplyView) → answers_in (replies_with_place k ts) ≡ ts
answers_in-entry_replies k [] = refl
answers_in-entry_replies k (t ∷ ts) = ap (λ us. t ∷ us) (answers_in-entry_replies k ts)

answers_in-append_entries : (h : History) (es : List Entry) → answers_in (log_onto h es)
    ≡ replies_from h es
answers_in-append_entries h [] = refl
answers_in-append_entries h (e ∷ es) =
    map-append (λ p. p.1) (replies_with_place (place h) (entry_replies h e)) (log_onto (h ▷ e) es)
    ∙ (ap (λ ts. ts ++ answers_in (log_onto (h ▷ e) es)) (answers_in-entry_replies (place h)
    (entry_replies h e))
    ∙ ap (λ ts. entry_replies h e ++ ts) (answers_in-append_entries (h ▷ e) es))

log_since-entry_replies : (k n : ℕ) (ts : List ReplyView) → k ≤ n
    → log_since k (replies_with_place n ts) ≡ replies_with_place n ts
log_since-entry_replies k n ts le = log_since-all n k (replies_with_place n ts)
    (rises-entry_replies n ts) le

log_since-append_entries : (k : ℕ) (h : History) (es : List Entry) → k ≤ place h
    → log_since k (log_onto h es) ≡ log_onto h es
log_since-append_entries k h [] le = refl
log_since-append_entries k h (e ∷ es) le =
    filter-append (λ p. nat_le k p.0) (replies_with_place (place h) (entry_replies h e)) (log_onto
    (h ▷ e) es)
    ∙ (ap (λ ps. ps ++ log_since k (log_onto (h ▷ e) es)) (log_since-entry_replies k (place h)
    (entry_replies h e) le)
    ∙ ap (λ ps. replies_with_place (place h) (entry_replies h e) ++ ps)
    (log_since-append_entries k (h ▷ e) es (omega (arith, le))))

-- the answers from place k on are those that were logged since then
pub log-from : (s : Start) (es : List Entry) (k : ℕ)
    → answers_since s k es ≡ answers_in (log_since k (log (history_since s es)))
log-from s es k = sym (ap answers_in (whole ∙ split (cases_lt (length es) n))
    ∙ answers_in-append_entries past (drop n es))
  where
    n : ℕ
    n = k - s.at

    past : History
    past = history_since s (take n es)

    rest : List (ℕ × ReplyView)
    rest = log_onto past (drop n es)

    parts : log (history_since s es) ≡ log past ++ rest
    parts = ap (λ xs. log (history_since s xs)) (sym (take-append-drop n es))
        ∙ (ap log (append_entries-append (Begin s) (take n es) (drop n es))
        ∙ log-append_entries past (drop n es))

    at : place past ≡ s.at + length (take n es)
    at = place-history_since s (take n es)

    early : (k < s.at) ⊎ (s.at ≤ k) → log_since k (log past) ≡ []
    early (inl lt) = go n (omega (arith, lt))
      where
        go : (m : ℕ) → m ≡ 0 → log_since k (log (history_since s (take m es))) ≡ []
        go zero e = refl
        go (suc m) e = absurd cc
    early (inr le) = log_since-none (place past) k (log past) (log-before past)
        (omega (arith, at, length-take n es, le))

    whole : log_since k (log (history_since s es)) ≡ log_since k rest
    whole = ap (log_since k) parts
        ∙ (filter-append (λ p. nat_le k p.0) (log past) rest
        ∙ ap (λ ps. ps ++ log_since k rest) (early (cases_lt k s.at)))

    split : (length es < n) ⊎ (n ≤ length es) → log_since k rest ≡ rest
    split (inl lt) = none (drop_of_length-le es (omega (arith, lt)))
      where
        none : drop n es ≡ [] → log_since k rest ≡ rest
        none e = rw e refl
    split (inr le) = log_since-append_entries k past (drop n es) (omega
        (arith, at, length-take-le n es le))

-- each place is greater than those before it, and at least n
abbrev Climbs : ℕ → List ReplyView → Type 0
Climbs n [] = Unit {0}
Climbs n (t ∷ ts) = (n ≤ t.place) × Climbs (suc t.place) ts

trip-climbs : (n : ℕ) (ws : List WaitingCall) → Ascends n ws → Climbs n (trip_replies ws)
trip-climbs n [] a = tt
trip-climbs n (w ∷ ws) a = (a.0, trip-climbs (suc w.place) ws a.1)

expiry-climbs : (j : ℕ) (o : Option WaitingCall) (b : Bool) → Climbs 0 (expiry_replies j o b)
expiry-climbs j o true = tt
expiry-climbs j o false = (omega arith, tt)

-- the answers of an entry are in order of their places
entry_replies-climbs : (h : History) (e : Entry) → Climbs 0 (entry_replies h e)
entry_replies-climbs h (Call c call (Some x)) = (omega arith, tt)
entry_replies-climbs h (Call c call None) = tt
entry_replies-climbs h (Join c p) = tt
entry_replies-climbs h (Death c) = tt
entry_replies-climbs h (Moment k t) = tt
entry_replies-climbs h (Grant j x) = (omega arith, tt)
entry_replies-climbs h (Trip b) =
    trip-climbs 0 (at_barrier b (open_calls h))
    (Ascends-filter (λ w. is_barrier_wait w.role
    && (w.object == b)) 0 (open_calls h) (open-ascends h))
entry_replies-climbs h (Yield m) = tt
entry_replies-climbs h (Expire j) =
    expiry-climbs j (call_at_place j (waiting_calls h)) (is_cond_wait_if (call_at_place j
    (waiting_calls h)))

last_to-early : (j n k : ℕ) (ts : List ReplyView) → Climbs n ts → j < n
    → last_to (replies_with_place k ts) j ≡ None
last_to-early j n k [] a lt = refl
last_to-early j n k (t ∷ ts) a lt =
    rw (
      last_to-early j (suc t.place) k ts a.1 (omega (arith, a.0, lt)),
      ne_eqb t.place j (λ e. omega (arith, a.0, lt, e)),
    ) refl

-- among the answers of one entry, the last one to a call is the only one
last-only : (j n k : ℕ) (ts : List ReplyView) → Climbs n ts
    → outcome_in_log (replies_with_place k ts) j ≡ outcome_in ts j
last-only j n k [] a = refl
last-only j n k (t ∷ ts) a =
    elim (cases_eq t.place j) [
      | inl e ↦
          rw (
            last_to-early j (suc t.place) k ts a.1 (omega (arith, e)),
            eq-eqb t.place j e,
          ) refl
      | inr ne ↦ other ne (last-only j (suc t.place) k ts a.1)
    ]
  where
    or_none : (o : Option ReplyView) → option_or o None ≡ o
    or_none None = refl
    or_none (Some x) = refl

    other : (t.place ≢ j) → outcome_if (last_to (replies_with_place k ts) j) ≡ outcome_in ts j
        → outcome_in_log (replies_with_place k (t ∷ ts)) j ≡ outcome_in (t ∷ ts) j
    other ne ih = rw (ne_eqb t.place j ne) (ap outcome_if (or_none (last_to
        (replies_with_place k ts) j)) ∙ ih)

said-or : (a b : Option ReplyView) → outcome_if (option_or a b)
    ≡ option_or (outcome_if a) (outcome_if b)
said-or None b = refl
said-or (Some x) b = refl

or-or : (a b c : Option ReplyView) → option_or (option_or a b) c ≡ option_or a (option_or b c)
or-or None b c = refl
or-or (Some x) b c = refl

-- the last answer in two logs is that of the later one, if it has one
pub last_to-append : (ps qs : List (ℕ × ReplyView)) (j : ℕ)
    → last_to (ps ++ qs) j ≡ option_or (last_to qs j) (last_to ps j)
last_to-append [] qs j = none (last_to qs j)
  where
    none : (o : Option ReplyView) → o ≡ option_or o None
    none None = refl
    none (Some x) = refl
last_to-append (p ∷ ps) qs j =
    ap (λ o. option_or o (cond (eqb p.1.place j) (Some p.1) None)) (last_to-append ps qs j)
    ∙ or-or (last_to qs j) (last_to ps j) (cond (eqb p.1.place j) (Some p.1) None)

outcome-append : (ps qs : List (ℕ × ReplyView)) (j : ℕ)
    → outcome_in_log (ps ++ qs) j ≡ option_or (outcome_in_log qs j) (outcome_in_log ps j)
outcome-append ps qs j =
    ap outcome_if (last_to-append ps qs j) ∙ said-or (last_to qs j) (last_to ps j)

outcome-entry_replies : (h : History) (e : Entry) (j : ℕ)
    → outcome_in_log (replies_with_place (place h) (entry_replies h e)) j
    ≡ outcome_in (entry_replies h e) j
outcome-entry_replies h e j = last-only j 0 (place h) (entry_replies h e) (entry_replies-climbs h e)

or-none : (a b : Option Outcome) → option_or a b ≡ None → b ≡ None
or-none None b e = e
or-none (Some x) b e = absurd cc

or-assoc : (a b c : Option Outcome) → option_or (option_or a b) c ≡ option_or a (option_or b c)
or-assoc None b c = refl
or-assoc (Some x) b c = refl

-- the answer to a call is the last one to it in the log, or came before the Start
pub log-outcome : (h : History) (j : ℕ)
    → outcome h j ≡ option_or (outcome_in_log (log h) j) (outcome_before h j)
log-outcome (Begin s) j = refl
log-outcome (h ▷ e) j =
    sym (ap (λ o. option_or o (outcome_before h j))
    (outcome-append (log h) (replies_with_place (place h) (entry_replies h e)) j
    ∙ ap (λ o. option_or o (outcome_in_log (log h) j)) (outcome-entry_replies h e j))
    ∙ (or-assoc (outcome_in (entry_replies h e) j) (outcome_in_log (log h) j) (outcome_before h j)
    ∙ ap (λ o. option_or (outcome_in (entry_replies h e) j) o) (sym (log-outcome h j))))

-- the first answer in two logs is that of the earlier one, if it has one
first-append : (ps qs : List (ℕ × ReplyView)) (j : ℕ)
    → first_outcome_to (ps ++ qs) j ≡ option_or (first_outcome_to ps j) (first_outcome_to qs j)
first-append [] qs j = refl
first-append (p ∷ ps) qs j = go (eqb p.1.place j) (first-append ps qs j)
  where
    go : (b : Bool) → first_outcome_to (ps ++ qs) j
        ≡ option_or (first_outcome_to ps j) (first_outcome_to qs j)
        → outcome_if (cond b (Some p.1) (first_to (ps ++ qs) j))
        ≡ option_or (outcome_if (cond b (Some p.1) (first_to ps j))) (first_outcome_to qs j)
    go true ih = refl
    go false ih = ih

first-told : (j k : ℕ) (ts : List ReplyView) → first_outcome_to (replies_with_place k ts) j
    ≡ outcome_in ts j
first-told j k [] = refl
first-told j k (t ∷ ts) = go (eqb t.place j) (first-told j k ts)
  where
    go : (b : Bool) → first_outcome_to (replies_with_place k ts) j ≡ outcome_in ts j
        → outcome_if (cond b (Some t) (first_to (replies_with_place k ts) j))
        ≡ cond b (Some t.outcome) (outcome_in ts j)
    go true ih = refl
    go false ih = ih

-- an answer to a call that had none before is the first one
or-first : (t f b o : Option Outcome) → o ≡ option_or f b → (is_some t ≡ true → o ≡ None)
    → option_or t o ≡ option_or (option_or f t) b
or-first None None b o e fresh = e
or-first None (Some y) b o e fresh = e
or-first (Some x) None b o e fresh = refl
or-first (Some x) (Some y) b o e fresh = absurd (no (sym (fresh refl) ∙ e))
  where
    no : None ≡ Some y → ⊥
    no c = absurd cc

-- a call is answered once, so its answer is the first one to it since its place
pub log-first : (h : History) (j : ℕ) → Follows h
    → outcome h j ≡ option_or (first_outcome_to (log_since j (log h)) j) (outcome_before h j)
log-first (Begin s) j f = refl
log-first (h ▷ e) j f = split (log-first h j f.0) (cases_lt (place h) j)
  where
    new : List (ℕ × ReplyView)
    new = replies_with_place (place h) (entry_replies h e)

    none : outcome (h ▷ e) j ≡ None → outcome_before h j ≡ None
    none n = or-none (outcome_in_log (log (h ▷ e)) j) (outcome_before h j)
        (sym (log-outcome (h ▷ e) j) ∙ n)

    split : outcome h j ≡ option_or (first_outcome_to (log_since j (log h)) j) (outcome_before h j)
        → (place h < j) ⊎ (j ≤ place h) → outcome (h ▷ e) j
        ≡ option_or (first_outcome_to (log_since j (log (h ▷ e))) j) (outcome_before h j)
    split ih (inl lt) =
        (Fresh-follows (h ▷ e) f).answers j (omega (arith, lt))
        ∙ sym (ap (λ ps. option_or (first_outcome_to ps j) (outcome_before h j))
        (log_since-none (suc (place h)) j (log (h ▷ e)) (log-before (h ▷ e)) (omega (arith, lt)))
        ∙ none ((Fresh-follows (h ▷ e) f).answers j (omega (arith, lt))))
    split ih (inr le) =
        or-first (outcome_in (entry_replies h e) j) (first_outcome_to (log_since j (log h)) j)
        (outcome_before h j)
        (outcome h j) ih (answers-unanswered h e j f.0 f.1)
        ∙ sym (ap (λ o. option_or o (outcome_before h j)) (ap (λ ps. first_outcome_to ps j)
        (filter-append (λ p. nat_le j p.0) (log h) new
        ∙ ap (λ ps. log_since j (log h)
        ++ ps) (log_since-entry_replies j (place h) (entry_replies h e) le))
        ∙ (first-append (log_since j (log h)) new j
        ∙ ap (λ o. option_or (first_outcome_to (log_since j (log h)) j) o)
        (first-told j (place h) (entry_replies h e)))))
