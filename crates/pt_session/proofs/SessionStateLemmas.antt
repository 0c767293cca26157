-- SessionStateLemmas: the client and the clock after one more line.
use Rattle.std.proofs.Common.{◌≡◌, ℕ, Bool, true, false, List, [], ◌∷◌, ◌++◌, Option, Some, None}
use Rattle.std.proofs.Common.{Result, Ok, Err, refl, sym, ap, ◌∙◌, subst, append_assoc, append-nil}
use Rattle.std.specs.List.{flat_map}
use Rattle.std.proofs.lemmas.Grind.{flat_map-append}
use Rattle.std.proofs.lemmas.List.{map-append}
use Rattle.pt_grammar.specs.declared.call_line.CallLine.TheVariants.{Hello, Ask, Tick}
use Rattle.pt_lines.specs.declared.reply.Word.{Word}
use Rattle.pt_lines.specs.declared.reply.Word.TheVariants.{Outcome, Refusal}
use Rattle.pt_types.specs.declared.call.Call.{Call}
use Rattle.pt_types.specs.declared.outcome.Outcome.{Outcome as Answer}
use Rattle.pt_hub.specs.declared.pass.Receipt.{Receipt}
use Rattle.pt_hub.specs.declared.pass.Tick.{Tick as Reported}
use Rattle.pt_hub.specs.Passes.{PassView, ClockView, new_clock}
use Rattle.pt_session.specs.declared.kinds.Retention.{Retention}
use Rattle.pt_session.specs.declared.kinds.Retention.TheVariants.{Complete, Pending}
use Rattle.pt_session.specs.Readings.{Reading}
use Rattle.pt_session.specs.Retained.{moments_by, receipts_by}
use Rattle.pt_session.specs.Transcripts.{Exchange, SessionState, IsSessionState, AreAnsweredAfter}
use Rattle.pt_session.specs.Transcripts.{IsPassOf, IsWordFor, all_answered, is_not_empty, call_by}
use Rattle.pt_session.specs.Transcripts.{calls_in, calls_of, has_joined, hello_by, hellos_in}
use Rattle.pt_session.specs.Transcripts.{moment_by, moments_in}
use Rattle.pt_session.specs.Steps.{HandlesLine, HasCallReceipt}

-- an exchange that yields nothing
same : {B : Type 0} (f : Exchange → List B) (xs : List Exchange) (x : Exchange) → f x ≡ []
    → flat_map f (xs ++ x ∷ []) ≡ flat_map f xs
same f xs x none =
    flat_map-append f xs (x ∷ [])
    ∙ ap (λ ys. flat_map f xs ++ (ys ++ [])) none
    ∙ append-nil (flat_map f xs)

-- an exchange that yields one item
more : {B : Type 0} (f : Exchange → List B) (xs : List Exchange) (x : Exchange) (y : B)
    → f x ≡ y ∷ [] → flat_map f (xs ++ x ∷ []) ≡ flat_map f xs ++ y ∷ []
more f xs x y one =
    flat_map-append f xs (x ∷ []) ∙ ap (λ ys. flat_map f xs ++ (ys ++ [])) one

-- an exchange that changes no client
pass_same : (r : Retention) (xs : List Exchange) (x : Exchange) (p : Option PassView)
    → hello_by x ≡ [] → call_by x ≡ [] → IsPassOf r xs p → IsPassOf r (xs ++ x ∷ []) p
pass_same r xs x None hello asked h =
    (same hello_by xs x hello ∙ h.0, same call_by xs x asked ∙ h.1)
pass_same r xs x (Some p) hello asked h =
    (same hello_by xs x hello ∙ h.0, h.1 ∙ sym (same call_by xs x asked))

pass_moved : (r : Retention) (xs : List Exchange) (x : Exchange) (p q : Option PassView)
    → hello_by x ≡ [] → call_by x ≡ [] → q ≡ p → IsPassOf r xs p → IsPassOf r (xs ++ x ∷ []) q
pass_moved r xs x p q hello asked e h =
    subst (IsPassOf r (xs ++ x ∷ [])) (sym e) (pass_same r xs x p hello asked h)

clock_moved : (r : Retention) (xs : List Exchange) (x : Exchange) (c d : ClockView)
    → moment_by x ≡ [] → d ≡ c → moments_by r c ≡ moments_in xs
    → moments_by r d ≡ moments_in (xs ++ x ∷ [])
clock_moved r xs x c d moment e h =
    ap (moments_by r) e ∙ h ∙ sym (same moment_by xs x moment)

-- the word of a line, by whether a hello was accepted before
word_joined : (xs : List Exchange) (b : Bool) (line : Reading) (w : Option Word)
    → has_joined xs ≡ b → IsWordFor b line w → IsWordFor (has_joined xs) line w
word_joined xs b line w e h = subst (λ t. IsWordFor t line w) (sym e) h

-- a clock with more moments
moments_push : (r : Retention) (c : ClockView) (ts : List Reported)
    → moments_by r (record c { moments = c.moments ++ ts }) ≡ moments_by r c ++ ts
moments_push Complete c ts = refl
moments_push Pending c ts = sym (append_assoc c.discarded c.moments ts)

-- a clock that has submitted no moment
pub new_moments : (r : Retention) (c : ClockView) → c ≡ new_clock → moments_by r c ≡ []
new_moments Complete c is = ap (λ k. k.moments) is
new_moments Pending c is = ap (λ k. k.discarded ++ k.moments) is

-- a client that has made no call
none_by : (r : Retention) (p : PassView) → p.discarded ≡ [] → p.receipts ≡ []
    → receipts_by r p ≡ []
none_by Complete p discarded receipts = receipts
none_by Pending p discarded receipts = ap (λ rs. rs ++ p.receipts) discarded ∙ receipts

-- a client that has made one more call
calls_by : (r : Retention) (old new : PassView) (call : Call) (o : Option Answer)
    → HasCallReceipt old call o new
    → calls_of (receipts_by r new) ≡ calls_of (receipts_by r old) ++ (call, o) ∷ []
calls_by Complete old new call o h = h.calls
calls_by Pending old new call o h =
    calls-append new.discarded new.receipts
    ∙ ap (λ rs. calls_of rs ++ calls_of new.receipts) h.discarded
    ∙ ap (λ cs. calls_of old.discarded ++ cs) h.calls
    ∙ sym (append_assoc (calls_of old.discarded) (calls_of old.receipts) ((call, o) ∷ []))
    ∙ ap (λ cs. cs ++ (call, o) ∷ []) (sym (calls-append old.discarded old.receipts))
  where
    calls-append : (rs qs : List Receipt) → calls_of (rs ++ qs) ≡ calls_of rs ++ calls_of qs
    calls-append rs qs = map-append (λ q. (q.call, q.answer)) rs qs

step : (r : Retention) (xs : List Exchange) (p : Option PassView) (c : ClockView)
    (line : Reading) (w : Option Word) (q : Option PassView) (d : ClockView) → IsPassOf r xs p
    → moments_by r c ≡ moments_in xs → HandlesLine p c line w q d
    → IsWordFor (has_joined xs) line w × IsPassOf r (xs ++ (line, w) ∷ []) q
    × (moments_by r d ≡ moments_in (xs ++ (line, w) ∷ []))
step r xs p c (Err why) w q d hp hc h = (
  h.0,
  pass_moved r xs (Err why, w) p q refl refl h.1 hp,
  clock_moved r xs (Err why, w) c d refl h.2 hc,
)
step r xs p c (Ok (Tick clock t)) None q d hp hc h = absurd h
step r xs p c (Ok (Tick clock t)) (Some (Outcome x)) q d hp hc h = (
  h.0.0,
  pass_moved r xs (Ok (Tick clock t), Some (Outcome x)) p q refl refl h.1 hp,
  ap (moments_by r) h.0.1
      ∙ moments_push r c (record { clock = clock; moment = t } ∷ [])
      ∙ ap (λ ts. ts ++ record { clock = clock; moment = t } ∷ []) hc
      ∙ sym (more moment_by xs (Ok (Tick clock t), Some (Outcome x))
      (record { clock = clock; moment = t }) refl),
)
step r xs p c (Ok (Tick clock t)) (Some (Refusal why)) q d hp hc h = (
  h.0.0,
  pass_moved r xs (Ok (Tick clock t), Some (Refusal why)) p q refl refl h.1 hp,
  clock_moved r xs (Ok (Tick clock t), Some (Refusal why)) c d refl h.0.1 hc,
)
step r xs p c (Ok (Hello level)) None q d hp hc h = absurd h
step r xs None c (Ok (Hello level)) (Some (Outcome x)) None d hp hc h = absurd h.0
step r xs None c (Ok (Hello level)) (Some (Outcome x)) (Some q) d hp hc h = (
  word_joined xs false (Ok (Hello level)) (Some (Outcome x)) (ap is_not_empty hp.0) h.0.0,
  (
    more hello_by xs (Ok (Hello level), Some (Outcome x)) level refl
        ∙ ap (λ ps. ps ++ level ∷ []) hp.0
        ∙ ap (λ l. l ∷ []) (sym h.0.1),
    ap calls_of (none_by r q h.0.2 h.0.3)
        ∙ sym hp.1
        ∙ sym (same call_by xs (Ok (Hello level), Some (Outcome x)) refl),
  ),
  clock_moved r xs (Ok (Hello level), Some (Outcome x)) c d refl h.1 hc,
)
step r xs None c (Ok (Hello level)) (Some (Refusal why)) q d hp hc h = (
  word_joined xs false (Ok (Hello level)) (Some (Refusal why)) (ap is_not_empty hp.0) h.0.0,
  pass_moved r xs (Ok (Hello level), Some (Refusal why)) None q refl refl h.0.1 hp,
  clock_moved r xs (Ok (Hello level), Some (Refusal why)) c d refl h.1 hc,
)
step r xs (Some p) c (Ok (Hello level)) (Some (Outcome x)) q d hp hc h = absurd h.0
step r xs (Some p) c (Ok (Hello level)) (Some (Refusal why)) q d hp hc h = (
  word_joined xs true (Ok (Hello level)) (Some (Refusal why)) (ap is_not_empty hp.0)
      (ap (λ why. Some (Refusal why)) h.0.0),
  pass_moved r xs (Ok (Hello level), Some (Refusal why)) (Some p) q refl refl h.0.1 hp,
  clock_moved r xs (Ok (Hello level), Some (Refusal why)) c d refl h.1 hc,
)
step r xs None c (Ok (Ask call)) None q d hp hc h = absurd h.0
step r xs None c (Ok (Ask call)) (Some (Outcome x)) q d hp hc h = absurd h.0
step r xs None c (Ok (Ask call)) (Some (Refusal why)) q d hp hc h = (
  word_joined xs false (Ok (Ask call)) (Some (Refusal why)) (ap is_not_empty hp.0)
      (ap (λ why. Some (Refusal why)) h.0.0),
  pass_moved r xs (Ok (Ask call), Some (Refusal why)) None q refl refl h.0.1 hp,
  clock_moved r xs (Ok (Ask call), Some (Refusal why)) c d refl h.1 hc,
)
step r xs (Some p) c (Ok (Ask call)) w None d hp hc h = absurd h.0
step r xs (Some p) c (Ok (Ask call)) None (Some q) d hp hc h = (
  word_joined xs true (Ok (Ask call)) None (ap is_not_empty hp.0) tt,
  (
    same hello_by xs (Ok (Ask call), None) refl
        ∙ hp.0
        ∙ ap (λ l. l ∷ []) (sym h.0.priority),
    calls_by r p q call None h.0
        ∙ ap (λ cs. cs ++ (call, None) ∷ []) hp.1
        ∙ sym (more call_by xs (Ok (Ask call), None) (call, None) refl),
  ),
  clock_moved r xs (Ok (Ask call), None) c d refl h.1 hc,
)
step r xs (Some p) c (Ok (Ask call)) (Some (Outcome x)) (Some q) d hp hc h = (
  word_joined xs true (Ok (Ask call)) (Some (Outcome x)) (ap is_not_empty hp.0) tt,
  (
    same hello_by xs (Ok (Ask call), Some (Outcome x)) refl
        ∙ hp.0
        ∙ ap (λ l. l ∷ []) (sym h.0.priority),
    calls_by r p q call (Some x) h.0
        ∙ ap (λ cs. cs ++ (call, Some x) ∷ []) hp.1
        ∙ sym (more call_by xs (Ok (Ask call), Some (Outcome x)) (call, Some x) refl),
  ),
  clock_moved r xs (Ok (Ask call), Some (Outcome x)) c d refl h.1 hc,
)
step r xs (Some p) c (Ok (Ask call)) (Some (Refusal why)) (Some q) d hp hc h = (
  word_joined xs true (Ok (Ask call)) (Some (Refusal why)) (ap is_not_empty hp.0) h.0.0,
  pass_moved r xs (Ok (Ask call), Some (Refusal why)) (Some p) (Some q) refl refl
      (ap Some h.0.1) hp,
  clock_moved r xs (Ok (Ask call), Some (Refusal why)) c d refl h.1 hc,
)

-- one more word
words_push : (before xs : List Exchange) (x : Exchange) → AreAnsweredAfter before xs
    → all_answered (before ++ xs) ≡ true → IsWordFor (has_joined (before ++ xs)) x.0 x.1
    → AreAnsweredAfter before (xs ++ x ∷ [])
words_push before [] x h all word = (
  subst (λ b. all_answered b ≡ true) (append-nil before) all,
  subst (λ b. IsWordFor (has_joined b) x.0 x.1) (append-nil before) word,
  tt,
)
words_push before (y ∷ xs) x h all word = (
  h.0,
  h.1,
  words_push (before ++ y ∷ []) xs x h.2
      (subst (λ b. all_answered b ≡ true) (sym (append_assoc before (y ∷ []) xs)) all)
      (subst (λ b. IsWordFor (has_joined b) x.0 x.1) (sym (append_assoc before (y ∷ []) xs)) word),
)

pub dealt : (d : SessionState) (line : Reading) (w : Option Word) (q : Option PassView)
    (k : ClockView) (ys : List Exchange) → IsSessionState d → all_answered d.exchanges ≡ true
    → HandlesLine d.pass d.clock line w q k → ys ≡ d.exchanges ++ (line, w) ∷ []
    → IsSessionState (record { retention = d.retention; pass = q; clock = k; exchanges = ys })
dealt d line w q k ys h all deals grows =
    let after = step d.retention d.exchanges d.pass d.clock line w q k h.pass h.clock deals in
    subst
    (λ xs. IsSessionState
    (record { retention = d.retention; pass = q; clock = k; exchanges = xs }))
    (sym grows)
    (record {
      words = words_push [] d.exchanges (line, w) h.words all after.0;
      pass = after.1;
      clock = after.2;
    })
