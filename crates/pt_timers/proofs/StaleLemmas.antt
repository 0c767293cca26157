-- The keys that aren't canceled, when a key is put in or taken away, here or among the canceled
-- ones.
use Rattle.std.proofs.Common.{◌≡◌, ℕ, ◌<◌, ◌≤◌, ◌&&◌, ◌||◌, not, Bool, true, false, List}
use Rattle.std.proofs.Common.{Option, Some, None, refl, sym, ap, ◌∙◌, arith}
use Rattle.std.proofs.lemmas.Bool.{false≢true}
use Rattle.std.proofs.lemmas.Bool.Decides.{nat_tests}
use Rattle.pt_types.specs.Times.{pair_before}
use Rattle.pt_timers.specs.declared.key.TimerKey.{TimerKey}
use Rattle.pt_timers.specs.Deadlines.{pair_of, same_key, is_in, live_keys, is_live, IsFirstKey}
use Rattle.pt_timers.specs.Deadlines.{HasLiveFirst}
use Rattle.pt_timers.specs.Deadlines.{ComeBefore}
use Rattle.pt_timers.proofs.KeyLemmas.{in-live_keys, in-same, one-first, same-parts-of}

module _ (ks new cs : List TimerKey) (x : TimerKey)
    (out : (q : TimerKey) → is_in ks q ≡ (same_key x q || is_in new q)) where
  -- a canceled key is taken away
  pub stale-out : is_in cs x ≡ true → (q : TimerKey) → is_live new cs q ≡ is_live ks cs q
  stale-out stale q = go (same_key x q) refl
    where
      go : (b : Bool) → same_key x q ≡ b → is_live new cs q ≡ is_live ks cs q
      go true e =
          let gone : is_in cs q ≡ true = sym (in-same cs x q e) ∙ stale in
          ap (λ b. not b && is_in new q) gone ∙ sym (ap (λ b. not b && is_in ks q) gone)
      go false e =
          ap (λ b. not (is_in cs q) && b) (sym (out q ∙ ap (λ b. b || is_in new q) e))

  -- a key that is among them now was among them before
  pub still-in : (q : TimerKey) → is_in new q ≡ true → is_in ks q ≡ true
  still-in q h = go (same_key x q) (out q ∙ ap (λ b. same_key x q || b) h)
    where
      go : (b : Bool) → is_in ks q ≡ (b || true) → is_in ks q ≡ true
      go true e = e
      go false e = e

module _ (ks cs new : List TimerKey) (x : TimerKey)
    (out : (q : TimerKey) → is_in cs q ≡ (same_key x q || is_in new q)) where
  -- a canceled key that no key equals is taken away
  pub junk-out : is_in ks x ≡ false → (q : TimerKey) → is_live ks new q ≡ is_live ks cs q
  junk-out none q = go (same_key x q) refl
    where
      never : (b : Bool) → (not b && false) ≡ false
      never true = refl
      never false = refl

      go : (b : Bool) → same_key x q ≡ b → is_live ks new q ≡ is_live ks cs q
      go true e =
          let gone : is_in ks q ≡ false = sym (in-same ks x q e) ∙ none in
          (ap (λ b. not (is_in new q) && b) gone ∙ never (is_in new q))
          ∙ sym (ap (λ b. not (is_in cs q) && b) gone ∙ never (is_in cs q))
      go false e =
          ap (λ b. not b && is_in ks q) (sym (out q ∙ ap (λ b. b || is_in new q) e))

is-false : (b : Bool) → (b ≡ true → ⊥) → b ≡ false
is-false true none = absurd (none refl)
is-false false none = refl

-- if no key is canceled, the first isn't canceled
pub none-apart : (ks cs : List TimerKey) → IsFirstKey cs None → HasLiveFirst ks cs
none-apart ks cs none t first = none t

sooner-not-in : (a b c : ℕ × ℕ) → pair_before a b ≡ true → pair_before c b ≡ false
    → pair_before a c ≡ true
sooner-not-in a b c e f = grind (arith, nat_tests)

not-itself : (a : ℕ × ℕ) → pair_before a a ≡ false
not-itself a = grind (arith, nat_tests)

-- if all canceled keys are due after the first key, the first isn't canceled
pub later-apart : (ks cs : List TimerKey) (a b : TimerKey) → IsFirstKey ks (Some a)
    → IsFirstKey cs (Some b) → pair_before (pair_of a) (pair_of b) ≡ true → HasLiveFirst ks cs
later-apart ks cs a b first other before t top =
    is-false (is_in cs t) (λ h.
    let same = one-first ks a t first top in
    let late = other.1 a (in-same cs a t same ∙ h) in
    false≢true (sym late ∙ before))

-- a canceled key that is due before the first key is not among the keys
pub before-first : (ks : List TimerKey) (a b : TimerKey) → IsFirstKey ks (Some a)
    → pair_before (pair_of b) (pair_of a) ≡ true → is_in ks b ≡ false
before-first ks a b first before =
    is-false (is_in ks b) (λ h. false≢true (sym (first.1 b h) ∙ before))

-- the first key is live
pub first-live_keys : (ks cs : List TimerKey) (a : TimerKey) → IsFirstKey ks (Some a)
    → HasLiveFirst ks cs
    → is_live ks cs a ≡ true
first-live_keys ks cs a first live_first =
    ap (λ b. not b && is_in ks a) (live_first a first) ∙ first.0

-- a key that is put in, and is no longer canceled, may be the first
pub put-apart : (ks new cs left : List TimerKey) (x : TimerKey) → HasLiveFirst ks cs
    → ((q : TimerKey) → is_in new q ≡ (same_key x q || is_in ks q))
    → ((q : TimerKey) → is_in left q ≡ (not (same_key x q) && is_in cs q))
    → HasLiveFirst new left
put-apart ks new cs left x live_first put out t top = out t ∙ go (same_key x t) refl
  where
    older : (q : TimerKey) → is_in ks q ≡ true → is_in new q ≡ true
    older q h = put q ∙ (ap (λ b. same_key x q || b) h ∙ always (same_key x q))
      where
        always : (b : Bool) → (b || true) ≡ true
        always true = refl
        always false = refl

    go : (b : Bool) → same_key x t ≡ b → (not b && is_in cs t) ≡ false
    go true e = refl
    go false e =
        live_first t (
          sym (ap (λ b. b || is_in ks t) e) ∙ (sym (put t) ∙ top.0),
          λ q h. top.1 q (older q h),
        )

-- a key that is live is among the keys
pub live_keys-in : (ks cs : List TimerKey) (q : TimerKey) → is_live ks cs q ≡ true → is_in ks q
    ≡ true
live_keys-in ks cs q h = go (is_in cs q) h
  where
    go : (b : Bool) → (not b && is_in ks q) ≡ true → is_in ks q ≡ true
    go true e = absurd (false≢true e)
    go false e = e

-- a key is put in, and is no longer canceled
pub one-in : (ks new cs left : List TimerKey) (x : TimerKey)
    → ((q : TimerKey) → is_in new q ≡ (same_key x q || is_in ks q))
    → ((q : TimerKey) → is_in left q ≡ (not (same_key x q) && is_in cs q))
    → (q : TimerKey) → is_live new left q ≡ (same_key x q || is_live ks cs q)
one-in ks new cs left x put out q =
    rw (put q) (rw (out q) (go (same_key x q) (is_in cs q) (is_in ks q)))
  where
    go : (a b c : Bool) → (not (not a && b) && (a || c)) ≡ (a || (not b && c))
    go true true c = refl
    go true false c = refl
    go false b c = refl

-- a key that came after the last place isn't among those that came before that place
pub not-before-last : (cs : List TimerKey) (last : ℕ) (x : TimerKey) → ComeBefore cs last
    → last < x.place → (q : TimerKey) → is_in cs q ≡ (not (same_key x q) && is_in cs q)
not-before-last cs last x before late q = go (same_key x q) refl
  where
    go : (b : Bool) → same_key x q ≡ b → is_in cs q ≡ (not b && is_in cs q)
    go true e =
        is-false (is_in cs q) (λ h.
        let low = before q h in
        let at = (same-parts-of x q e).1 in
        absurd (omega (arith, low, at, late)))
    go false e = refl

-- a key is noted as canceled
pub one-canceled : (ks cs new : List TimerKey) (x : TimerKey)
    → ((q : TimerKey) → is_in new q ≡ (same_key x q || is_in cs q))
    → (q : TimerKey) → is_live ks new q ≡ (not (same_key x q) && is_live ks cs q)
one-canceled ks cs new x put q = rw (put q) (go (same_key x q) (is_in cs q) (is_in ks q))
  where
    go : (a b c : Bool) → (not (a || b) && c) ≡ (not a && (not b && c))
    go true b c = refl
    go false b c = refl

-- a key is taken away
pub one-out : (ks new cs : List TimerKey) (x : TimerKey)
    → ((q : TimerKey) → is_in new q ≡ (not (same_key x q) && is_in ks q))
    → (q : TimerKey) → is_live new cs q ≡ (not (same_key x q) && is_live ks cs q)
one-out ks new cs x out q = rw (out q) (go (same_key x q) (is_in cs q) (is_in ks q))
  where
    go : (a b c : Bool) → (not b && (not a && c)) ≡ (not a && (not b && c))
    go true true c = refl
    go true false c = refl
    go false b c = refl

-- the last place grows, so that all that came before it, and one more, come before it
pub more-before : (cs new : List TimerKey) (last next : ℕ) (x : TimerKey) → ComeBefore cs last
    → last ≤ next → x.place ≤ next
    → ((q : TimerKey) → is_in new q ≡ true → (same_key x q || is_in cs q) ≡ true)
    → ComeBefore new next
more-before cs new last next x before far high from q h = go (same_key x q) refl (from q h)
  where
    go : (b : Bool) → same_key x q ≡ b → (b || is_in cs q) ≡ true → q.place ≤ next
    go true e f = let at = (same-parts-of x q e).1 in omega (arith, at, high)
    go false e f = let low = before q f in omega (arith, low, far)

-- a first key that is not canceled moves to the others that aren't
pub one-moved : (ks new cs moved more : List TimerKey) (x : TimerKey) → is_in cs x ≡ false
    → ((q : TimerKey) → is_in ks q ≡ (same_key x q || is_in new q))
    → ((q : TimerKey) → is_in more q ≡ (same_key x q || is_in moved q))
    → (q : TimerKey)
    → (is_in more q || is_live new cs q) ≡ (is_in moved q || is_live ks cs q)
one-moved ks new cs moved more x live_first out put q =
    rw (put q) (rw (out q) (go (same_key x q) refl))
  where
    both : (m n : Bool) → ((true || m) || n) ≡ (m || true)
    both true n = refl
    both false n = refl

    go : (b : Bool) → same_key x q ≡ b
        → ((b || is_in moved q) || (not (is_in cs q) && is_in new q))
        ≡ (is_in moved q || (not (is_in cs q) && (b || is_in new q)))
    go true e =
        let stays : is_in cs q ≡ false = sym (in-same cs x q e) ∙ live_first in
        rw stays (both (is_in moved q) (is_in new q))
    go false e = refl

-- the first of the keys is the first that is live
pub live_keys-first : (ks cs w : List TimerKey) (r : Option TimerKey) → live_keys ks cs ≡ w
    → HasLiveFirst ks cs
    → IsFirstKey ks r → IsFirstKey w r
live_keys-first ks cs w None is live_first none = λ q.
    ap (λ l. is_in l q) (sym is)
    ∙ (in-live_keys ks cs q ∙ (ap (λ b. not (is_in cs q) && b) (none q) ∙ never (is_in cs q)))
  where
    never : (b : Bool) → (not b && false) ≡ false
    never true = refl
    never false = refl
live_keys-first ks cs w (Some a) is live_first first = (
  ap (λ l. is_in l a) (sym is) ∙ (in-live_keys ks cs a ∙ first-live_keys ks cs a first live_first),
  λ q h. first.1 q (live_keys-in ks cs q (sym (in-live_keys ks cs q) ∙ (ap (λ l. is_in l q) is
      ∙ h))),
)

module _ (ks cs w : List TimerKey) (view : live_keys ks cs ≡ w) (x : TimerKey)
    (mks mcs nks ncs : List TimerKey)
    (after : (q : TimerKey) → is_live nks ncs q ≡ is_live mks mcs q) where
  viewed : (q : TimerKey) → is_live ks cs q ≡ is_in w q
  viewed q = sym (in-live_keys ks cs q) ∙ ap (λ l. is_in l q) view

  -- one more key is live
  pub more-live_keys : ((q : TimerKey) → is_live mks mcs q ≡ (same_key x q || is_live ks cs q))
      → (q : TimerKey) → is_in (live_keys nks ncs) q ≡ (same_key x q || is_in w q)
  more-live_keys put q =
      in-live_keys nks ncs q ∙ (after q ∙ (put q ∙ ap (λ b. same_key x q || b) (viewed q)))

  -- one key less is live
  pub less-live_keys : ((q : TimerKey) → is_live mks mcs q ≡ (not (same_key x q)
      && is_live ks cs q))
      → (q : TimerKey) → is_in (live_keys nks ncs) q ≡ (not (same_key x q) && is_in w q)
  less-live_keys out q =
      in-live_keys nks ncs q ∙ (after q ∙ (out q ∙ ap (λ b. not (same_key x q) && b) (viewed q)))
