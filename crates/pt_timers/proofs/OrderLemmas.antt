-- What a step on the keys of an order, or on its canceled keys, leaves of both.
use Rattle.std.proofs.Common.{◌≡◌, ℕ, ◌+◌, ◌<◌, ◌≤◌, ◌&&◌, ◌||◌, not, Bool, true, false, List}
use Rattle.std.proofs.Common.{Option, Some, None, Result, Ok, Err}
use Rattle.std.proofs.Common.{IsOk, OnOk, OnErr, is_err, sym, ap}
use Rattle.std.proofs.Common.{◌∙◌, max, refl, subst, arith, Less, Equal, Greater}
use Rattle.std.proofs.lemmas.Bool.{false≢true}
use Rattle.std.proofs.lemmas.Bool.Decides.{nat_tests}
use Rattle.pt_types.specs.Times.{pair_before}
use Rattle.pt_timers.specs.declared.key.TimerKey.{TimerKey}
use Rattle.pt_timers.specs.Deadlines.{pair_of, same_key, is_found, is_in, is_live, IsFirstKey}
use Rattle.pt_timers.specs.Deadlines.{key_cmp, ComeBefore, IsOrder}
use Rattle.pt_timers.proofs.KeyLemmas.{in-same, same-parts-of}
use Rattle.pt_timers.proofs.StaleLemmas.{more-before, not-before-last, one-moved}

-- a result that is no error has what holds of a success
pub on-no-error : {X E P : Type 0} (r : Result X E) (b : Bool) → b ≡ is_err r → b ≡ false
    → OnOk r P → P
on-no-error (Ok x) b is fine holds = holds
on-no-error (Err e) b is fine holds = absurd (false≢true (sym fine ∙ is))

pub on-error : {X E P : Type 0} (r : Result X E) (b : Bool) → b ≡ is_err r → b ≡ true
    → OnErr r P → P
on-error (Ok x) b is fails holds = absurd (false≢true (sym is ∙ fails))
on-error (Err e) b is fails holds = holds

pub on-done : {X E P : Type 0} (r : Result X E) → IsOk r → OnOk r P → P
on-done (Ok x) done holds = holds
on-done (Err e) done holds = absurd (false≢true done)

-- keys in the order in which they are due
pub less-later : (a b : TimerKey) → key_cmp a b ≡ Less
    → pair_before (pair_of b) (pair_of a) ≡ true
less-later a b e = grind (arith, nat_tests)

pub greater-sooner : (a b : TimerKey) → key_cmp a b ≡ Greater
    → pair_before (pair_of a) (pair_of b) ≡ true
greater-sooner a b e = grind (arith, nat_tests)

pub equal-same : (a b : TimerKey) → key_cmp a b ≡ Equal → same_key a b ≡ true
equal-same a b e = grind (arith, nat_tests)

pub right-less : (a b n : ℕ) → n + 1 ≡ b → a + n < a + b
right-less a b n is = omega arith

pub left-less : (a b n : ℕ) → n + 1 ≡ a → n + b < a + b
left-less a b n is = omega arith

pub no-more : (a b n : ℕ) → b ≤ a → n ≤ b → n ≤ a
no-more a b n h k = omega arith

-- one key moves, so there is room for it and for the others
pub room-left : (live keys popped left most : ℕ) → live + keys ≤ most → popped + 1 ≡ keys
    → left ≤ popped → (live < most) × (live + 1 + left ≤ most)
room-left live keys popped left most room out fewer = (omega arith, omega arith)

pub room-kept : (live left more most next : ℕ) → live + 1 + left ≤ most → more ≡ live + 1
    → most ≤ next → more + left ≤ next
room-kept live left more most next room is grows = omega arith

-- the canceled keys were moved, and one of them was taken away
pub taken-from : (cs mid left : List TimerKey) (x : TimerKey) → mid ≡ cs
    → ((q : TimerKey) → is_in left q ≡ (not (same_key x q) && is_in mid q))
    → (q : TimerKey) → is_in left q ≡ (not (same_key x q) && is_in cs q)
taken-from cs mid left x is out q =
    out q ∙ ap (λ ks. not (same_key x q) && is_in ks q) is

pub kept-out : (cs mid left : List TimerKey) (x : TimerKey) → mid ≡ cs
    → ((q : TimerKey) → is_in left q ≡ (not (same_key x q) && is_in mid q))
    → (q : TimerKey) → is_in left q ≡ true → is_in cs q ≡ true
kept-out cs mid left x is out q h =
    go (same_key x q) (sym (taken-from cs mid left x is out q) ∙ h)
  where
    go : (b : Bool) → (not b && is_in cs q) ≡ true → is_in cs q ≡ true
    go true e = absurd (false≢true e)
    go false e = e

-- they were moved, and none of them was to be taken away
pub none-taken : (cs mid : List TimerKey) (last : ℕ) (x : TimerKey) → mid ≡ cs
    → ComeBefore cs last → last < x.place
    → (q : TimerKey) → is_in mid q ≡ (not (same_key x q) && is_in cs q)
none-taken cs mid last x is before late q =
    ap (λ ks. is_in ks q) is ∙ not-before-last cs last x before late q

-- the last place grows to the key's, if that is after it
pub noted-before : (cs new : List TimerKey) (last next : ℕ) (x : TimerKey) → ComeBefore cs last
    → next ≡ max x.place last
    → ((q : TimerKey) → is_in new q ≡ true → (same_key x q || is_in cs q) ≡ true)
    → ComeBefore new next
noted-before cs new last next x before is from =
    more-before cs new last next x before (omega (arith, is)) (omega (arith, is)) from

pub kept-before : (cs new : List TimerKey) (last next : ℕ) (x : TimerKey) → ComeBefore cs last
    → next ≡ max x.place last → new ≡ cs → ComeBefore new next
kept-before cs new last next x before is same q h =
    let low = before q (sym (ap (λ ks. is_in ks q) same) ∙ h) in omega (arith, is, low)

-- an order in which nothing changed
pub same-order : (ks cs new left : List TimerKey) (last : ℕ) → new ≡ ks → left ≡ cs
    → IsOrder ks cs last → IsOrder new left last
same-order ks cs new left last keys canceled order =
    subst (λ xs. IsOrder xs left last) (sym keys)
    (subst (λ xs. IsOrder ks xs last) (sym canceled) order)

-- a key that is found first is the first
pub found-first : (ks : List TimerKey) (found : Option TimerKey) (key : TimerKey)
    → IsFirstKey ks found → is_found found key ≡ true → IsFirstKey ks (Some key)
found-first ks None key first is = absurd (false≢true is)
found-first ks (Some f) key first is =
    let parts = same-parts-of f key is in (
      sym (in-same ks f key is) ∙ first.0,
      λ q h. go f.nanos key.nanos parts.0 f.place key.place parts.1 q (first.1 q h),
    )
  where
    go : (n m : ℕ) → n ≡ m → (a b : ℕ) → a ≡ b → (q : TimerKey)
        → pair_before (pair_of q) (n, a) ≡ false → pair_before (pair_of q) (m, b) ≡ false
    go n m is a b at q late =
        subst (λ k. pair_before (pair_of q) (k, b) ≡ false) is
        (subst (λ k. pair_before (pair_of q) (n, k) ≡ false) at late)

-- nothing is left, so all that was live has moved
pub none-live : (moved canceled left : Bool) → left ≡ false
    → (moved || (not canceled && left)) ≡ moved
none-live true canceled left none = refl
none-live false true left none = refl
none-live false false left none = none

-- the first key has moved to the others, and the rest was settled
pub moved-on : (ks new cs left rest moved more : List TimerKey) (x : TimerKey)
    → is_in cs x ≡ false → ((q : TimerKey) → is_in ks q ≡ (same_key x q || is_in new q))
    → ((q : TimerKey) → is_live left rest q ≡ is_live new cs q)
    → ((q : TimerKey) → is_in more q ≡ (same_key x q || is_in moved q))
    → (q : TimerKey) → (is_in more q || is_live left rest q) ≡ (is_in moved q || is_live ks cs q)
moved-on ks new cs left rest moved more x live_first out same put q =
    ap (λ b. is_in more q || b) (same q) ∙ one-moved ks new cs moved more x live_first out put q
