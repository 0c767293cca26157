-- How many of some calls belong to a client.
use Rattle.std.proofs.Common.{◌≡◌, ℕ, ◌+◌, ◌==◌, Bool, true, false, not, cond, inl, inr, List, []}
use Rattle.std.proofs.Common.{◌∷◌, ◌++◌, length, Some, is_some, refl, sym, ap, ◌∙◌, arith, filter}
use Rattle.std.proofs.lemmas.Bool.Decides.{nat_tests}
use Rattle.std.proofs.lemmas.Bool.{false≢true}
use Rattle.pt_model.specs.Searches.{In}
use Rattle.pt_model.specs.Records.{ReplyView}
use Rattle.pt_model.specs.declared.waiting_call.WaitingCall.{WaitingCall}
use Rattle.pt_model.specs.Histories.{History}
use Rattle.pt_model.specs.Answers.{trip_outcome, trip_replies, replies_to, place_of_client}
use Rattle.pt_model.specs.Answers.{open_calls}
use Rattle.pt_model.specs.Steps.{Follows}
use Rattle.pt_model.proofs.Lists.{filter-all, any-false, false_by}
use Rattle.pt_model.proofs.OneEach.{one_each}
use Rattle.pt_model.proofs.Disjoint.{Apart, open_apart}
use Rattle.pt_client_events.specs.Tallies.{reply_count_in, open_call_count}

-- 1 if the call is the client's, else 0
abbrev pub its : ℕ → WaitingCall → ℕ
its c w = cond (w.client == c) 1 0

-- the number of these calls that are the client's
abbrev pub calls_of : ℕ → List WaitingCall → ℕ
calls_of c [] = 0
calls_of c (w ∷ ws) = its c w + calls_of c ws

pub calls_of-append : (c : ℕ) (xs ys : List WaitingCall)
    → calls_of c (xs ++ ys) ≡ calls_of c xs + calls_of c ys
calls_of-append c [] ys = omega arith
calls_of-append c (x ∷ xs) ys = omega (arith, calls_of-append c xs ys)

-- none of them is the client's
pub calls_of-none : (c : ℕ) (ws : List WaitingCall)
    → ((w : WaitingCall) → In w ws → (w.client == c) ≡ false)
    → calls_of c ws ≡ 0
calls_of-none c [] f = refl
calls_of-none c (w ∷ ws) f =
    let ne : (w.client == c) ≡ false = f w (inl refl) in
    rw ne (omega (arith, calls_of-none c ws (λ v i. f v (inr i))))

-- a filter that passes all calls of the client
pub calls_of-kept : (c : ℕ) (p : WaitingCall → Bool) (ws : List WaitingCall)
    → ((w : WaitingCall) → (w.client == c) ≡ true → p w ≡ true)
    → calls_of c (filter p ws) ≡ calls_of c ws
calls_of-kept c p [] f = refl
calls_of-kept c p (w ∷ ws) f = go (p w) refl (calls_of-kept c p ws f)
  where
    go : (b : Bool) → p w ≡ b → calls_of c (filter p ws) ≡ calls_of c ws
        → calls_of c (cond b (w ∷ filter p ws) (filter p ws)) ≡ its c w + calls_of c ws
    go true e ih = omega (arith, ih)
    go false e ih =
        let ne : (w.client == c) ≡ false =
        false_by (w.client == c) (λ t. false≢true (sym e ∙ f w t)) in
        rw ne (omega (arith, ih))

-- the calls that pass a filter, and the others
pub calls_of-split : (c : ℕ) (p : WaitingCall → Bool) (ws : List WaitingCall)
    → calls_of c (filter p ws) + calls_of c (filter (λ w. not (p w)) ws) ≡ calls_of c ws
calls_of-split c p [] = refl
calls_of-split c p (w ∷ ws) = go (p w) (calls_of-split c p ws)
  where
    go : (b : Bool) → calls_of c (filter p ws) + calls_of c (filter (λ v. not (p v)) ws)
        ≡ calls_of c ws
        → calls_of c (cond b (w ∷ filter p ws) (filter p ws))
        + calls_of c (cond (not b) (w ∷ filter (λ v. not (p v)) ws) (filter (λ v. not (p v)) ws))
        ≡ its c w + calls_of c ws
    go true ih = omega (arith, ih)
    go false ih = omega (arith, ih)

-- one of them is removed
pub calls_of-out : (c : ℕ) (ws : List WaitingCall) (u : WaitingCall) → In u ws → Apart ws
    → its c u + calls_of c (filter (λ w. not (w.place == u.place)) ws) ≡ calls_of c ws
calls_of-out c [] u i a = absurd i
calls_of-out c (x ∷ xs) u (inl i) a =
    let at : u.place ≡ x.place = ap (λ (w : WaitingCall). w.place) i in
    let same : (x.place == u.place) ≡ true = grind (arith, nat_tests) in
    let rest : filter (λ (w : WaitingCall). not (w.place == u.place)) xs ≡ xs =
    filter-all (λ (w : WaitingCall). not (w.place == u.place)) xs
    (λ w j. let k : (w.place == x.place) ≡ false =
    any-false (λ (v : WaitingCall). v.place == x.place) xs w a.0 j in
    let ne : (w.place == u.place) ≡ false = grind (arith, nat_tests) in rw ne refl) in
    let one : its c u ≡ its c x = ap (its c) i in
    rw (same, rest) (omega (arith, one))
calls_of-out c (x ∷ xs) u (inr i) a =
    let k : (u.place == x.place) ≡ false =
    any-false (λ (v : WaitingCall). v.place == x.place) xs u a.0 i in
    let ne : (x.place == u.place) ≡ false = grind (arith, nat_tests) in
    rw ne (omega (arith, calls_of-out c xs u i a.1))

-- a Trip answers each of its calls
pub reply_count_in-trip : (c : ℕ) (ws : List WaitingCall) → reply_count_in c (trip_replies ws)
    ≡ calls_of c ws
reply_count_in-trip c [] = refl
reply_count_in-trip c (w ∷ ws) = go (w.client == c) (reply_count_in-trip c ws)
  where
    first : ReplyView
    first = record { client = w.client; place = w.place; outcome = trip_outcome ws }

    go : (b : Bool) → reply_count_in c (trip_replies ws) ≡ calls_of c ws
        → length (cond b (first ∷ replies_to c (trip_replies ws)) (replies_to c (trip_replies ws)))
        ≡ cond b 1 0 + calls_of c ws
    go true ih = omega (arith, ih)
    go false ih = omega (arith, ih)

-- if no two calls are of one client, at most one is this client's
one_each_of : (c : ℕ) (ws : List WaitingCall)
    → ((v w : WaitingCall) → In v ws → In w ws → v.client ≡ w.client → v ≡ w) → Apart ws
    → calls_of c ws ≡ cond (is_some (place_of_client ws c)) 1 0
one_each_of c [] one a = refl
one_each_of c (w ∷ ws) one a = go (w.client == c) refl
    (one_each_of c ws (λ u v i j e. one u v (inr i) (inr j) e) a.1)
  where
    go : (b : Bool) → (w.client == c) ≡ b → calls_of c ws
        ≡ cond (is_some (place_of_client ws c)) 1 0
        → cond b 1 0 + calls_of c ws ≡ cond (is_some (cond b (Some w.place)
        (place_of_client ws c))) 1 0
    go false e ih = omega (arith, ih)
    go true e ih =
        let here : w.client ≡ c = grind (arith, nat_tests) in
        let none : calls_of c ws ≡ 0 =
        calls_of-none c ws
        (λ v i. false_by (v.client == c)
        (λ t. let there : v.client ≡ c = grind (arith, nat_tests) in
        let same : v ≡ w = one v w (inr i) (inl refl) (there ∙ sym here) in
        let k : (v.place == w.place) ≡ false =
        any-false (λ (u : WaitingCall). u.place == w.place) ws v a.0 i in
        let at : v.place ≡ w.place = ap (λ (u : WaitingCall). u.place) same in
        let yes : (v.place == w.place) ≡ true = grind (arith, nat_tests) in
        false≢true (sym k ∙ yes))) in
        omega (arith, none)

-- a client has one open call or none
pub calls_of-open : (h : History) (c : ℕ) → Follows h → calls_of c (open_calls h)
    ≡ open_call_count h c
calls_of-open h c f = one_each_of c (open_calls h) (one_each h f) (open_apart h f)
