-- The open call of a client, found by its client.
use Rattle.std.proofs.Common.{◌≡◌, ℕ, Bool, true, false, cond, ◌==◌, inl, inr, List, [], ◌∷◌}
use Rattle.std.proofs.Common.{Option, Some, None, refl, sym, ap, ◌∙◌, subst, arith}
use Rattle.std.proofs.lemmas.Bool.Decides.{nat_tests}
use Rattle.std.proofs.lemmas.Bool.{false≢true}
use Rattle.pt_model.specs.Searches.{In}
use Rattle.pt_model.specs.Histories.{History}
use Rattle.pt_model.specs.declared.waiting_call.WaitingCall.{WaitingCall}
use Rattle.pt_model.specs.Answers.{open_calls, open_place, place_of_client}
use Rattle.pt_model.specs.Steps.{Follows}
use Rattle.pt_model.proofs.Found.{found_open}
use Rattle.pt_model.proofs.OneEach.{one_each}
use Rattle.pt_next_grant.specs.Candidates.{open_call_if}
use Rattle.pt_next_grant.specs.Touched.{waiting_if}

-- the first call of a client that has at least one
place_of_client-first : (ws : List WaitingCall) (c : ℕ) (v : WaitingCall) → In v ws → v.client ≡ c
    → (u : WaitingCall) × (In u ws × ((u.client ≡ c) × (place_of_client ws c ≡ Some u.place)))
place_of_client-first [] c v i e = absurd i
place_of_client-first (x ∷ xs) c v i e = go (x.client == c) refl i
    (λ j. place_of_client-first xs c v j e)
  where
    more : (b : Bool) → b ≡ false → ((u : WaitingCall) × (In u xs × ((u.client ≡ c)
        × (place_of_client xs c ≡ Some u.place)))) → (u : WaitingCall) × (In u (x ∷ xs) × ((u.client
        ≡ c)
        × (cond b (Some x.place) (place_of_client xs c) ≡ Some u.place)))
    more true eb p = absurd cc
    more false eb p = (p.0, (inr p.1.0, p.1.1))

    go : (b : Bool) → (x.client == c) ≡ b → In v (x ∷ xs) → (In v xs → (u : WaitingCall) × (In u xs
        × ((u.client ≡ c) × (place_of_client xs c ≡ Some u.place)))) → (u : WaitingCall) × (In u (x
        ∷ xs)
        × ((u.client ≡ c) × (cond b (Some x.place) (place_of_client xs c) ≡ Some u.place)))
    go true eb j ih =
        let at : x.client ≡ c = grind (arith, nat_tests) in (x, (inl refl, (at, refl)))
    go false eb (inl j) ih =
        let at : x.client ≡ c = ap (λ (u : WaitingCall). u.client) (sym j) ∙ e in
        let yes : (x.client == c) ≡ true = grind (arith, nat_tests) in
        absurd (false≢true (sym eb ∙ yes))
    go false eb (inr j) ih = more false refl (ih j)

-- a place that is found is that of a call of the client
place_of_client-found : (ws : List WaitingCall) (c j : ℕ) → place_of_client ws c ≡ Some j
    → (u : WaitingCall)
    × (In u ws × ((u.client ≡ c) × (u.place ≡ j)))
place_of_client-found [] c j e = absurd cc
place_of_client-found (x ∷ xs) c j e = go (x.client == c) refl e (place_of_client-found xs c j)
  where
    go : (b : Bool) → (x.client == c) ≡ b → cond b (Some x.place) (place_of_client xs c) ≡ Some j
        → (place_of_client xs c ≡ Some j
        → (u : WaitingCall) × (In u xs × ((u.client ≡ c) × (u.place ≡ j))))
        → (u : WaitingCall) × (In u (x ∷ xs) × ((u.client ≡ c) × (u.place ≡ j)))
    go true eb k ih =
        let own : x.client ≡ c = grind (arith, nat_tests) in
        let at : x.place ≡ j = cc in
        (x, (inl refl, (own, at)))
    go false eb k ih = let p = ih k in (p.0, (inr p.1.0, p.1.1))

-- an open call is found by its client
pub open_call-found : (h : History) → Follows h → (w : WaitingCall) (c : ℕ) → In w (open_calls h)
    → w.client ≡ c → open_call_if h (Some c) ≡ Some w
open_call-found h f w c i e =
    let u = place_of_client-first (open_calls h) c w i e in
    let same : u.0 ≡ w = one_each h f u.0 w u.1.0 i (u.1.1.0 ∙ sym e) in
    ap (waiting_if h) u.1.1.1 ∙ (found_open h f u.0 u.1.0 ∙ ap Some same)

-- a call that is found by a client is open, and is the client's
pub open_call-is : (h : History) → Follows h → (w : WaitingCall) (c : ℕ)
    → open_call_if h (Some c) ≡ Some w → In w (open_calls h) × (w.client ≡ c)
open_call-is h f w c e = go (open_place h c) refl e
  where
    go : (x : Option ℕ) → open_place h c ≡ x → waiting_if h x ≡ Some w → In w (open_calls h)
        × (w.client ≡ c)
    go None ex k = absurd cc
    go (Some j) ex k =
        let u = place_of_client-found (open_calls h) c j ex in
        let at : waiting_if h (Some j) ≡ Some u.0 =
        ap (λ p. waiting_if h (Some p)) (sym u.1.1.1) ∙ found_open h f u.0 u.1.0 in
        let both : Some u.0 ≡ Some w = sym at ∙ k in
        let same : u.0 ≡ w = cc in (
          subst (λ (v : WaitingCall). In v (open_calls h)) same u.1.0,
          ap (λ (v : WaitingCall). v.client) (sym same) ∙ u.1.1.0,
        )
