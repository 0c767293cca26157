-- A client has no entries of its own before it joins or after it dies.
use Rattle.std.proofs.Common.{◌≡◌, ◌≢◌, ℕ, suc, ◌+◌, ◌≤◌, ◌<◌, ◌==◌, ◌⊎◌, inl, inr, Bool, true}
use Rattle.std.proofs.Common.{false, cond, List, [], ◌∷◌, ◌++◌, length, Option, Some, None, is_some}
use Rattle.std.proofs.Common.{refl, sym, ap, ◌∙◌, arith}
use Rattle.std.proofs.lemmas.Bool.Decides.{nat_tests}
use Rattle.std.proofs.lemmas.Bool.{false≢true}
use Rattle.pt_model.specs.declared.entry.Entry.{Entry}
use Rattle.pt_model.specs.declared.entry.Entry.TheVariants.{Death}
use Rattle.pt_model.specs.declared.entry.Event.{Event}
use Rattle.pt_model.specs.Histories.{History, ◌▷◌, place, append_entries}
use Rattle.pt_model.specs.Clients.{client_priority, is_alive}
use Rattle.pt_model.specs.Steps.{Step, joins, calls, dies, ticks, grants, trips, yields, expires}
use Rattle.pt_model.specs.Steps.{Follows}
use Rattle.pt_model.proofs.Histories.{follows-part}
use Rattle.pt_model.proofs.Sound.{Fresh-follows, alive_below}
use Rattle.pt_client_events.specs.OwnEvents.{own_event, with_place, own_from}

-- a client that does not live is not one that does
other : (h : History) (c d : ℕ) → is_alive h c ≡ false → is_alive h d ≡ true
    → (d == c) ≡ false
other h c d dead lives = go (d == c) refl
  where
    go : (b : Bool) → (d == c) ≡ b → b ≡ false
    go false e = refl
    go true e =
        let same : d ≡ c = grind (arith, nat_tests) in
        absurd (false≢true (sym dead ∙ (ap (is_alive h) (sym same) ∙ lives)))

module _ (h : History) (c : ℕ) (dead : is_alive h c ≡ false) (apart : place h ≢ c) where
  elsewhere : (place h == c) ≡ false
  elsewhere = go (place h == c) refl
    where
      go : (b : Bool) → (place h == c) ≡ b → b ≡ false
      go false e = refl
      go true e = let same : place h ≡ c = grind (arith, nat_tests) in absurd (apart same)

  -- the next entry is not the client's own
  silent : (e : Entry) → Step h e → own_event c e ≡ None
  silent _ (joins p n lt) = rw elsewhere refl
  silent _ (calls d call n a o) = rw (other h c d dead a) refl
  silent _ (dies d n a) = rw (other h c d dead a) refl
  silent _ (ticks k t n) = refl
  silent _ (grants w s i g) = refl
  silent _ (trips w s i t) = refl
  silent _ (yields m s o) = refl
  silent _ (expires w s i t) = refl

  -- the client does not live after it either
  still : (e : Entry) → Step h e → is_alive (h ▷ e) c ≡ false
  still _ (joins p n lt) = rw elsewhere dead
  still _ (calls d call n a o) = dead
  still _ (dies d n a) = rw (other h c d dead a) dead
  still _ (ticks k t n) = dead
  still _ (grants w s i g) = dead
  still _ (trips w s i t) = dead
  still _ (yields m s o) = dead
  still _ (expires w s i t) = dead

-- none of these entries is the client's own, if it does not live and does not join by them
silent-from : (h : History) (es : List Entry) (c : ℕ) → Follows (append_entries h es)
    → is_alive h c ≡ false → (c < place h) ⊎ (place h + length es ≤ c)
    → own_from c (place h) es ≡ []
silent-from h [] c f dead at = refl
silent-from h (e ∷ es) c f dead at =
    let s = follows-part (h ▷ e) es f in
    let apart : place h ≢ c = λ same. outside at same in
    rw (silent h c dead apart e s.1)
    (silent-from (h ▷ e) es c f (still h c dead apart e s.1) (further at))
  where
    outside : (c < place h) ⊎ (place h + suc (length es) ≤ c) → place h ≡ c → ⊥
    outside (inl lt) same = absurd (omega (arith, lt, same))
    outside (inr le) same = absurd (omega (arith, le, same))

    further : (c < place h) ⊎ (place h + suc (length es) ≤ c)
        → (c < suc (place h)) ⊎ (suc (place h) + length es ≤ c)
    further (inl lt) = inl (omega (arith, lt))
    further (inr le) = inr (omega (arith, le))

-- before its Join
pub silent-before : (h : History) (es : List Entry) (c : ℕ) → Follows (append_entries h es)
    → place h + length es ≤ c → own_from c (place h) es ≡ []
silent-before h es c f le =
    silent-from h es c f (unborn (is_alive h c) refl) (inr le)
  where
    unborn : (b : Bool) → is_alive h c ≡ b → b ≡ false
    unborn false e = refl
    unborn true e =
        let lt : c < place h = alive_below h c (Fresh-follows h (follows-part h es f)) e in
        absurd (omega (arith, lt, le))

-- after its Death
pub silent-after : (h : History) (es : List Entry) (c : ℕ)
    → Follows (append_entries (h ▷ Death c) es)
    → own_from c (suc (place h)) es ≡ []
silent-after h es c f =
    let s = follows-part (h ▷ Death c) es f in
    silent-from (h ▷ Death c) es c f (rw same refl)
    (inl (omega (arith, alive_below h c (Fresh-follows h s.0) (died (Death c) s.1 refl))))
  where
    same : (c == c) ≡ true
    same = grind (arith, nat_tests)

    died : (e : Entry) → Step h e → e ≡ Death c → is_alive h c ≡ true
    died _ (dies d n a) e = let at : d ≡ c = cc in ap (is_alive h) (sym at) ∙ a
    died _ (joins p n lt) e = absurd cc
    died _ (calls d call n a o) e = absurd cc
    died _ (ticks k t n) e = absurd cc
    died _ (grants w s i g) e = absurd cc
    died _ (trips w s i t) e = absurd cc
    died _ (yields m s o) e = absurd cc
    died _ (expires w s i t) e = absurd cc
