-- A history goes on with forced entries until nothing is forced.
use Rattle.std.proofs.Common.{◌≡◌, ℕ, zero, suc, ◌<◌, ◌≤◌, true, List, [], ◌∷◌, Option, Some, None}
use Rattle.std.proofs.Common.{MatchOption, refl, sym, ◌∙◌, subst, arith}
use Rattle.pt_model.specs.declared.entry.Entry.{Entry}
use Rattle.pt_model.specs.Histories.{History, ◌▷◌, is_forced}
use Rattle.pt_model.specs.Forced.{forced}
use Rattle.pt_model.specs.Legal.{TakesEvent, LegalFrom}
use Rattle.pt_model.specs.Room.{need}
use Rattle.pt_model.specs.Steps.{Step, joins, calls, dies, ticks, grants, trips, yields, expires}
use Rattle.pt_model.specs.Steps.{Follows}
use Rattle.pt_model.proofs.Room.{room-step}
use Rattle.pt_model.proofs.Steps.{step-forced}

-- a forced entry is no event's own
forced_is : (h : History) (e : Entry) → forced h ≡ Some e → is_forced e ≡ true
forced_is h e f = go e (step-forced h e f) f
  where
    go : (e : Entry) → Step h e → forced h ≡ Some e → is_forced e ≡ true
    go _ (joins p n lt) f = absurd (let no = sym n ∙ f in cc)
    go _ (calls c call n a o) f = absurd (let no = sym n ∙ f in cc)
    go _ (dies c n a) f = absurd (let no = sym n ∙ f in cc)
    go _ (ticks k t n) f = absurd (let no = sym n ∙ f in cc)
    go _ (grants w s i g) f = refl
    go _ (trips w s i t) f = refl
    go _ (yields m s t) f = refl
    go _ (expires w s i t) f = refl

-- a forced entry lowers the need
fewer : (h : History) (f : Entry) → Follows h → forced h ≡ Some f → need (h ▷ f) < need h
fewer h f follows e = (room-step h f follows (step-forced h f e) (forced_is h f e)).1

-- a history goes on with a forced entry, or is settled
goes_on : (h : History) (o : Option Entry) → forced h ≡ o
    → ((f : Entry) → forced h ≡ Some f → (fs : List Entry) × LegalFrom (h ▷ f) fs [])
    → (fs : List Entry) × LegalFrom h fs []
goes_on h None e rest = ([], (e, refl))
goes_on h (Some f) e rest =
    let more = rest f e in (
      f ∷ more.0,
      subst
          (λ o. MatchOption o (TakesEvent h f [] (LegalFrom (h ▷ f) more.0))
          (λ x. (f ≡ x) × LegalFrom (h ▷ f) more.0 [])) (sym e) (refl, more.1),
    )

-- a history goes on until nothing is forced
pub settles : (n : ℕ) (h : History) → Follows h → need h ≤ n → (fs : List Entry) × LegalFrom h fs []
settles zero h follows few =
    goes_on h (forced h) refl (λ f e. absurd (omega (arith, few, fewer h f follows e)))
settles (suc n) h follows few =
    goes_on h (forced h) refl
    (λ f e. settles n (h ▷ f) (follows, step-forced h f e)
    (omega (arith, few, fewer h f follows e)))
