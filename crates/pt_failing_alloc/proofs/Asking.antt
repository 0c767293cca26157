-- `Turns::refuses_next` at a call: what it is handed, and what its caller gets from it.
use Rattle.std.proofs.Common.{◌≡◌, ℕ, Bool, List, [], ◌∷◌, refl, ap}
use seplogic.Ra.Ura.{Ura}
use mir.Val.{Val, vbool, vptr}
use base.Logic.{SProp, ent, sep, ex, guard, id⊢}
use base.Fml.{Lft, Share, ftrue, fsep, flft}
use prog.Memory.{Memory}
use prog.Routine.{Routine}
use types.Logic.{Logic, sem}
use contract.Monad.{Fun}
use types.Kit.{‵, raw, ◌⊛◌, some, later, ◌$◌, ◌∵◌, !, qed, move, keep, use1, split, join, pick}
use types.Kit.{fjoin, feq_i, feq_l, check, show, await, updating, now as at_once, done}
use denote.Memory.{hidden_shr}
use denote.Builtin.{bool}
use denote.Steps.{nothing, only}
use denote.Triple.Statement.{Contract}
use denote.Triple.Spec.{triple_of}
use Rattle.pt_failing_alloc.specs.declared.Turns.{Turns}
use Rattle.pt_failing_alloc.specs.contracts.Turns.{the_row}
use Rattle.pt_failing_alloc.specs.contracts.Turns.refuses_next as N

module _ {M : Type 1} {𝓤 : Ura M} (𝓛 : Logic 𝓤) (at_mem : Memory → SProp 𝓤)
    (run : Routine → Fun 𝓤) where
  open 𝓛 use {H, A}

  abbrev pub Asks : Contract 𝓤
  Asks = triple_of 𝓛 N.signature (N.spec 𝓛 at_mem run)

  module _ (κ : Lft) (q : Share) (at : ℕ × ℕ) (t : Turns) where
    abbrev pub asked : Asks.Ghost
    asked = (
      (
        (κ, tt),
        (q, tt),
        tt,
        (record { ref_ptr = at; now = t }, tt),
        (vptr at.0 at.1 ∷ [], tt),
      ),
      tt,
    )

    -- a `&` to the turns and the token of its lifetime are enough
    pub asks-goes :
        ent 𝓤 (sep 𝓤 (sem 𝓛 (hidden_shr the_row κ t at.0 at.1)) (A.lft κ q)) (Asks.pre asked)
    asks-goes =
        qed 𝓛 (‵ (hidden_shr the_row κ t at.0 at.1) ∷ ‵ (flft κ q) ∷ []) ∵
        feq_i ! (List Val) (vptr at.0 at.1 ∷ []) (vptr at.0 at.1 ∷ []) refl $ fjoin ! $ nothing ! $
        move ! (1 ∷ []) $ fjoin ! $ nothing ! $ move ! (2 ∷ []) $ join ! $ join ! $
        nothing ! $ move ! (1 ∷ []) $ done !

    -- the answer is a truth value, and the token comes back
    abbrev pub Told : Val → Bool → SProp 𝓤
    Told v b = guard 𝓤 (v ≡ vbool b) (A.lft κ q)

    pub asks-gives : (v : Val) → ent 𝓤 (Asks.post asked v) (H.⇛ (ex 𝓤 (Told v)))
    asks-gives v =
        qed 𝓛 (raw (Asks.post asked v) ∷ []) ∵ updating ! $
        use1 𝓛 (later (some (λ (b : Bool).
        ((‵ (flft κ q) ⊛ ‵ ftrue) ⊛ ‵ (bool.own_val b (v ∷ [])))
        ⊛ some (λ (ws : Unit {0} × Unit {0}). ‵ (fsep ftrue ftrue) ⊛ ‵ ftrue))))
        (id⊢ 𝓤 _) $
        await ! tt $ pick ! (λ b. split ! $ split ! $ move ! (1 ∷ []) $ feq_l ! (λ is. split ! $
        at_once ! $ show ! (Told v) b $ check ! (ap only is) $ keep ! (0 ∷ []) $ done !))
