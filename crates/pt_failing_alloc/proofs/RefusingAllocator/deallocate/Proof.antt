-- The block goes back to the inner allocator.
use Rattle.std.proofs.Common.{◌≡◌, ℕ, ◌+◌, ◌^◌, ◌<◌, List, [], ◌∷◌, refl, w64, Bor}
use seplogic.Ra.Ura.{Ura}
use mir.Syntax.{Ty, Args, Fn, a_type, dnil, dcons}
use mir.Val.{Val, vunit, vint, vptr}
use mir.MapTy.{inst_fn}
use base.Logic.{SProp, ent, id⊢, never_e}
use base.Fml.{Lft, Share, ffalse, ftrue, fsep, flft, froom}
use prog.Memory.{Memory, size, align, capped, up}
use prog.Routine.{Routine}
use prog.Wp.{WpFn, Tables}
use types.Logic.{Logic}
use contract.BorrowLft.{◌⊑◌, ⊑_trans}
use contract.Monad.{Fun, fact}
use contract.Running.{tables, tables_of}
use sound.WpLaws.{fm_of, WpFn-mono}
use types.Kit.{Item, ‵, raw, ◌⊛◌, ⋆, later, given, learn, by, ◌$◌, ◌∵◌, !, qed, move, keep, use1}
use types.Kit.{split, split3, join, group, fsplit, fjoin, feq_i, suffices, await, done}
use types.Run.{stop, fld, addr, of_opd, unit_lit, no_more, and_then, returns, enter}
use types.ByLocal.{alloc_all, pass_all, free_all, look_at, get, through, sets, lands_as}
use denote.Exit.{yes}
use denote.RattleType.{owns}
use denote.RawPtr.{Ptr, block_ptr, null_ptr, ptr_val, rawptr_vals, rawptr_Tells}
use denote.Ref.{shr_vals}
use denote.Opens.{unhide}
use denote.Param.{bounded, param}
use denote.Plain.{uint_vals, uint_Tells}
use denote.Builtin.{usize, RawPtr, RefOf}
use denote.Signature.{Slot, plain, types_at}
use denote.Steps.{heard, nothing}
use denote.Triple.Call.{calls_at}
use denote.Triple.Clauses.{Ended, Clauses}
use denote.Triple.Spec.{triple_of}
use denote.Triple.Statement.{Triple}
use denote.Triple.Table.{entered}
use denote.Triple.Walked.{Stays, stay_dropped, walk_of, ends_at, walked, Goes-dropped, walk_Meets}
use Rattle.std.proofs.alloc.Calls.{Al, α, seen, token, gives_key, Gives, at_gives, Gives-goes}
use Rattle.std.proofs.alloc.Calls.{Gives-Gives}
use Rattle.pt_failing_alloc.specs.contracts.Refusing as R
use Rattle.pt_failing_alloc.specs.contracts.RefusingAllocator.deallocate as F
use Rattle.pt_failing_alloc.specs.contracts.RefusingAllocator.deallocate.Key as key
use Rattle.pt_failing_alloc.proofs.RefusingAllocator.deallocate.Statement as stated
use Rattle.pt_failing_alloc.proofs.RefusingAllocator.deallocate.Code as code

module _ (Z : Al) where
  abbrev args : Args
  args = bounded (a_type ∷ []) (Z.row, tt) (dcons Z.d (dcons Z.drops dnil))

  abbrev here : Fn
  here = inst_fn args code.function

  abbrev self : Slot 2
  self = RefOf (0 ∷ []) tt (plain (λ _. R.the_row (param 0 Z.row))) (λ _. tt)

  abbrev pointer : Slot 2
  pointer = plain (λ _. RawPtr)

  abbrev number : Slot 2
  number = plain (λ _. usize)

  abbrev ended : Ended
  ended = F.ended Z.row Z.g Z.d Z.drops

  abbrev stayed : Stays ended.signature.params ended.kept
  stayed = (
    stay_dropped self yes,
    (
      stay_dropped pointer yes,
      (stay_dropped number yes, (stay_dropped number yes, tt)),
    ),
  )

module _ (Z : Al) {M : Type 1} {𝓤 : Ura M} (𝓛 : Logic 𝓤) (at_mem : Memory → SProp 𝓤)
    (run : Routine → Fun 𝓤) (𝓣 : Tables 𝓤 𝓛.H)
    (gives : Triple 𝓤 (𝓣.C (gives_key Z)) (Gives Z 𝓛 at_mem run)) where
  open 𝓛 use {H}

  abbrev clauses : Clauses 𝓤 (ended Z)
  clauses = F.clauses Z.row Z.g Z.d Z.drops 𝓛 at_mem run

  module _ (κ ρ : Lft) (q s : Share) (out : κ ⊑ ρ) (r : Bor (R.the_row Z.row).Denot)
      (n a : ℕ) (τ : Ty) where
    abbrev Said : Type 0
    Said = (capped (size τ) ≡ n) × (capped (align τ) ≡ a)

    -- the inner allocator and where it lies
    abbrev heap : Z.row.Denot
    heap = r.now.inner

    abbrev heap_at : ℕ × ℕ
    heap_at = (r.ref_ptr.0, r.ref_ptr.1 + up (align (α Z)) 0)

    module _ (x : Ptr) where
      abbrev vs : List Val
      vs = vptr r.ref_ptr.0 r.ref_ptr.1 ∷ ptr_val x ∷ vint w64 n ∷ vint w64 a ∷ []

      abbrev bound : (walk_of 𝓛 (ended Z) (stayed Z) clauses).Ghost
      bound = (
        (
          (κ, (ρ, tt)),
          (q, (s, tt)),
          (out, tt),
          (r, (x, (n, (a, tt)))),
          (shr_vals r, (rawptr_vals x, (vint w64 n ∷ [], (vint w64 a ∷ [], tt)))),
        ),
        τ,
      )

      abbrev Pre : SProp 𝓤
      Pre = (walk_of 𝓛 (ended Z) (stayed Z) clauses).pre bound

      abbrev Post : Val → SProp 𝓤
      Post = (walk_of 𝓛 (ended Z) (stayed Z) clauses).post bound

      abbrev passed : Item 𝓤
      passed =
          (‵ (flft κ q) ⊛ ‵ (flft ρ s) ⊛ ‵ ftrue)
          ⊛ ‵ (owns (types_at (ended Z).signature.params bound.0.0) bound.0.3 bound.0.4)

      -- at the return only the tokens are left
      ends : ent 𝓤 (⋆ 𝓛 (‵ (flft κ q) ∷ (‵ (flft ρ s) ⊛ ‵ ftrue) ∷ [])) (Post vunit)
      ends =
          qed 𝓛 (‵ (flft κ q) ∷ (‵ (flft ρ s) ⊛ ‵ ftrue) ∷ []) ∵
          suffices ! _ (ends_at 𝓛 (ended Z) (stayed Z) clauses bound vunit tt
          (tt, (tt, (tt, (tt, tt)))) (tt, (tt, (tt, (tt, tt))))) $
          nothing ! $ feq_i ! (List Val) (vunit ∷ []) (vunit ∷ []) refl $ nothing ! $
          nothing ! $ fjoin ! $ nothing ! $ fjoin ! $ nothing ! $ fjoin ! $ nothing ! $ fjoin ! $
          join ! $ move ! (2 ∷ 3 ∷ []) $ join ! $ join ! $ done !

    walk : n < 2 ^ 64 → a < 2 ^ 64 → (x : Ptr)
        → ent 𝓤 (Pre x) (WpFn 𝓤 H 𝓣.C 𝓣.Λ (here Z) (vs x) (Post x))
    -- nothing lies at null
    walk fn fa null_ptr =
        qed 𝓛 (passed null_ptr ∷ (raw (fact 𝓤 (ρ ⊑ Z.row.lives)) ⊛ raw (fact 𝓤 Said)
        ⊛ ‵ (fsep ffalse (token Z heap τ null_ptr))) ∷ []) ∵
        move ! (1 ∷ []) $ split3 ! $ move ! (2 ∷ []) $ fsplit ! $ keep ! (0 ∷ []) $
        by ! (never_e 𝓤 _)
    walk fn fa (block_ptr b o) =
        let x : Ptr = block_ptr b o in
        let y = at_gives Z 𝓛 at_mem run κ q heap_at heap b o n a τ in
        let lives = ⊑_trans κ ρ Z.row.lives out in
        qed 𝓛 (passed x ∷ (raw (fact 𝓤 (ρ ⊑ Z.row.lives)) ⊛ raw (fact 𝓤 Said)
        ⊛ ‵ (fsep (froom τ b o) (token Z heap τ x))) ∷ []) ∵
        move ! (1 ∷ []) $ split3 ! $
        heard ! (ρ ⊑ Z.row.lives) (λ le. heard ! Said (λ said. fsplit ! $
        -- [the room; the right to free it; what was passed]
        move ! (2 ∷ []) $ split ! $ split ! $ move ! (2 ∷ []) $ fsplit ! $ fsplit ! $
        move ! (1 ∷ []) $ unhide ! $ fsplit ! $ fsplit ! $
        use1 𝓛 (‵ (seen Z κ heap_at heap)) (id⊢ 𝓤 _) $
        -- [the room; the right to free it; the inner allocator; the token of κ; the other tokens]
        keep ! (7 ∷ 8 ∷ 0 ∷ 5 ∷ 6 ∷ []) $ enter ! 𝓣.C 𝓣.Λ (here Z) (vs x) _ $ alloc_all ! (λ l.
        pass_all ! refl (
          (tt, tt),
          (
            (tt, tt),
            ((tt, record { fits = fn }), ((tt, record { fits = fa }), tt)),
          ),
        ) $
        sets ! (addr ! (through ! refl (fld ! refl (stop !)))) refl (tt, tt) $ group ! 4 $
        use1 𝓛 (raw ((Gives Z 𝓛 at_mem run).pre y))
        (Gives-goes Z 𝓛 at_mem run κ q heap_at heap (lives le) b o n a τ said.0 said.1 fn fa) $
        calls_at ! (fm_of 𝓤 H 𝓛.laws 𝓣) (Gives Z 𝓛 at_mem run) gives y
        (and_then ! (get ! refl) (and_then ! (get ! refl) (and_then ! (get ! refl)
        (and_then ! (get ! refl) (no_more !))))) (λ v.
        use1 𝓛 (later (given (v ≡ vunit) (‵ (flft κ q))))
        (Gives-Gives Z 𝓛 at_mem run κ q heap_at heap b o n a τ v) $
        await ! tt $ learn ! (λ is. lands_as ! is refl (tt, tt) $
        sets ! (of_opd ! (unit_lit !)) refl (tt, tt) $
        returns ! (look_at ! 0 refl) $ free_all ! refl $ by ! (ends x))))))

pub deallocate_spec : {M : Type 1} → stated.statement M
unfolding tables_of
deallocate_spec 𝓤 𝓛 𝓜 𝓡 wired Y L g d d' met _ =
    let Z : Al = record { row = Y; laws = L; g = g; d = d; drops = d' } in
    let A = 𝓛.A in
    let 𝓣 : Tables 𝓤 𝓛.H = tables_of 𝓤 𝓛.H 𝓜 (tables 𝓤 𝓛.H 𝓜 𝓡 𝓡.env) in
    let c = F.clauses Y g d d' 𝓛 𝓜.mem 𝓡.returns in
    let Run = WpFn 𝓤 𝓛.H 𝓣.C 𝓣.Λ (here Z) in
    let of_pointer = Goes-dropped 𝓛 2 (pointer Z) yes (λ κs x f. refl) in
    let of_number = Goes-dropped 𝓛 2 (number Z) yes (λ κs x f. refl) in
    entered 𝓤 𝓛.H (triple_of 𝓛 (F.signature Y) (F.spec Y g d d' 𝓛 𝓜.mem 𝓡.returns))
    𝓣.C 𝓣.Λ (key.name (args Z)) (here Z) (code.unfolded 𝓤 𝓛.H 𝓜 𝓡 wired (Y, tt) d d')
    (walk_Meets 𝓛 (ended Z) (stayed Z)
    (Goes-dropped 𝓛 2 (self Z) yes (λ κs x f. refl), (of_pointer, (of_number, (of_number, tt))))
    c Run (WpFn-mono 𝓤 𝓛.H 𝓛.laws 𝓣 (here Z))
    (walked 𝓛 (ended Z) (stayed Z) c Run
    (λ κs. (shr_vals, (rawptr_vals, (uint_vals w64, (uint_vals w64, tt)))))
    (λ κs. ((λ r vs s. s.0), (rawptr_Tells, (uint_Tells w64, (uint_Tells w64, tt)))))
    (λ κs qs bounds a τ are. walk Z 𝓛 𝓜.mem 𝓡.returns 𝓣 (met.deallocate d')
    κs.0 κs.1.0 qs.0 qs.1.0 bounds.0 a.0 a.1.1.0 a.1.1.1.0 τ
    are.1.1.0.1 are.1.1.1.0.1 a.1.0)))
