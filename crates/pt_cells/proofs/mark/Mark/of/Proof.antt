-- What the note knows is had twice, once for the mark.
use Rattle.std.proofs.Common.{◌≡◌, IsSome, Option, [], ◌∷◌, refl, sym}
use mir.Syntax.{a_type, named}
use mir.Val.{Val, vptr}
use mir.MapTy.{inst_fn}
use base.Logic.{SProp, emp}
use base.Fml.{Fml, ftrue, fsep, flft}
use types.Kit.{‵, raw, ◌⊛◌, ◌$◌, ◌∵◌, !, qed, by, move, keep, split, fsplit, fsplit3, fjoin, fjoin3, use0, use1, rewrite}
use types.Run.{no_more, and_then, returns, enter}
use types.ByLocal.{alloc_all, pass_all, free_all, look_at, get, sets}
use types.Part.{agg}
use contract.Monad.{fact, fact_i}
use contract.Running.{tables}
use denote.RattleType.{RattleType, owns}
use denote.Signature.{types_at, plain}
use denote.Ref.{mut_vals, mut_Tells}
use denote.Steps.{nothing, heard, opens, closes}
use denote.Param.{param, layouts}
use denote.Triple.Walked.{Stays, stay_ref, walk_of, Goes-ref}
use Rattle.std.specs.declared.option.Option.TheVariants.{Some}
use Rattle.std.proofs.raw_atomic.Walks.{proved, leaves}
use Rattle.once_cell.specs.Once.{noted}
use Rattle.once_cell.specs.contracts.race.note.Note as note
use Rattle.pt_cells.proofs.Known.{Marker, marker_made, nothing_in, known_twice, value_in}
use Rattle.pt_cells.specs.contracts.mark.Mark as mark
use Rattle.pt_cells.specs.contracts.mark.Mark.of.{ended, clauses}
use Rattle.pt_cells.specs.contracts.mark.Mark.of.Key.{name as #self}
use Rattle.pt_cells.proofs.mark.Mark.of.Statement.{statement}
use Rattle.pt_cells.proofs.mark.Mark.of.Code as code

pub of_spec : {M : Type 1} → statement M
of_spec 𝓤 𝓛 𝓜 𝓡 wired T L =
    let 𝓣 = tables 𝓤 𝓛.H 𝓜 𝓡 𝓡.env in
    let R : RattleType = param 0 T in
    let Mark : RattleType = mark.the_row R in
    let Note : RattleType = note.the_row R in
    let E = ended T in
    let c = clauses T 𝓛 𝓜.mem 𝓡.returns in
    let inst = layouts (a_type ∷ []) (T, tt) in
    let fn = inst_fn inst code.function in
    let hs : Stays E.signature.params E.kept = (stay_ref (0 ∷ []) tt (plain (λ _. Note)), tt) in
    proved 𝓛 E hs c 𝓜 𝓡 (Goes-ref 𝓛 2 0 tt (plain (λ _. Note)), tt)
    (#self inst) fn (code.unfolded 𝓤 𝓛.H 𝓜 𝓡 wired (T, tt))
    (λ κs. (mut_vals, tt))
    (λ κs. (mut_Tells (named 0) κs.0 Note, tt))
    (λ κs qs bounds a g are.
    let n = a.0.now in let b = a.0.ref_ptr.0 in let o = a.0.ref_ptr.1 in let v₀ = vptr b o in
    let y : (walk_of 𝓛 E hs c).Ghost = ((κs, qs, bounds, a, (v₀ ∷ [], tt)), g) in
    let Post : Val → SProp 𝓤 = (walk_of 𝓛 E hs c).post y in
    let tokens : Fml = fsep (flft κs.0 qs.0) (fsep (flft κs.1.0 qs.1.0) ftrue) in
    qed 𝓛 ((‵ tokens ⊛ ‵ (owns (types_at E.signature.params κs) a y.0.4)) ∷ raw (fact 𝓤 _) ∷ raw (fact 𝓤 (IsSome n.known)) ∷ []) ∵
    move ! (2 ∷ []) $ heard ! (IsSome n.known) (λ some.
    let x = (value_in n.known some).0 in let is = (value_in n.known some).1 in
    let r : Mark.Denot = record { marker = record {}; cell = n.cell; value = x } in
    let So : Type 0 = (n ≡ n) × (r.cell ≡ n.cell) × (n.known ≡ Some r.value) in
    let Knows : Option R.Denot → _ = λ k. ‵ (noted R n.cell k) in
    split ! $ fsplit ! $ move ! (2 ∷ []) $ fsplit ! $ keep ! (0 ∷ 2 ∷ 3 ∷ []) $
    enter ! 𝓣.C 𝓣.Λ fn (v₀ ∷ []) Post $ alloc_all ! (λ l. pass_all ! refl ((tt, tt), tt) $
    fsplit3 ! $ move ! (1 ∷ 2 ∷ 3 ∷ []) $ opens ! tt Note b o (λ vs. move ! (1 ∷ []) $ fsplit ! $
    -- [the note's bytes; what it knows; its cell; the open borrow, in three entries; `note`'s address; T's token]
    move ! (1 ∷ []) $ rewrite ! 0 Knows is refl $
    use1 𝓛 (‵ (noted R n.cell (Some x)) ⊛ ‵ (noted R n.cell (Some x))) (known_twice 𝓛 R n.cell x) $ split ! $
    rewrite ! 0 Knows (sym is) refl $ move ! (2 ∷ 0 ∷ []) $ fjoin ! $
    move ! (2 ∷ 0 ∷ 3 ∷ 4 ∷ 5 ∷ []) $ closes ! tt Note n vs b o $
    -- [two parts of `note`; the token; what the mark knows; `note`'s address; T's token]
    use0 𝓛 (‵ ((Marker R).own_val (record {}, tt) (nothing_in ∷ []))) (marker_made R 𝓛) $
    move ! (0 ∷ 4 ∷ []) $ fjoin ! $ move ! (4 ∷ 1 ∷ 2 ∷ []) $ fjoin3 ! $
    nothing ! $ move ! (1 ∷ 0 ∷ []) $ fjoin ! $ move ! (2 ∷ 3 ∷ []) $ fjoin ! $
    use0 𝓛 (raw (fact 𝓤 So)) (fact_i 𝓤 So (emp 𝓤) (refl, refl, is)) $
    -- [what is ensured; the tokens; what is left of `note`; the mark]
    sets ! (agg ! (no_more !)) refl (tt, tt) $
    sets ! (agg ! (and_then ! (get ! refl) (no_more !))) refl (tt, (tt, tt)) $
    returns ! (look_at ! 0 refl) $ free_all ! refl $ keep ! (1 ∷ 2 ∷ 3 ∷ 0 ∷ []) $
    by ! (leaves 𝓛 E hs c y nothing_in r (n, tt) (tt, tt))))))
