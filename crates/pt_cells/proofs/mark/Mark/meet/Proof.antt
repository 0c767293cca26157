-- Both marks are read through their references, and what they know is compared.
use Rattle.std.proofs.Common.{◌≡◌, List, [], ◌∷◌, refl}
use mir.Syntax.{a_type, named}
use mir.Val.{Val, vunit, vptr}
use mir.MapTy.{inst_fn}
use base.Logic.{SProp, emp}
use base.Fml.{Fml, ftrue, fsep, flft, fhide}
use types.Kit.{‵, raw, ◌⊛◌, ◌$◌, ◌∵◌, !, qed, by, move, keep, drop, split, fsplit, fjoin, use0, use1, use2, feq_i}
use types.Run.{of_opd, unit_lit, returns, enter}
use types.ByLocal.{alloc_all, pass_all, free_all, look_at, sets}
use contract.Monad.{fact, fact_i}
use contract.Running.{tables}
use denote.Exit.{yes}
use denote.RattleType.{RattleType, owns}
use denote.Signature.{types_at, plain}
use denote.Builtin.{RefOf}
use denote.Ref.{shr_vals, shr_Tells}
use denote.Memory.{hidden_shr}
use denote.Opens.{unhide}
use denote.Steps.{nothing, heard}
use denote.Param.{param, layouts}
use denote.Struct.Lending.{lent_out}
use denote.Triple.Walked.{Stays, stay_dropped, walk_of, Goes-dropped}
use Rattle.std.specs.contracts.marker.PhantomData as marker
use Rattle.std.specs.declared.option.Option.TheVariants.{Some}
use Rattle.std.proofs.raw_atomic.Walks.{proved, leaves}
use Rattle.once_cell.specs.Once.{noted}
use Rattle.pt_cells.proofs.Known.{Marker, known_alike}
use Rattle.pt_cells.specs.contracts.mark.Mark as mark
use Rattle.pt_cells.specs.contracts.mark.Mark.meet.{ended, clauses}
use Rattle.pt_cells.specs.contracts.mark.Mark.meet.Key.{name as #self}
use Rattle.pt_cells.proofs.mark.Mark.meet.Statement.{statement}
use Rattle.pt_cells.proofs.mark.Mark.meet.Code as code

pub meet_spec : {M : Type 1} → statement M
meet_spec 𝓤 𝓛 𝓜 𝓡 wired T L =
    let 𝓣 = tables 𝓤 𝓛.H 𝓜 𝓡 𝓡.env in
    let R : RattleType = param 0 T in
    let Mark : RattleType = mark.the_row R in
    let E = ended T in
    let c = clauses T 𝓛 𝓜.mem 𝓡.returns in
    let inst = layouts (a_type ∷ []) (T, tt) in
    let fn = inst_fn inst code.function in
    let one = RefOf (0 ∷ []) tt (plain (λ _. Mark)) (λ _. tt) in
    let other = RefOf (1 ∷ []) tt (plain (λ _. Mark)) (λ _. tt) in
    let hs : Stays E.signature.params E.kept =
    (stay_dropped one yes, (stay_dropped other yes, tt)) in
    proved 𝓛 E hs c 𝓜 𝓡
    (Goes-dropped 𝓛 3 one yes (λ κs x f. refl), (Goes-dropped 𝓛 3 other yes (λ κs x f. refl), tt))
    (#self inst) fn (code.unfolded 𝓤 𝓛.H 𝓜 𝓡 wired (T, tt))
    (λ κs. (shr_vals, (shr_vals, tt)))
    (λ κs. (shr_Tells (named 0) κs.0 Mark, (shr_Tells (named 1) κs.1.0 Mark, tt)))
    (λ κs qs bounds a g are.
    let m = a.0.now in let n = a.1.0.now in
    let v₀ = vptr a.0.ref_ptr.0 a.0.ref_ptr.1 in let v₁ = vptr a.1.0.ref_ptr.0 a.1.0.ref_ptr.1 in
    let y : (walk_of 𝓛 E hs c).Ghost = ((κs, qs, bounds, a, (v₀ ∷ [], (v₁ ∷ [], tt))), g) in
    let Post : Val → SProp 𝓤 = (walk_of 𝓛 E hs c).post y in
    let tokens : Fml = fsep (flft κs.0 qs.0) (fsep (flft κs.1.0 qs.1.0) (fsep (flft κs.1.1.0 qs.1.1.0) ftrue)) in
    let So : Type 0 = m.cell ≡ n.cell → m.value ≡ n.value in
    qed 𝓛 ((‵ tokens ⊛ ‵ (owns (types_at E.signature.params κs) a y.0.4)) ∷ raw ((c κs a).requires g) ∷ []) ∵
    keep ! (0 ∷ []) $ split ! $ move ! (1 ∷ []) $ fsplit ! $ fsplit ! $ move ! (2 ∷ []) $ fsplit ! $ fsplit ! $
    -- [.. ; what `&other` has; ..; ..; what `&self` has; the tokens]
    keep ! (1 ∷ 4 ∷ 5 ∷ []) $
    use1 𝓛 (‵ (hidden_shr (Marker R) κs.1.0 (record {}, tt) a.1.0.ref_ptr.0 a.1.0.ref_ptr.1) ⊛ ‵ (fhide (noted R n.cell (Some n.value))))
    (lent_out 𝓛 (mark.struct R) (mark.the_codes T.Denot R.coded (marker.the_row R).coded) (mark.the_heap R) (mark.the_lent R) κs.1.0 n a.1.0.ref_ptr.0 a.1.0.ref_ptr.1) $
    split ! $ drop ! $ unhide ! $ move ! (1 ∷ []) $
    use1 𝓛 (‵ (hidden_shr (Marker R) κs.0 (record {}, tt) a.0.ref_ptr.0 a.0.ref_ptr.1) ⊛ ‵ (fhide (noted R m.cell (Some m.value))))
    (lent_out 𝓛 (mark.struct R) (mark.the_codes T.Denot R.coded (marker.the_row R).coded) (mark.the_heap R) (mark.the_lent R) κs.0 m a.0.ref_ptr.0 a.0.ref_ptr.1) $
    split ! $ drop ! $ unhide ! $
    -- [what the mark knows; what the other knows; the tokens]
    use2 𝓛 (raw (fact 𝓤 So)) (known_alike 𝓛 R m.cell n.cell m.value n.value) $ heard ! So (λ so.
    enter ! 𝓣.C 𝓣.Λ fn (v₀ ∷ v₁ ∷ []) Post $ alloc_all ! (λ l. pass_all ! refl ((tt, tt), ((tt, tt), tt)) $
    sets ! (of_opd ! (unit_lit !)) refl (tt, tt) $ feq_i ! (List Val) (vunit ∷ []) (vunit ∷ []) refl $
    nothing ! $ nothing ! $ fjoin ! $ nothing ! $ fjoin ! $ use0 𝓛 (raw (fact 𝓤 So)) (fact_i 𝓤 So (emp 𝓤) so) $
    returns ! (look_at ! 0 refl) $ free_all ! refl $ keep ! (3 ∷ 1 ∷ 2 ∷ 0 ∷ []) $
    by ! (leaves 𝓛 E hs c y vunit tt (tt, (tt, tt)) (tt, (tt, tt))))))
