-- The note is given what the mark knows of the same cell.
use Rattle.std.proofs.Common.{◌≡◌, ℕ, [], ◌∷◌, refl, sym}
use mir.Syntax.{a_type, named}
use mir.Val.{Val, vptr}
use mir.MapTy.{inst_fn}
use base.Logic.{SProp, emp}
use base.Fml.{Fml, ftrue, fsep, flft, fhide}
use types.Kit.{‵, raw, ◌⊛◌, ◌$◌, ◌∵◌, !, qed, by, move, keep, drop, split, fsplit, fjoin, use0, use1, rewrite}
use types.Run.{of_opd, returns, enter}
use types.ByLocal.{alloc_all, pass_all, free_all, look_at, get, sets}
use contract.Monad.{fact, fact_i}
use contract.Running.{tables}
use denote.Exit.{yes, no}
use denote.RattleType.{RattleType, owns}
use denote.Signature.{types_at, plain}
use denote.Builtin.{RefOf}
use denote.Ref.{shr_vals, shr_Tells}
use denote.Memory.{hidden_shr}
use denote.Opens.{unhide}
use denote.RawPtr.{RawPtr}
use denote.Steps.{nothing, heard}
use denote.Param.{param, layouts}
use denote.Struct.Lending.{lent_out}
use denote.Triple.Walked.{Stays, stay_dropped, walk_of, Goes-dropped}
use Rattle.std.specs.contracts.marker.PhantomData as marker
use Rattle.std.specs.declared.option.Option.TheVariants.{Some}
use Rattle.std.proofs.raw_atomic.Walks.{proved, leaves}
use Rattle.once_cell.specs.Once.{noted}
use Rattle.once_cell.specs.contracts.race.note.Note as note
use Rattle.pt_cells.proofs.Known.{Marker, marker_told, nothing_in}
use Rattle.pt_cells.specs.contracts.mark.Mark as mark
use Rattle.pt_cells.specs.contracts.mark.Mark.remind.{ended, clauses}
use Rattle.pt_cells.specs.contracts.mark.Mark.remind.Key.{name as #self}
use Rattle.pt_cells.proofs.mark.Mark.remind.Statement.{statement}
use Rattle.pt_cells.proofs.mark.Mark.remind.Code as code

pub remind_spec : {M : Type 1} → statement M
remind_spec 𝓤 𝓛 𝓜 𝓡 wired T L =
    let 𝓣 = tables 𝓤 𝓛.H 𝓜 𝓡 𝓡.env in
    let R : RattleType = param 0 T in
    let Mark : RattleType = mark.the_row R in
    let Note : RattleType = note.the_row R in
    let E = ended T in
    let c = clauses T 𝓛 𝓜.mem 𝓡.returns in
    let inst = layouts (a_type ∷ []) (T, tt) in
    let fn = inst_fn inst code.function in
    let one = RefOf (0 ∷ []) tt (plain (λ _. Mark)) (λ _. tt) in
    let other = plain (λ _. Note) in
    let hs : Stays E.signature.params E.kept =
    (stay_dropped one yes, (stay_dropped other no, tt)) in
    proved 𝓛 E hs c 𝓜 𝓡
    (Goes-dropped 𝓛 2 one yes (λ κs x f. refl), (Goes-dropped 𝓛 2 other no (λ κs x f. refl), tt))
    (#self inst) fn (code.unfolded 𝓤 𝓛.H 𝓜 𝓡 wired (T, tt))
    (λ κs. (shr_vals, ((λ x. nothing_in ∷ []), tt)))
    (λ κs. (shr_Tells (named 0) κs.0 Mark, ((λ x vs is. marker_told RawPtr vs is.0), tt)))
    (λ κs qs bounds a g are.
    let m = a.0.now in let n = a.1.0 in let r = record n { known = Some m.value } in
    let v₀ = vptr a.0.ref_ptr.0 a.0.ref_ptr.1 in
    let y : (walk_of 𝓛 E hs c).Ghost = ((κs, qs, bounds, a, (v₀ ∷ [], (nothing_in ∷ [], tt))), g) in
    let Post : Val → SProp 𝓤 = (walk_of 𝓛 E hs c).post y in
    let tokens : Fml = fsep (flft κs.0 qs.0) (fsep (flft κs.1.0 qs.1.0) ftrue) in
    let So : Type 0 = (r.cell ≡ n.cell) × (r.known ≡ Some m.value) in
    qed 𝓛 ((‵ tokens ⊛ ‵ (owns (types_at E.signature.params κs) a y.0.4)) ∷ raw (fact 𝓤 _) ∷ raw (fact 𝓤 (n.cell ≡ m.cell)) ∷ []) ∵
    move ! (2 ∷ []) $ heard ! (n.cell ≡ m.cell) (λ same.
    split ! $ move ! (1 ∷ []) $ fsplit ! $ fsplit ! $ move ! (2 ∷ []) $ fsplit ! $ fsplit ! $
    -- [the note's bytes; what it knows; ..; ..; what `&self` has; the tokens]
    keep ! (4 ∷ 0 ∷ 5 ∷ []) $
    use1 𝓛 (‵ (hidden_shr (Marker R) κs.0 (record {}, tt) a.0.ref_ptr.0 a.0.ref_ptr.1) ⊛ ‵ (fhide (noted R m.cell (Some m.value))))
    (lent_out 𝓛 (mark.struct R) (mark.the_codes T.Denot R.coded (marker.the_row R).coded) (mark.the_heap R) (mark.the_lent R) κs.0 m a.0.ref_ptr.0 a.0.ref_ptr.1) $
    split ! $ drop ! $ unhide ! $ rewrite ! 0 (λ (γ : ℕ). ‵ (noted R γ (Some m.value))) (sym same) refl $
    -- [what the mark knows; the note's bytes; the tokens]
    move ! (1 ∷ 0 ∷ []) $ fjoin ! $
    enter ! 𝓣.C 𝓣.Λ fn (v₀ ∷ nothing_in ∷ []) Post $ alloc_all ! (λ l. pass_all ! refl ((tt, tt), ((tt, (tt, tt)), tt)) $
    sets ! (of_opd ! (get ! refl)) refl (tt, (tt, tt)) $
    nothing ! $ nothing ! $ fjoin ! $ nothing ! $ fjoin ! $ use0 𝓛 (raw (fact 𝓤 So)) (fact_i 𝓤 So (emp 𝓤) (refl, refl)) $
    returns ! (look_at ! 0 refl) $ free_all ! refl $ keep ! (3 ∷ 1 ∷ 2 ∷ 0 ∷ []) $
    by ! (leaves 𝓛 E hs c y nothing_in r (tt, (tt, tt)) (tt, (tt, tt))))))
