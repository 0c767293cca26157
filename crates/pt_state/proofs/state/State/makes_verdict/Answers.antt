use Rattle.std.proofs.Common.{◌≡◌, ℕ, ◌<◌, ◌≤◌, nat_le, Bool, true, false, cond, Option, Some}
use Rattle.std.proofs.Common.{None, is_some, option_map, refl, sym, ap, ◌∙◌, arith}
use Rattle.std.proofs.lemmas.Bool.Decides.{nat_tests}
use Rattle.pt_types.specs.declared.outcome.Outcome.{Outcome}
use Rattle.pt_types.specs.declared.outcome.Outcome.TheVariants.{Done, Einval, Ebusy, Eagain}
use Rattle.pt_types.specs.declared.outcome.Verdict.{Verdict}
use Rattle.pt_types.specs.declared.outcome.Verdict.TheVariants.{Reply}
use Rattle.pt_types.specs.Limits.{max_objects}
use Rattle.pt_types.specs.ObjectTable.{is_invalid_kind}
use Rattle.pt_model.specs.Objects.{object_named, object_count}
use Rattle.pt_model.specs.Records.{Object}
use Rattle.pt_state.specs.Adds.{history_of}
use Rattle.pt_state.proofs.state.State.makes_verdict.Goals as goal

-- what an init is answered by the three tests
abbrev tested : Bool → Bool → Bool → Verdict
tested bad taken full =
    cond bad (Reply Einval) (cond taken (Reply Ebusy) (cond full (Reply Eagain) (Reply Done)))

good : (bad : Bool) (x : Outcome) → Reply x ≡ cond bad (Reply Einval) (Reply Done) → x ≡ Done
    → bad ≡ false
good true x e is = absurd cc
good false x e is = refl

named_some : (found : Option ℕ) (o : Option Object)
    → found ≡ option_map (λ (x : Object). x.number) o → is_some o ≡ is_some found
named_some found None e = ap is_some (sym e)
named_some found (Some x) e = ap is_some (sym e)

busy : (bad taken full : Bool) → bad ≡ false → taken ≡ true
    → Reply Ebusy ≡ tested bad taken full
busy bad taken full eb et = rw (eb, et) refl

many : (bad taken full : Bool) → bad ≡ false → taken ≡ false → full ≡ true
    → Reply Eagain ≡ tested bad taken full
many bad taken full eb et ef = rw (eb, et, ef) refl

done : (bad taken full : Bool) (x : Outcome) → bad ≡ false → taken ≡ false → full ≡ false
    → x ≡ Done → Reply x ≡ tested bad taken full
done bad taken full x eb et ef ex = rw (eb, et, ef, ex) refl

filled : (rows all n : ℕ) → n ≡ rows → rows ≡ all → max_objects ≤ n
    → nat_le max_objects all ≡ true
filled rows all n en er le = grind (arith, nat_tests)

spare : (rows all n : ℕ) → n ≡ rows → rows ≡ all → n < max_objects
    → nat_le max_objects all ≡ false
spare rows all n en er lt = grind (arith, nat_tests)

pub returns-in-Reply-Done : goal.returns-in-Reply-Done
returns-in-Reply-Done g c =
    let h = history_of c.args.self.now in
    let o = object_named h c.args.n.now in
    busy (is_invalid_kind c.args.kind) (is_some o) (nat_le max_objects (object_count h))
    (good (is_invalid_kind c.args.kind) c.in-Reply-Done.field-0 c.in-Reply-Done.ensures
    c.in-Reply-Done.field-0-is)
    (named_some c.find.result o (c.find.ensures ∙ c.requires.object_rows.names c.args.n.now)
    ∙ sym c.if-in_use.ensures)

pub returns-in-Reply-Done-2 : goal.returns-in-Reply-Done-2
returns-in-Reply-Done-2 g c =
    let h = history_of c.args.self.now in
    let o = object_named h c.args.n.now in
    many (is_invalid_kind c.args.kind) (is_some o) (nat_le max_objects (object_count h))
    (good (is_invalid_kind c.args.kind) c.in-Reply-Done.field-0 c.in-Reply-Done.ensures
    c.in-Reply-Done.field-0-is)
    (named_some c.find.result o (c.find.ensures ∙ c.requires.object_rows.names c.args.n.now)
    ∙ sym c.if-in_use.ensures)
    (filled _ _ c.len.result c.len.ensures.len c.requires.object_rows.many
    c.if-len-ge-MAX_OBJECTS.true)

pub returns-in_default : goal.returns-in_default
returns-in_default g c =
    let h = history_of c.args.self.now in
    let o = object_named h c.args.n.now in
    done (is_invalid_kind c.args.kind) (is_some o) (nat_le max_objects (object_count h))
    c.in-Reply-Done.field-0
    (good (is_invalid_kind c.args.kind) c.in-Reply-Done.field-0 c.in-Reply-Done.ensures
    c.in-Reply-Done.field-0-is)
    (named_some c.find.result o (c.find.ensures ∙ c.requires.object_rows.names c.args.n.now)
    ∙ sym c.if-in_use.ensures)
    (spare _ _ c.len.result c.len.ensures.len c.requires.object_rows.many
    c.if-len-ge-MAX_OBJECTS.false)
    c.in-Reply-Done.field-0-is
