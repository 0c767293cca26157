-- Results: what holds of a result that a callee gave.
use Rattle.std.proofs.Common.{◌≡◌, List, ℕ, Result, Ok, Err, OnOk, IfErr, None, false, sym, subst}
use Rattle.pt_traces.specs.Rows.{rows}
use Rattle.pt_traces.specs.Blocks.{first_wrong}
use Rattle.pt_check.specs.declared.fault.CheckFault.{CheckFault}
use Rattle.pt_check.specs.declared.fault.CheckFault.TheVariants.{Memory}
use Rattle.pt_check.specs.Agreements.{IsFaultOf}

pub on_any : {T E : Type 0} {P : Type 0} (r : Result T E) → P → OnOk r P
on_any (Ok x) p = p
on_any (Err e) p = tt

pub memory_why : {T : Type 0} (trace : List ℕ) (r : Result T CheckFault)
    → first_wrong false 1 (rows trace) ≡ None → IfErr r (λ fault. fault ≡ Memory)
    → IfErr r (IsFaultOf trace)
memory_why trace (Ok x) whole why = tt
memory_why trace (Err e) whole why = subst (IsFaultOf trace) (sym why) whole
