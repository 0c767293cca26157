-- Laws: one thing is found of a trace.
use Rattle.std.specs.Prelude.{◌≡◌, List}
use Rattle.pt_engine.specs.Scripts.{empty_script}
use Rattle.pt_traces.specs.Blocks.{SeenBlock}
use Rattle.pt_check.specs.declared.found.Found.{Found}
use Rattle.pt_check.specs.Agreements.{Finds}

-- One finding: a trace's blocks either agree with the rules or have one first difference, and not
-- both.
abbrev pub OneFinding : Type 0
OneFinding =
    (blocks : List SeenBlock) (one other : Found) → Finds one empty_script blocks
    → Finds other empty_script blocks → one ≡ other
