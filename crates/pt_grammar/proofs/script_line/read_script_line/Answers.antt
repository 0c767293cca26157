use Rattle.std.proofs.Common.{sym, subst, arith}
use Rattle.pt_grammar.specs.Script.{IsReadAs}
use Rattle.pt_grammar.proofs.ScriptLemmas.{is_read_short, is_read_long}
use Rattle.pt_grammar.proofs.script_line.read_script_line.Goals as goal

pub returns-then-text-gt-MAX_LINE_LENGTH-clause-read :
    goal.returns-then-text-gt-MAX_LINE_LENGTH-clause-read
returns-then-text-gt-MAX_LINE_LENGTH-clause-read c =
    subst (IsReadAs c.args.text.now) (sym c.long.ensures)
    (is_read_long c.args.text.now (omega arith))

pub returns-clause-read : goal.returns-clause-read
returns-clause-read c =
    subst (IsReadAs c.args.text.now) (sym c.read_short.ensures)
    (is_read_short c.args.text.now (omega arith))
