use Rattle.std.proofs.Common.{◌≡◌, ◌==◌, Some, false, option_map, length, sym, ap, ◌∙◌, arith}
use Rattle.std.proofs.lemmas.Bool.Decides.{nat_tests}
use Rattle.pt_types.specs.declared.call.ObjectKind.TheVariants as kind
use Rattle.pt_model.specs.Answers.{at_barrier, open_calls}
use Rattle.pt_model.specs.Objects.{kind_of}
use Rattle.pt_records.specs.Objects.{kind_in_row}
use Rattle.pt_state.specs.Adds.{history_of}
use Rattle.pt_machine.proofs.ServiceLemmas.{full-service, part-service}
use Rattle.pt_machine.proofs.machine.Machine.barrier_service.Goals as goal

pub returns-then-full : goal.returns-then-full
returns-then-full g c =
    let s = c.args.self.now in
    let b = c.args.b in
    let n = c.args.barrier.now in
    let read = c.requires.tables in
    let kind : kind_of (history_of s) b ≡ Some (kind.Barrier n) =
    sym (read.object_rows.look.kinds b) ∙ ap (option_map kind_in_row) c.requires.stored in
    let all : length (at_barrier b (open_calls (history_of s))) ≡ n =
    grind (arith, nat_tests, c.if-full.true, c.is_full-full.ensures.full) in
    full-service (history_of s) read.follows b n kind (omega
    (arith, all, c.is_full-full.ensures.needs))
    (grind (arith, nat_tests, all))

pub returns-else-full : goal.returns-else-full
returns-else-full g c =
    let s = c.args.self.now in
    let b = c.args.b in
    let n = c.args.barrier.now in
    let read = c.requires.tables in
    let kind : kind_of (history_of s) b ≡ Some (kind.Barrier n) =
    sym (read.object_rows.look.kinds b) ∙ ap (option_map kind_in_row) c.requires.stored in
    let part : (length (at_barrier b (open_calls (history_of s))) == n) ≡ false =
    grind (arith, nat_tests, c.if-full.false, c.is_full-full.ensures.full) in
    part-service (history_of s) read.follows b n kind part
