use Rattle.std.proofs.Common.{Some, ap, ◌∙◌}
use Rattle.pt_table.specs.ObjectRows.{has_object}
use Rattle.pt_table.specs.Linked.{is_linked}
use Rattle.pt_records.proofs.Owning.{owned-more}
use Rattle.pt_records.proofs.WithoutOwned.{rows_without_owned-with}
use Rattle.pt_records.proofs.RowKinds.{client-found, no-client}
use Rattle.pt_records.proofs.owned.own.Goals as goal

pub returns-in-Some-clause-owned : goal.returns-in-Some-clause-owned
returns-in-Some-clause-owned g c =
    rw (← c.m.view_is)
    (owned-more c.args.clients.now c.args.objects.now c.link.new.self c.c.inside.0 c.args.c
    c.m.inside.0 c.in-Some.row.now (Some c.link.result) c.c.view_is c.in-Some.ensures.value
    (record {
      chain = c.link.ensures.chain;
      others = c.link.ensures.others;
      linked = c.link.ensures.linked;
    }))

pub returns-in-Some-clause-clients : goal.returns-in-Some-clause-clients
returns-in-Some-clause-clients g c =
    λ once.
    rows_without_owned-with c.args.clients.now c.c.inside.0 c.in-Some.row.now
    (Some c.link.result) once
    c.in-Some.ensures.value

pub link-requires-clause-chain : goal.link-requires-clause-chain
link-requires-clause-chain g c =
    c.requires.chain c.in-Some.row.now
    (client-found c.args.clients.now c.c.inside.0 c.args.c c.c.view_is c.in-Some.row.now
    c.in-Some.ensures.value)

pub link-requires-clause-row : goal.link-requires-clause-row
link-requires-clause-row g c = ap (has_object c.args.objects.now) c.m.view_is ∙ c.requires.exists

pub link-requires-clause-free : goal.link-requires-clause-free
link-requires-clause-free g c = ap (is_linked c.args.objects.now) c.m.view_is ∙ c.requires.free

pub returns-in_default-clause-owned : goal.returns-in_default-clause-owned
returns-in_default-clause-owned g c = λ v e.
    absurd (no-client c.args.clients.now c.c.inside.0 c.args.c c.c.view_is
    c.in_default.ensures.value v e)
