use Rattle.pt_records.proofs.Owning.{owned-less}
use Rattle.pt_records.proofs.WithoutOwned.{rows_without_owned-with}
use Rattle.pt_records.proofs.RowKinds.{client-found, no-client, no-head, chain-of}
use Rattle.pt_records.proofs.owned.disown.Goals as goal

pub returns-in-Some-owned-clause-owned : goal.returns-in-Some-owned-clause-owned
returns-in-Some-owned-clause-owned g c =
    rw (← c.m.view_is)
    (owned-less c.args.clients.now c.args.objects.now c.unlink-row.new.self c.c.inside.0 c.args.c
    c.m.inside.0 c.in-Some.row.now c.in-Some-owned.head c.unlink-row.result c.c.view_is
    c.in-Some.ensures.value c.in-Some-owned.is
    (record {
      chain = c.unlink-row.ensures.chain;
      others = c.unlink-row.ensures.others;
      linked = c.unlink-row.ensures.linked;
    }))

pub returns-in-Some-owned-clause-clients : goal.returns-in-Some-owned-clause-clients
returns-in-Some-owned-clause-clients g c =
    λ once.
    rows_without_owned-with c.args.clients.now c.c.inside.0 c.in-Some.row.now c.unlink-row.result
    once
    c.in-Some.ensures.value

pub unlink-row-requires : goal.unlink-row-requires
unlink-row-requires g c =
    chain-of c.args.objects.now c.in-Some.row.now.owned c.in-Some-owned.head c.m.inside.0 c.args.m
    c.in-Some-owned.is c.m.view_is
    (c.requires.chain c.in-Some.row.now
    (client-found c.args.clients.now c.c.inside.0 c.args.c c.c.view_is c.in-Some.row.now
    c.in-Some.ensures.value))

pub returns-in_default-owned-clause-owned : goal.returns-in_default-owned-clause-owned
returns-in_default-owned-clause-owned g c = λ v e.
    let chain = c.requires.chain v e in
    absurd (no-head c.args.clients.now c.c.inside.0 c.args.c c.c.view_is c.in-Some.row.now
    c.in-Some.ensures.value c.in_default-owned.is v e chain.0 chain.1.0)

pub returns-in_default-clause-owned : goal.returns-in_default-clause-owned
returns-in_default-clause-owned g c = λ v e.
    absurd (no-client c.args.clients.now c.c.inside.0 c.args.c c.c.view_is
    c.in_default.ensures.value v e)
