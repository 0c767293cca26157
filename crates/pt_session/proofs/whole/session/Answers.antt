use Rattle.pt_session.proofs.whole.session.Goals as goal

pub returns-clause-closed : goal.returns-clause-closed
returns-clause-closed g c =
    (_, c.in_ok-open_session.ensures.ok, c.close_session.ensures)
