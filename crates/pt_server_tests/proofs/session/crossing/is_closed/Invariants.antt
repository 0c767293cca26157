use Rattle.pt_server_tests.proofs.session.crossing.is_closed.Given as goal

abbrev pub ghosts-is_closed_in : goal.ghosts-is_closed_in
ghosts-is_closed_in g a = record { name = a.blank.name; parts = a.blank.parts }
