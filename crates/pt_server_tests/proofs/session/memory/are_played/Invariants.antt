use Rattle.pt_server_tests.proofs.session.memory.are_played.Given as goal

abbrev pub ghosts-are_played_in : goal.ghosts-are_played_in
ghosts-are_played_in g a = record { name = a.blank.name; parts = a.blank.parts }
