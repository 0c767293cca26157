use Rattle.pt_server_tests.proofs.session.sides.are_played.Given as goal

abbrev pub ghosts-play_in : goal.ghosts-play_in
ghosts-play_in g a = record { name = a.blank.name; parts = a.blank.parts }
