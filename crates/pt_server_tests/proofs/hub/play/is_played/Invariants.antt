use Rattle.pt_server_tests.proofs.hub.play.is_played.Given as goal

abbrev pub ghosts-is_played_in : goal.ghosts-is_played_in
ghosts-is_played_in a = record { name = a.blank.name; parts = a.blank.parts }
