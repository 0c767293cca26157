use Rattle.pt_server_tests.proofs.hub.growth.plays_over.Given as goal

abbrev pub ghosts-plays_in : goal.ghosts-plays_in
ghosts-plays_in a = record { name = a.blank.name; parts = a.blank.parts }
