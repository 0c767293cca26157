use Rattle.pt_server_tests.proofs.hub.seen.are_shared.Given as goal

abbrev pub ghosts-are_shared_in : goal.ghosts-are_shared_in
ghosts-are_shared_in g a = record { name = a.blank.name; parts = a.blank.parts }
