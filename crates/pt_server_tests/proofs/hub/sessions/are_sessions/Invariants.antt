use Rattle.pt_server_tests.proofs.hub.sessions.are_sessions.Given as goal

abbrev pub ghosts-are_sessions_in : goal.ghosts-are_sessions_in
ghosts-are_sessions_in a = record { name = a.blank.name; parts = a.blank.parts }
