use Rattle.pt_server_tests.proofs.hub.threads.two_clients.Given as goal

abbrev pub ghosts-two_clients_in : goal.ghosts-two_clients_in
ghosts-two_clients_in g a = record { name = a.blank.name; parts = a.blank.parts }
