use Rattle.pt_serve.proofs.server.serve.Given as goal

abbrev pub ghosts-serve_ready : goal.ghosts-serve_ready
ghosts-serve_ready g a = record { name = a.blank.name; parts = a.blank.parts }
