use Rattle.serve_command.proofs.prepared.Serve.run.Given as goal

-- the name of this run's routes
abbrev pub ghosts-run_shared-N-RouteName : goal.ghosts-run_shared-N-RouteName
ghosts-run_shared-N-RouteName g a = record { home = a.routes.home; opening = a.routes.opening }

-- and that of the ledger of their changes
abbrev pub ghosts-run_shared-N-Ledger : goal.ghosts-run_shared-N-Ledger
ghosts-run_shared-N-Ledger g a = record { name = a.blank.name; parts = a.blank.parts }
