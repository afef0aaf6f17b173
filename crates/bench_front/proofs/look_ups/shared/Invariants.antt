use Rattle.bench_front.proofs.look_ups.shared.Given as goal

-- the name of these routes
abbrev pub ghosts-share-N-RouteName : goal.ghosts-share-N-RouteName
ghosts-share-N-RouteName g a = record { home = a.routes.home; opening = a.routes.opening }

-- and that of the ledger of their changes
abbrev pub ghosts-share-N-Ledger : goal.ghosts-share-N-Ledger
ghosts-share-N-Ledger g a = record { name = a.blank.name; parts = a.blank.parts }
