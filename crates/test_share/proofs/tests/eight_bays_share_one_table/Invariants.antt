use Rattle.test_share.proofs.tests.eight_bays_share_one_table.Given as goal

-- the name of these routes
abbrev pub ghosts-share_and_ask-N-RouteName : goal.ghosts-share_and_ask-N-RouteName
ghosts-share_and_ask-N-RouteName g a = record { home = a.routes.home; opening = a.routes.opening }

-- and that of the ledger of their changes
abbrev pub ghosts-share_and_ask-N-Ledger : goal.ghosts-share_and_ask-N-Ledger
ghosts-share_and_ask-N-Ledger g a = record { name = a.blank.name; parts = a.blank.parts }
