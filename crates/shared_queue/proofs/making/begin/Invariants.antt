use Rattle.shared_queue.proofs.making.begin.Given as goal

abbrev pub ghosts-set_allotments : goal.ghosts-set_allotments
ghosts-set_allotments a = record { allotments = a.allots.now.items }
