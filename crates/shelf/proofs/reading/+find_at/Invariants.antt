use Rattle.shelf.proofs.reading.+find_at.Given as goal

abbrev pub decreases-find_at : goal.decreases-find_at
decreases-find_at g l = l.depth
