use Rattle.shelf.proofs.reading.+count_ahead.Given as goal

abbrev pub decreases-count_ahead : goal.decreases-count_ahead
decreases-count_ahead g l = l.depth
