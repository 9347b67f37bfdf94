use Rattle.shelf.proofs.reading.+joined_ahead.Given as goal

abbrev pub decreases-joined_ahead : goal.decreases-joined_ahead
decreases-joined_ahead g l = l.depth
