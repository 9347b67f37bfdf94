use Rattle.shelf.proofs.writing.+refresh.Given as goal

abbrev pub decreases-refresh : goal.decreases-refresh
decreases-refresh g l = l.depth
