use Rattle.shelf.proofs.writing.+insert.Given as goal

abbrev pub decreases-insert : goal.decreases-insert
decreases-insert g l = l.depth
