-- That the watch is the one of the cell.
use Rattle.watches.specs.CellLaws.{watch_back}
use Rattle.watches.proofs.cell.CellWatch.new.Goals as goal

pub returns-then-cell-lt-PLACES : goal.returns-then-cell-lt-PLACES
returns-then-cell-lt-PLACES c = watch_back _
