-- The machine of the house book: a tally paired with a pair of queue and board.
use Rattle.machines.specs.Model.{MachineModel}
use Rattle.machines.specs.Pair.{pair}
use Rattle.primitives.specs.Board.{board}
use Rattle.primitives.specs.Queue.{queue}
use Rattle.primitives.specs.Tally.{tally}

abbrev pub house : MachineModel
house = pair tally (pair queue board)
