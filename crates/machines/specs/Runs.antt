-- Steps over a list of operations.
use Rattle.std.specs.Prelude.{List, fold}
use Rattle.machines.specs.Model.{MachineModel}
use Rattle.machines.specs.declared.operation.Operation.{Operation}

-- the state after the operations, one after the other
abbrev pub run : (m : MachineModel) → m.State → List Operation → m.State
run m s operations = fold m.next s operations
