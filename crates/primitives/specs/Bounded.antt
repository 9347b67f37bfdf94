-- A machine whose states are the valid ones of another model.
use Rattle.machines.specs.Model.{MachineModel}
use Rattle.machines.specs.declared.operation.Operation.{Operation}

-- a state is valid in at most one way, the empty state is valid, and a step keeps a state valid
pub record Bound (m : MachineModel) (Valid : m.State → Type 0) : Type 0 where
  pub once : (s : m.State) → IsProp (Valid s)
  pub starts : Valid m.empty
  pub keeps : (s : m.State) (operation : Operation) → Valid s → Valid (m.next s operation)

-- a state is a pair: a state of m, and that it is valid
abbrev pub bounded : (m : MachineModel) {Valid : m.State → Type 0} → Bound m Valid → MachineModel
bounded m {Valid} bound = record {
  State = (s : m.State) × Valid s;
  empty = (m.empty, bound.starts);
  knows = m.knows;
  answers = m.answers;
  next = λ s operation. (m.next s.0 operation, bound.keeps s.0 operation s.1);
  noted = λ s operation. m.noted s.0 operation;
  reads = λ s question. m.reads s.0 question;
}
