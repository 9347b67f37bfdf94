-- What a machine means, and the laws that each keeps.
use Rattle.std.specs.Prelude.{◌≡◌, Bool, false, cond, ℤ, None, Ok, Err, Option, Result}
use Rattle.machines.specs.declared.fault.MachineFault.{MachineFault}
use Rattle.machines.specs.declared.fault.MachineFault.TheVariants.{UnknownOperation, UnansweredQuestion}
use Rattle.machines.specs.declared.operation.Operation.{Operation}
use Rattle.machines.specs.declared.operation.Question.{Question}

-- what a step notes: none where it was idle, and the number of its move where it moved
abbrev pub Note : Type 0
Note = Option ℤ

pub record MachineModel : Type 1 where
  -- the states that the machine can be in
  pub State : Type 0
  pub empty : State
  pub knows : Operation → Bool
  pub answers : Question → Bool
  pub next : State → Operation → State
  pub noted : State → Operation → Note
  pub reads : State → Question → Option ℤ

pub record Lawful (m : MachineModel) : Type 0 where
  -- an unknown operation is idle, and an idle step leaves the state as it is
  pub unknown : (s : m.State) (operation : Operation) → m.knows operation ≡ false → m.noted s operation ≡ None
  pub idle : (s : m.State) (operation : Operation) → m.noted s operation ≡ None → m.next s operation ≡ s
  -- an unanswered question reads none
  pub unanswered : (s : m.State) (question : Question) → m.answers question ≡ false → m.reads s question ≡ None

-- after is the state before every step with the operation that led to now and gave the note
abbrev pub TakesBack : (m : MachineModel) → m.State → Operation → Note → m.State → Type 0
TakesBack m now operation note after = (s : m.State) → m.next s operation ≡ now → m.noted s operation ≡ note → after ≡ s

-- what asking for an operation or a question gives: a refusal where the machine does not have it
abbrev pub known : MachineModel → Operation → Result Unit MachineFault
known m operation = cond (m.knows operation) (Ok tt) (Err UnknownOperation)

abbrev pub answered : MachineModel → Question → Result Unit MachineFault
answered m question = cond (m.answers question) (Ok tt) (Err UnansweredQuestion)
