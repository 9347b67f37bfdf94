-- A machine whose places begin at a base: it hands the place p down as p - base.
use Rattle.std.specs.Prelude.{ℕ, ◌-◌, cond, ◌&&◌, None, nat_le}
use Rattle.machines.specs.Model.{MachineModel}
use Rattle.machines.specs.declared.operation.Operation.{Operation}
use Rattle.machines.specs.declared.operation.Question.{Question}

-- as they are handed down
abbrev pub lowered_operation : ℕ → Operation → Operation
lowered_operation base operation = record { code = operation.code; place = operation.place - base; amount = operation.amount }

abbrev pub lowered_question : ℕ → Question → Question
lowered_question base question = record { code = question.code; place = question.place - base; index = question.index }

abbrev pub inset : ℕ → MachineModel → MachineModel
inset base m = record {
  State = m.State;
  empty = m.empty;
  knows = λ operation. nat_le base operation.place && m.knows (lowered_operation base operation);
  answers = λ question. nat_le base question.place && m.answers (lowered_question base question);
  next = λ s operation. cond (nat_le base operation.place) (m.next s (lowered_operation base operation)) s;
  noted = λ s operation. cond (nat_le base operation.place) (m.noted s (lowered_operation base operation)) None;
  reads = λ s question. cond (nat_le base question.place) (m.reads s (lowered_question base question)) None;
}
