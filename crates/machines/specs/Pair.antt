-- Two machines side by side: the first takes what it knows and answers, the second all else.
use Rattle.std.specs.Prelude.{cond, ◌||◌}
use Rattle.machines.specs.Model.{MachineModel}

abbrev pub pair : MachineModel → MachineModel → MachineModel
pair first second = record {
  State = first.State × second.State;
  empty = (first.empty, second.empty);
  knows = λ operation. first.knows operation || second.knows operation;
  answers = λ question. first.answers question || second.answers question;
  next = λ s operation. cond (first.knows operation) (first.next s.0 operation, s.1) (s.0, second.next s.1 operation);
  noted = λ s operation. cond (first.knows operation) (first.noted s.0 operation) (second.noted s.1 operation);
  reads = λ s question. cond (first.answers question) (first.reads s.0 question) (second.reads s.1 question);
}
