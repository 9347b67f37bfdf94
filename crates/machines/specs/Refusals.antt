-- The number under which a machine refuses, who gives the refusal, and its words.
use Rattle.std.specs.Prelude.{ℕ, List, codes}
use Rattle.machines.specs.declared.fault.MachineFault.{MachineFault}
use Rattle.machines.specs.declared.fault.MachineFault.TheVariants.{UnknownOperation, UnansweredQuestion}

abbrev pub number : MachineFault → ℕ
number UnknownOperation = 2
number UnansweredQuestion = 6

abbrev pub giver : MachineFault → List ℕ
giver _ = codes "machine"

abbrev pub words : MachineFault → List ℕ
words UnknownOperation = codes "operation not known"
words UnansweredQuestion = codes "question not answered"
