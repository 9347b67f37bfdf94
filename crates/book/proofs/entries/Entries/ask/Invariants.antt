-- At each turn the machine has taken the operations of the entries so far.
use Rattle.std.proofs.Common.{◌≡◌, take}
use Rattle.machines.specs.Runs.{run}
use Rattle.book.specs.Answers.{operations}
use Rattle.book.proofs.entries.Entries.ask.Given as goal

abbrev pub invariant-loop-entry : goal.invariant-loop-entry
invariant-loop-entry g l =
    let m = g.M.Machine in
    m.state l.machine ≡ run m.model (m.state l.initial.machine) (operations (take l.entry-index l.entries))
