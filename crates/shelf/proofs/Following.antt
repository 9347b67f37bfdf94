-- The joined summaries of a run of operations match the state after it.
use Rattle.std.proofs.Common.{◌≡◌, ℕ, ◌+◌, ◌≤◌, true, List, [], ◌∷◌, length, ℤ, Some, fold, arith}
use Rattle.avl.specs.Summary.{SummaryModel, Lawful}
use Rattle.machines.specs.Model.{MachineModel}
use Rattle.machines.specs.Runs.{run}
use Rattle.machines.specs.declared.operation.Operation.{Operation}
use Rattle.machines.specs.declared.operation.Question.{Question}
use Rattle.slots.specs.Slots.{Entry}
use Rattle.watches.specs.Watch.{WatchRules}
use Rattle.shelf.specs.Reading.{operations, joined_summaries}

module _ (machine : MachineModel) {S : Type 0} (model : SummaryModel S) (law : Lawful model) (question : Question) (summed : Operation → S) (figure : S → ℤ) (rules : WatchRules machine model question summed figure) (es : ℕ → Entry) where
  follows : (xs : List ℕ) (s : S) (state : machine.State) → model.weight s + length xs ≤ 1024 → rules.matches s state ≡ true → rules.matches (fold (λ s i. model.join s (summed (es i).operation)) s xs) (run machine state (operations es xs)) ≡ true
  follows [] s state few h = h
  follows (x ∷ xs) s state few h =
      let one = rules.light (es x).operation in
      let lighter = law.lighter s (summed (es x).operation) (omega arith) in
      follows xs (model.join s (summed (es x).operation)) (machine.next state (es x).operation) (omega arith) (rules.follows s state (es x).operation (omega arith) h)

  pub figure_reads : (xs : List ℕ) → length xs ≤ 1024 → machine.reads (run machine machine.empty (operations es xs)) question ≡ Some (figure (joined_summaries model summed es xs))
  figure_reads xs few =
      let none = law.weightless in
      rules.tells (joined_summaries model summed es xs) (run machine machine.empty (operations es xs)) (follows xs model.unit machine.empty (omega arith) rules.starts)
