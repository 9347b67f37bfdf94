-- The rules of a watch over a machine.
use Rattle.std.specs.Prelude.{◌≡◌, ◌+◌, ◌≤◌, Bool, true, false, ℤ, Some}
use Rattle.avl.specs.Summary.{SummaryModel}
use Rattle.machines.specs.Model.{MachineModel}
use Rattle.machines.specs.declared.operation.Operation.{Operation}
use Rattle.machines.specs.declared.operation.Question.{Question}

pub record WatchRules (machine : MachineModel) {S : Type 0} (summaries : SummaryModel S) (question : Question) (summed : Operation → S) (figure : S → ℤ) : Type 0 where
  -- the machine answers the question
  pub answered : machine.answers question ≡ true
  -- an operation weighs at most 1, and an unknown one gives the unit
  pub light : (operation : Operation) → summaries.weight (summed operation) ≤ 1
  pub unknown : (operation : Operation) → machine.knows operation ≡ false → summed operation ≡ summaries.unit
  -- whether a summary matches a state
  pub matches : S → machine.State → Bool
  -- the unit matches the empty state
  pub starts : matches summaries.unit machine.empty ≡ true
  -- where the weights add to at most 1,024, the join of a matching summary with that of an operation matches the next state
  pub follows : (s : S) (state : machine.State) (operation : Operation) → summaries.weight s + summaries.weight (summed operation) ≤ 1024 → matches s state ≡ true → matches (summaries.join s (summed operation)) (machine.next state operation) ≡ true
  -- the figure of a matching summary is the reading of the question
  pub tells : (s : S) (state : machine.State) → matches s state ≡ true → machine.reads state question ≡ Some (figure s)
