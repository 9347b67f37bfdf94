-- A watch of the first machine of a pair keeps its rules as a watch of the pair.
use Rattle.std.specs.Prelude.{◌≡◌, ◌+◌, ◌≤◌, true, ℤ}
use Rattle.std.proofs.Common.{sym, ap, subst, ◌∙◌, arith}
use Rattle.std.proofs.lemmas.Bool.{cond_both, cond-true, or_left, or_parts}
use Rattle.avl.specs.Summary.{SummaryModel, Lawful}
use Rattle.machines.specs.Model.{MachineModel}
use Rattle.machines.specs.Pair.{pair}
use Rattle.machines.specs.declared.operation.Operation.{Operation}
use Rattle.machines.specs.declared.operation.Question.{Question}
use Rattle.watches.specs.Watch.{WatchRules}

module _ (first second : MachineModel) {S : Type 0} (summaries : SummaryModel S) (laws : Lawful summaries) (question : Question) (summary_of : Operation → S) (figure : S → ℤ) (rules : WatchRules first summaries question summary_of figure) where
  -- what the first does not know leaves both its state and the summary
  follows : (s : S) (state : first.State × second.State) (operation : Operation) → summaries.weight s + summaries.weight (summary_of operation) ≤ 1024 → rules.matches s state.0 ≡ true → rules.matches (summaries.join s (summary_of operation)) ((pair first second).next state operation).0 ≡ true
  follows s state operation light h =
      cond_both (first.knows operation) _ _ (λ (next : first.State × second.State). rules.matches (summaries.join s (summary_of operation)) next.0 ≡ true)
      (λ _. rules.follows s state.0 operation light h)
      (λ other. subst (λ joined. rules.matches joined state.0 ≡ true) (sym (ap (summaries.join s) (rules.unknown operation other) ∙ laws.right s (omega arith))) h)

  pub first_rules : WatchRules (pair first second) summaries question summary_of figure
  first_rules = record {
    answered = or_left _ _ rules.answered;
    light = rules.light;
    unknown = λ operation h. rules.unknown operation (or_parts (first.knows operation) (second.knows operation) h).0;
    matches = λ s state. rules.matches s state.0;
    starts = rules.starts;
    follows = follows;
    tells = λ s state h. cond-true _ _ _ rules.answered ∙ rules.tells s state.0 h;
  }
