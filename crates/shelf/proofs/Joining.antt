-- Voided entries, which contribute the unit, may be left out of a join.
use Rattle.std.proofs.Common.{◌≡◌, ℕ, ◌+◌, ◌≤◌, List, [], ◌∷◌, length, fold, filter, refl, ⊎_elim, arith}
use Rattle.std.proofs.lemmas.Bool.{cases_Bool}
use Rattle.avl.specs.Summary.{SummaryModel, Lawful}
use Rattle.machines.specs.declared.operation.Operation.{Operation}
use Rattle.slots.specs.Slots.{Entry}
use Rattle.slots.specs.Chain.{standing, own}

module _ {S : Type 0} (model : SummaryModel S) (law : Lawful model) (summed : Operation → S) (light : (operation : Operation) → model.weight (summed operation) ≤ 1) (es : ℕ → Entry) where
  pub standing_joined : (xs : List ℕ) (s : S) → model.weight s + length xs ≤ 4096 → fold (λ s i. model.join s (own model summed es i)) s xs ≡ fold (λ s i. model.join s (summed (es i).operation)) s (filter (standing es) xs)
  standing_joined [] s few = refl
  standing_joined (x ∷ xs) s few =
      let one = light (es x).operation in
      let lighter = law.lighter s (summed (es x).operation) (omega arith) in
      ⊎_elim
      (λ stands. rw stands (standing_joined xs (model.join s (summed (es x).operation)) (omega arith)))
      (λ voided. rw (voided, law.right s (omega arith)) (standing_joined xs s (omega arith)))
      (cases_Bool (es x).standing)
