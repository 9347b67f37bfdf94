-- A pair of lawful machines is lawful.
use Rattle.std.specs.Prelude.{◌≡◌, Bool, true, false, cond, ◌||◌, None}
use Rattle.std.proofs.Common.{ap}
use Rattle.machines.specs.Model.{MachineModel, Lawful}
use Rattle.machines.specs.Pair.{pair}
use Rattle.machines.specs.declared.operation.Operation.{Operation}

-- what comes of neither test
neither : {X : Type 0} (p q : Bool) (x y none : X) → (p ≡ false → x ≡ none) → (q ≡ false → y ≡ none) → (p || q) ≡ false → cond p x y ≡ none
neither true q x y none first second h = first h
neither false q x y none first second h = second h

module _ (f s : MachineModel) (first : Lawful f) (second : Lawful s) where
  stays : (known : Bool) (at : f.State × s.State) (operation : Operation) → cond known (f.noted at.0 operation) (s.noted at.1 operation) ≡ None → cond known (f.next at.0 operation, at.1) (at.0, s.next at.1 operation) ≡ at
  stays true at operation h = ap (λ x. (x, at.1)) (first.idle at.0 operation h)
  stays false at operation h = ap (λ y. (at.0, y)) (second.idle at.1 operation h)

  pub pair_lawful : Lawful (pair f s)
  pair_lawful = record {
    unknown = λ at operation. neither (f.knows operation) (s.knows operation) _ _ None (first.unknown at.0 operation) (second.unknown at.1 operation);
    idle = λ at operation. stays (f.knows operation) at operation;
    unanswered = λ at question. neither (f.answers question) (s.answers question) _ _ None (first.unanswered at.0 question) (second.unanswered at.1 question);
  }
