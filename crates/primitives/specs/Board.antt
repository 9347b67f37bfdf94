-- 64 statuses, one for each path, all 0 at first: a set writes one of them and notes the old one.
use Rattle.std.specs.Prelude.{◌≡◌, Bool, cond, ◌&&◌, List, length, replicate, ℤ, pos, Some, None, ◌==◌, nat_lt, slice_index_or, slice_set, refl}
use Rattle.std.proofs.Common.{◌∙◌, length-set}
use Rattle.std.proofs.Math.Nat.{ℕ_set}
use Rattle.std.proofs.lemmas.Bool.{cond_both}
use Rattle.machines.specs.Model.{MachineModel}
use Rattle.machines.specs.declared.operation.Operation.{Operation}
use Rattle.machines.specs.declared.operation.Question.{Question}
use Rattle.primitives.specs.Bounded.{Bound, bounded}
use Rattle.primitives.specs.Numbers.{asks_number, number_asked}
use Rattle.primitives.specs.Ranges.{up_to}

abbrev pub is_set : Operation → Bool
is_set operation = operation.code == 4 && nat_lt operation.place 64 && up_to 7 operation.amount

abbrev pub asks_status : Question → Bool
asks_status = asks_number 4

-- over any list of statuses
abbrev pub plain_board : MachineModel
plain_board = record {
  State = List ℤ;
  empty = replicate 64 (pos 0);
  knows = is_set;
  answers = asks_status;
  next = λ s operation. cond (is_set operation) (slice_set s operation.place operation.amount) s;
  noted = λ s operation. cond (is_set operation) (Some (slice_index_or s operation.place (pos 0))) None;
  reads = number_asked 4;
}

pub board_bound : Bound plain_board (λ s. length s ≡ 64)
board_bound = record {
  once = λ s. ℕ_set _ _;
  starts = refl;
  keeps = λ s operation long. cond_both (is_set operation) _ s (λ l. length l ≡ 64) (λ _. length-set s _ _ ∙ long) (λ _. long);
}

abbrev pub board : MachineModel
board = bounded plain_board board_bound
