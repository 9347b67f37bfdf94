-- The laws of a board, and what its step tells of the statuses before it.
use Rattle.std.specs.Prelude.{◌≡◌, true, List, ℤ, pos, Some, slice_index_or, slice_set}
use Rattle.std.proofs.lemmas.Bool.{cond-false}
use mathlib.Core.HLevel.{Σ_prop_path}
use Rattle.machines.specs.Model.{Lawful}
use Rattle.machines.specs.declared.operation.Operation.{Operation}
use Rattle.machines.specs.Model.{Note}
use Rattle.primitives.specs.Board.{board, board_bound, plain_board, is_set}
use Rattle.primitives.specs.Steps.{cond_idle, cond_moved, set_back}

-- states with the same numbers are the same
pub board_same : (a b : board.State) → a.0 ≡ b.0 → a ≡ b
board_same a b = Σ_prop_path board_bound.once

pub board_lawful : Lawful plain_board
board_lawful = record {
  unknown = λ s operation h. cond-false _ _ _ h;
  idle = λ s operation h. cond_idle (is_set operation) _ _ s h;
  unanswered = λ s question h. cond-false _ _ _ h;
}

pub board_back : (s l : List ℤ) (operation : Operation) (old : ℤ) → plain_board.next s operation ≡ l → plain_board.noted s operation ≡ Some old → slice_set l operation.place old ≡ s
board_back s l operation old led gave =
    let moved : is_set operation ≡ true = cond_moved _ _ _ gave in
    let told : ◌≡◌ {A = Note} (Some (slice_index_or s operation.place (pos 0))) (Some old) = rw moved at gave in
    set_back s l operation.place _ (pos 0) (rw moved at led) old (cc)
