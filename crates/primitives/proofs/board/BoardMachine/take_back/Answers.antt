-- That taking back restores the state before the step.
use Rattle.std.proofs.Common.{set, ap, ◌∙◌, w32, SFits, rules}
use Rattle.std.proofs.lemmas.Int.{to_z-of_z}
use Rattle.primitives.specs.Board.{plain_board, board_bound}
use Rattle.primitives.specs.Boards.{board_lawful, board_back}
use Rattle.primitives.specs.Steps.{idle_back, bounded_back}
use Rattle.primitives.proofs.board.BoardMachine.take_back.Goals as goal

pub returns-in_default : goal.returns-in_default
returns-in_default c = idle_back plain_board board_bound board_lawful _ c.args.operation.now _ c.in_default.is

pub returns-then-knows : goal.returns-then-knows
returns-then-knows c =
    let operation = c.args.operation.now in
    let l = c.args.self.now.statuses.items in
    let fits : SFits w32 c.in-Some.old = search rules in
    bounded_back plain_board board_bound _ _ operation _
    (λ s long led gave. ap (set l operation.place) (to_z-of_z w32 _ fits) ∙ board_back s l operation _ led (gave ∙ c.in-Some.is))
