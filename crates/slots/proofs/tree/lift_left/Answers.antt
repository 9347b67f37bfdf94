use Rattle.std.proofs.Common.{arith}
use Rattle.slots.proofs.Lifts.{lift_left_leaf, lift_left_in, lift_left_out}
use Rattle.slots.proofs.tree.lift_left.Goals as goal

pub returns-in_default-clause-makes : goal.returns-in_default-clause-makes
returns-in_default-clause-makes g c = lift_left_leaf _ _ _ _ _ _ _ _ c.in_default.ensures c.put.ensures.makes

pub returns-then-level_at-clause-makes : goal.returns-then-level_at-clause-makes
returns-then-level_at-clause-makes g c =
    lift_left_in _ _ _ _ _ _ _ _ _ _ c.in-Some.ensures.0 _ c.in-Some.ensures.1 c.turn_left-left.ensures.kept (omega arith) c.turn_left-left.ensures.makes c.turn_right.ensures.makes

pub returns-else-level_at-clause-makes : goal.returns-else-level_at-clause-makes
returns-else-level_at-clause-makes g c =
    lift_left_out _ _ _ _ _ _ _ _ c.in-Some.ensures.0 _ c.in-Some.ensures.1 (omega arith) c.turn_right-else-level_at.ensures.makes
