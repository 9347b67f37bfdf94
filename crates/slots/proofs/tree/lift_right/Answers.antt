use Rattle.std.proofs.Common.{arith}
use Rattle.slots.proofs.Lifts.{lift_right_leaf, lift_right_in, lift_right_out}
use Rattle.slots.proofs.tree.lift_right.Goals as goal

pub returns-in_default-clause-makes : goal.returns-in_default-clause-makes
returns-in_default-clause-makes g c = lift_right_leaf _ _ _ _ _ _ _ _ c.in_default.ensures c.put.ensures.makes

pub returns-then-level_at-clause-makes : goal.returns-then-level_at-clause-makes
returns-then-level_at-clause-makes g c =
    lift_right_in _ _ _ _ _ _ _ _ _ _ c.in-Some.ensures.0 _ c.in-Some.ensures.1 c.turn_right-right.ensures.kept (omega arith) c.turn_right-right.ensures.makes c.turn_left.ensures.makes

pub returns-else-level_at-clause-makes : goal.returns-else-level_at-clause-makes
returns-else-level_at-clause-makes g c =
    lift_right_out _ _ _ _ _ _ _ _ c.in-Some.ensures.0 _ c.in-Some.ensures.1 (omega arith) c.turn_left-else-level_at.ensures.makes
