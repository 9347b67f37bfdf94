use Rattle.slots.proofs.Turns.{turn_left_leaf, turn_left_node}
use Rattle.slots.proofs.tree.turn_left.Goals as goal

pub returns-in_default-clause-makes : goal.returns-in_default-clause-makes
returns-in_default-clause-makes g c = turn_left_leaf _ _ _ _ _ _ _ _ c.in_default.ensures c.put.ensures.makes

pub returns-clause-makes : goal.returns-clause-makes
returns-clause-makes g c =
    turn_left_node _ _ _ _ _ _ _ _ _ _ c.in-Some.ensures.0 _ c.in-Some.ensures.1 c.put-left.ensures.kept c.put-left.ensures.makes c.put-2.ensures.makes
