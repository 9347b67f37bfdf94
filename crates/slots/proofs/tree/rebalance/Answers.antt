use Rattle.slots.proofs.Lifts.{balance_by}
use Rattle.avl.specs.declared.levels.Lean.TheVariants.{Even, Left, Right}
use Rattle.slots.proofs.tree.rebalance.Goals as goal

pub returns-in-Even-clause-makes : goal.returns-in-Even-clause-makes
returns-in-Even-clause-makes g c = balance_by _ _ _ _ _ _ _ _ Even (cc) c.put.ensures.makes

pub returns-in-Left-clause-makes : goal.returns-in-Left-clause-makes
returns-in-Left-clause-makes g c = balance_by _ _ _ _ _ _ _ _ Left (cc) c.lift_left.ensures.makes

pub returns-in-Right-clause-makes : goal.returns-in-Right-clause-makes
returns-in-Right-clause-makes g c = balance_by _ _ _ _ _ _ _ _ Right (cc) c.lift_right.ensures.makes
