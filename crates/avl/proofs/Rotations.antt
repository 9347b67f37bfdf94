-- Rebalancing leaves the order of the slots.
use Rattle.std.proofs.Common.{refl, append_assoc, arith}
use Rattle.avl.specs.declared.levels.Lean.{Lean}
use Rattle.avl.specs.declared.levels.Lean.TheVariants.{Even, Left, Right}
use Rattle.avl.specs.Claims.{KeepsInorder}
use Rattle.avl.specs.Levels.{leaning}
use Rattle.avl.specs.Tree.{levels, turn_left, turn_right, lift_left, lift_right, mended, balance}

pub turn_left_keeps : KeepsInorder turn_left
unfolding turn_left
turn_left_keeps a i b = grind (arith, append_assoc)

pub turn_right_keeps : KeepsInorder turn_right
unfolding turn_right
turn_right_keeps a i b = grind (arith, append_assoc)

lift_right_keeps : KeepsInorder lift_right
unfolding lift_right
lift_right_keeps a i b = grind (arith, turn_left_keeps, turn_right_keeps)

lift_left_keeps : KeepsInorder lift_left
unfolding lift_left
lift_left_keeps a i b = grind (arith, turn_left_keeps, turn_right_keeps)

pub mended_keeps : (lean : Lean) → KeepsInorder (mended lean)
mended_keeps Even = λ a i b. refl
mended_keeps Left = lift_left_keeps
mended_keeps Right = lift_right_keeps

pub balance_keeps : KeepsInorder balance
unfolding balance
balance_keeps a i b = mended_keeps (leaning (levels a) (levels b)) a i b
