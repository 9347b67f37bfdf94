use Rattle.std.proofs.Common.{◌≡◌, arith}
use Rattle.std.proofs.lemmas.Bool.Decides.{nat_tests}
use Rattle.avl.specs.declared.levels.Lean.TheVariants.{Even, Left, Right}
use Rattle.avl.specs.Levels.{leaning}
use Rattle.avl.proofs.Balances.{leaning_mends}
use Rattle.avl.proofs.Rotations.{mended_keeps}
use Rattle.avl.proofs.levels.Lean.of.Goals as goal

pub returns-then-saturating_sub-gt-LARGEST_DIFFERENCE : goal.returns-then-saturating_sub-gt-LARGEST_DIFFERENCE
returns-then-saturating_sub-gt-LARGEST_DIFFERENCE c =
    let leans : Right ≡ leaning c.args.left c.args.right = grind (arith, nat_tests) in
    record { is = leans; mends = leaning_mends _ _ _ leans; keeps = mended_keeps Right }

pub returns-then-saturating_sub-gt-LARGEST_DIFFERENCE-2 : goal.returns-then-saturating_sub-gt-LARGEST_DIFFERENCE-2
returns-then-saturating_sub-gt-LARGEST_DIFFERENCE-2 c =
    let leans : Left ≡ leaning c.args.left c.args.right = grind (arith, nat_tests) in
    record { is = leans; mends = leaning_mends _ _ _ leans; keeps = mended_keeps Left }

pub returns-else-saturating_sub-gt-LARGEST_DIFFERENCE-2 : goal.returns-else-saturating_sub-gt-LARGEST_DIFFERENCE-2
returns-else-saturating_sub-gt-LARGEST_DIFFERENCE-2 c =
    let leans : Even ≡ leaning c.args.left c.args.right = grind (arith, nat_tests) in
    record { is = leans; mends = leaning_mends _ _ _ leans; keeps = mended_keeps Even }
