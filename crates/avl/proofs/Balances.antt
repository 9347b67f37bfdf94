-- Rebalancing and insertion keep the balance.
use Rattle.std.proofs.Common.{◌≡◌, ℕ, ◌+◌, ◌≤◌, max, ◌⊎◌, refl, arith}
use Rattle.std.proofs.lemmas.Bool.Decides.{nat_tests}
use Rattle.avl.specs.declared.levels.Lean.{Lean}
use Rattle.avl.specs.declared.levels.Lean.TheVariants.{Even, Left, Right}
use Rattle.avl.specs.Claims.{Mends, InsertBalances}
use Rattle.avl.specs.Levels.{leaning}
use Rattle.avl.specs.Tree.{Tree, leaf, node, levels, Balanced, turn_left, turn_right, lift_left, lift_right, mended, balance, insert_by}

-- What rebalancing gives of two sides. Sides that do not lean give the node of them, and others may lose a level.
record Made (a b t : Tree) : Type 0 where
  sound : Balanced t
  least : max (levels a) (levels b) ≤ levels t
  most : levels t ≤ 1 + max (levels a) (levels b)
  whole : (levels t ≡ 1 + max (levels a) (levels b)) ⊎ (levels a ≡ levels b + 2) ⊎ (levels b ≡ levels a + 2)

-- The right side is two levels deeper.
lift_right_mends : (a : Tree) (i : ℕ) (b : Tree) → Balanced a → Balanced b → levels b ≡ levels a + 2 → Made a b (lift_right a i b)
unfolding turn_left turn_right lift_right
lift_right_mends a i b ha hb e = grind (arith, nat_tests)

-- The left side is two levels deeper.
lift_left_mends : (a : Tree) (i : ℕ) (b : Tree) → Balanced a → Balanced b → levels a ≡ levels b + 2 → Made a b (lift_left a i b)
unfolding turn_right turn_left lift_left
lift_left_mends a i b ha hb e = grind (arith, nat_tests)

lean_mends : (lean : Lean) (a : Tree) (i : ℕ) (b : Tree) → lean ≡ leaning (levels a) (levels b) → Balanced a → Balanced b → levels a ≤ levels b + 2 → levels b ≤ levels a + 2 → Made a b (mended lean a i b)
lean_mends Even a i b e ha hb low high = grind (arith, nat_tests)
lean_mends Left a i b e ha hb low high = lift_left_mends a i b ha hb (grind (arith, nat_tests))
lean_mends Right a i b e ha hb low high = lift_right_mends a i b ha hb (grind (arith, nat_tests))

pub leaning_mends : (lean : Lean) (left right : ℕ) → lean ≡ leaning left right → Mends lean left right
leaning_mends lean left right e a i b ha hb on_left on_right low high =
    (lean_mends lean a i b (rw (on_left, on_right) e) ha hb (omega arith) (omega arith)).sound

balance_mends : (a : Tree) (i : ℕ) (b : Tree) → Balanced a → Balanced b → levels a ≤ levels b + 2 → levels b ≤ levels a + 2 → Made a b (balance a i b)
unfolding balance
balance_mends a i b = lean_mends (leaning (levels a) (levels b)) a i b refl

pub insert_balances : InsertBalances
unfolding insert_by
insert_balances before n leaf h = ((tt, tt, omega arith, omega arith), omega arith, omega arith)
insert_balances before n (node a i b) h =
    let left = insert_balances before n a h.0 in
    let right = insert_balances before n b h.1 in
    grind (arith, balance_mends)
