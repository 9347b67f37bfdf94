-- A voided slot stays in the tree, and is passed over where the standing ones are counted.
use Rattle.std.specs.Prelude.{ℕ, ◌+◌, Bool, cond}
use Rattle.avl.specs.Tree.{Tree, leaf, node}

module _ (standing : ℕ → Bool) where
  abbrev pub own_count : ℕ → ℕ
  own_count i = cond (standing i) 1 0

  abbrev pub tree_count : Tree → ℕ
  tree_count leaf = 0
  tree_count (node a i b) = tree_count a + own_count i + tree_count b
