-- A search tree of slot numbers, and the rebalancing of Adelson-Velsky and Landis.
use Rattle.std.specs.Prelude.{ℕ, ◌+◌, ◌≤◌, max, Bool, cond, List, [], ◌∷◌, ◌++◌, nat_lt}
use Rattle.avl.specs.Levels.{leaning}
use Rattle.avl.specs.declared.levels.Lean.{Lean}
use Rattle.avl.specs.declared.levels.Lean.TheVariants.{Even, Left, Right}

pub data Tree : Type 0 where
  leaf : Tree
  node : Tree → ℕ → Tree → Tree

-- the slots from left to right
abbrev pub inorder : Tree → List ℕ
inorder leaf = []
inorder (node a i b) = inorder a ++ i ∷ inorder b

abbrev pub size : Tree → ℕ
size leaf = 0
size (node a i b) = 1 + size a + size b

-- how many nodes stand on the longest way down
abbrev pub levels : Tree → ℕ
levels leaf = 0
levels (node a i b) = 1 + max (levels a) (levels b)

-- the sides of each node differ by at most one level
abbrev pub Balanced : Tree → Type 0
Balanced leaf = Unit {0}
Balanced (node a i b) = Balanced a × Balanced b × (levels a ≤ levels b + 1) × (levels b ≤ levels a + 1)

-- The two rotations: the right side's root comes up, or the left side's.
unfoldable pub turn_left : Tree → ℕ → Tree → Tree
turn_left a i leaf = node a i leaf
turn_left a i (node b j c) = node (node a i b) j c

unfoldable pub turn_right : Tree → ℕ → Tree → Tree
turn_right leaf i c = node leaf i c
turn_right (node a i b) j c = node a i (node b j c)

-- A node whose right side is too deep: where that side leans inwards, it is turned outwards first.
unfoldable pub lift_right : Tree → ℕ → Tree → Tree
lift_right a i leaf = node a i leaf
lift_right a i (node b j c) = turn_left a i (cond (nat_lt (levels c) (levels b)) (turn_right b j c) (node b j c))

unfoldable pub lift_left : Tree → ℕ → Tree → Tree
lift_left leaf i c = node leaf i c
lift_left (node a i b) j c = turn_right (cond (nat_lt (levels a) (levels b)) (turn_left a i b) (node a i b)) j c

-- the node of two sides that lean so
abbrev pub mended : Lean → Tree → ℕ → Tree → Tree
mended Even = node
mended Left = lift_left
mended Right = lift_right

-- a node of two sides whose levels may differ by two
unfoldable pub balance : Tree → ℕ → Tree → Tree
balance a i b = mended (leaning (levels a) (levels b)) a i b

-- Puts slot n in: to the left of each slot that it comes before, else to the right.
unfoldable pub insert_by : (ℕ → Bool) → ℕ → Tree → Tree
insert_by before n leaf = node leaf n leaf
insert_by before n (node a i b) =
    cond (before i) (balance (insert_by before n a) i b) (balance a i (insert_by before n b))
