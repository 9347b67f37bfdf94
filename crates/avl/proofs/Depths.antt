-- A balanced tree of many levels has many nodes.
use Rattle.std.proofs.Common.{◌≡◌, ℕ, zero, suc, ◌+◌, ◌≤◌, length, refl, arith, length-append}
use Rattle.avl.specs.Claims.{DeepIsLarge, SmallIsShallow}
use Rattle.avl.specs.Levels.{most_levels}
use Rattle.avl.specs.Tree.{Tree, leaf, node, inorder, size, levels, Balanced}

pub size_is_length : (t : Tree) → size t ≡ length (inorder t)
size_is_length leaf = refl
size_is_length (node a i b) =
    simp length-append (omega (arith, size_is_length a, size_is_length b))

-- the fewest nodes of a balanced tree of n levels
abbrev fewest : ℕ → ℕ
fewest zero = 0
fewest (suc zero) = 1
fewest (suc (suc n)) = 1 + fewest (suc n) + fewest n

fewest_below : (n : ℕ) (t : Tree) → Balanced t → n ≤ levels t → fewest n ≤ size t
fewest_below zero t h deep = omega arith
fewest_below (suc zero) leaf h deep = omega arith
fewest_below (suc zero) (node a i b) h deep = omega arith
fewest_below (suc (suc n)) leaf h deep = omega arith
fewest_below (suc (suc n)) (node a i b) h deep =
    let deep_left = fewest_below (suc n) a h.0 in
    let left = fewest_below n a h.0 in
    let deep_right = fewest_below (suc n) b h.1 in
    let right = fewest_below n b h.1 in
    grind arith

pub deep_is_large : DeepIsLarge
deep_is_large = fewest_below 15

pub small_is_shallow : SmallIsShallow most_levels
small_is_shallow t h small = let large = deep_is_large t h in grind arith
