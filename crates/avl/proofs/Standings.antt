-- The standing slots of a tree, counted.
use Rattle.std.proofs.Common.{◌≡◌, ℕ, Bool, length, filter, refl, arith, length-append}
use Rattle.std.proofs.lemmas.List.Elements.{filter-append}
use Rattle.avl.specs.Standing.{tree_count}
use Rattle.avl.specs.Tree.{Tree, leaf, node, inorder}

pub count_is_length : (standing : ℕ → Bool) (t : Tree) → tree_count standing t ≡ length (filter standing (inorder t))
count_is_length standing leaf = refl
count_is_length standing (node a i b) =
    let left = count_is_length standing a in
    let right = count_is_length standing b in
    grind (arith, filter-append, length-append)
