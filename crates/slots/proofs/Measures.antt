-- The figures of a tree are small, and go only by its own entries.
use Rattle.std.proofs.Common.{◌≡◌, ℕ, ◌+◌, ◌<◌, ◌≤◌, Bool, true, false, cond, ◌∷◌, refl, inl, inr, arith}
use Rattle.avl.specs.Book.{In}
use Rattle.avl.specs.Tree.{Tree, leaf, node, inorder, levels, size}
use Rattle.avl.specs.Standing.{own_count, tree_count}
use Rattle.avl.specs.Summary.{SummaryModel, Lawful, tree_join}
use Rattle.machines.specs.declared.operation.Operation.{Operation}
use Rattle.slots.specs.Slots.{Entry, count_over}
use Rattle.slots.specs.Chain.{own}
use Rattle.slots.proofs.Lists.{in_left, in_right}

pub levels_small : (t : Tree) → levels t ≤ size t
levels_small leaf = omega arith
levels_small (node a i b) = let left = levels_small a in let right = levels_small b in omega arith

own_small : (standing : ℕ → Bool) (i : ℕ) → own_count standing i ≤ 1
own_small standing i = grind arith

-- small counts add without reaching the end of sixteen bits
pub count_fits : (left : ℕ) (standing : Bool) (right : ℕ) → left < 1024 → right < 1024 → count_over left standing right ≡ left + cond standing 1 0 + right
count_fits left true right on_left on_right = omega arith
count_fits left false right on_left on_right = omega arith

pub count_small : (standing : ℕ → Bool) (t : Tree) → tree_count standing t ≤ size t
count_small standing leaf = omega arith
count_small standing (node a i b) =
    let left = count_small standing a in
    let right = count_small standing b in
    omega (arith, own_small standing i)

pub count_local : (p q : ℕ → Bool) (t : Tree) → ((k : ℕ) → In k (inorder t) → p k ≡ q k) → tree_count p t ≡ tree_count q t
count_local p q leaf h = refl
count_local p q (node a i b) h =
    let left = count_local p q a (λ k w. h k (in_left k (inorder a) (i ∷ inorder b) w)) in
    let right = count_local p q b (λ k w. h k (in_right k (inorder a) (i ∷ inorder b) (inr w))) in
    let here = h i (in_right i (inorder a) (i ∷ inorder b) (inl refl)) in
    rw (left, right, here)

module _ {S : Type 0} (model : SummaryModel S) where
  pub join_local : (f g : ℕ → S) (t : Tree) → ((k : ℕ) → In k (inorder t) → f k ≡ g k) → tree_join model f t ≡ tree_join model g t
  join_local f g leaf h = refl
  join_local f g (node a i b) h =
      let left = join_local f g a (λ k w. h k (in_left k (inorder a) (i ∷ inorder b) w)) in
      let right = join_local f g b (λ k w. h k (in_right k (inorder a) (i ∷ inorder b) (inr w))) in
      let here = h i (in_right i (inorder a) (i ∷ inorder b) (inl refl)) in
      cc

  -- of entries of weight at most 1, a tree weighs no more than it has nodes
  pub tree_light : Lawful model → (f : ℕ → S) → ((k : ℕ) → model.weight (f k) ≤ 1) → (t : Tree) → size t ≤ 1024 → model.weight (tree_join model f t) ≤ size t
  tree_light law f light leaf few = let none = law.weightless in omega arith
  tree_light law f light (node a i b) few =
      let left = tree_light law f light a (omega arith) in
      let right = tree_light law f light b (omega arith) in
      let here = light i in
      let front = law.lighter (tree_join model f a) (f i) (omega arith) in
      let all = law.lighter (model.join (tree_join model f a) (f i)) (tree_join model f b) (omega arith) in
      omega arith

  pub own_light : Lawful model → (summed : Operation → S) → ((operation : Operation) → model.weight (summed operation) ≤ 1) → (es : ℕ → Entry) (k : ℕ) → model.weight (own model summed es k) ≤ 1
  own_light law summed light es k = let none = law.weightless in let some = light (es k).operation in grind arith
