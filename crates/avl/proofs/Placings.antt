-- An insertion puts the new slot where `placed` does.
use Rattle.std.proofs.Common.{◌≡◌, ℕ, Bool, true, false, List, [], ◌∷◌, ◌++◌, refl, arith}
use Rattle.std.specs.List.{AllByRecursion}
use Rattle.avl.specs.Claims.{InsertPlaces}
use Rattle.avl.specs.Placing.{placed, Onward}
use Rattle.avl.specs.Tree.{leaf, node, inorder, insert_by}
use Rattle.avl.proofs.Rotations.{balance_keeps}

-- what holds of each of two lists joined
module _ {X : Type 0} (P : X → Type 0) where
  pub all_left : (xs ys : List X) → AllByRecursion P (xs ++ ys) → AllByRecursion P xs
  all_left [] ys h = tt
  all_left (x ∷ xs) ys h = (h.0, all_left xs ys h.1)

  pub all_right : (xs ys : List X) → AllByRecursion P (xs ++ ys) → AllByRecursion P ys
  all_right [] ys h = h
  all_right (x ∷ xs) ys h = all_right xs ys h.1

module _ (before : ℕ → Bool) where
  pub onward_left : (xs ys : List ℕ) → Onward before (xs ++ ys) → Onward before xs
  onward_left [] ys h = tt
  onward_left (x ∷ xs) ys h = (λ e. all_left (λ j. before j ≡ true) xs ys (h.0 e), onward_left xs ys h.1)

  pub onward_right : (xs ys : List ℕ) → Onward before (xs ++ ys) → Onward before ys
  onward_right [] ys h = h
  onward_right (x ∷ xs) ys h = onward_right xs ys h.1

  -- the test fails at a slot, so it fails at every earlier one
  pub quiet_before : (xs : List ℕ) (i : ℕ) (ys : List ℕ) → Onward before (xs ++ i ∷ ys) → before i ≡ false → AllByRecursion (λ j. before j ≡ false) xs
  quiet_before [] i ys h e = tt
  quiet_before (x ∷ xs) i ys h e =
      let later : before x ≡ true → before i ≡ true = λ t. (all_right (λ j. before j ≡ true) xs (i ∷ ys) (h.0 t)).0 in
      (grind arith, quiet_before xs i ys h.1 e)

  module _ (n : ℕ) where
    placed_left : (xs : List ℕ) (i : ℕ) (ys : List ℕ) → before i ≡ true → placed before n (xs ++ i ∷ ys) ≡ placed before n xs ++ i ∷ ys
    placed_left [] i ys e = grind arith
    placed_left (x ∷ xs) i ys e = let rest = placed_left xs i ys e in grind arith

    placed_right : (xs ys : List ℕ) → AllByRecursion (λ j. before j ≡ false) xs → placed before n (xs ++ ys) ≡ xs ++ placed before n ys
    placed_right [] ys h = refl
    placed_right (x ∷ xs) ys h = let rest = placed_right xs ys h.1 in grind arith

pub insert_places : InsertPlaces
unfolding insert_by
insert_places before n leaf h = refl
insert_places before n (node a i b) h =
    let left = insert_places before n a (onward_left before (inorder a) (i ∷ inorder b) h) in
    let right = insert_places before n b (onward_right before (inorder a) (i ∷ inorder b) h).1 in
    grind (arith, balance_keeps, placed_left, placed_right, quiet_before)
