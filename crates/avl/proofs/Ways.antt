-- The test of book order finds the way to a slot.
use Rattle.std.proofs.Common.{◌≡◌, ℕ, true, false, ◌⊎◌, List, [], ◌∷◌, ◌++◌, arith}
use Rattle.std.proofs.lemmas.Bool.Decides.{nat_tests}
use Rattle.avl.specs.Book.{Order, Sorted, In, Before, comes_before}
use Rattle.avl.proofs.Orders.{in_all, not_itself}
use Rattle.avl.proofs.Placings.{all_right}

module _ {D : Type 0} (o : Order D) (date : ℕ → D) where
  pub test_holds : (i j : ℕ) → Before o.earlier date i j → comes_before o.earlier date i j ≡ true
  test_holds i j h = grind (arith, nat_tests, not_itself o, o.transitive)

  pub test_fails : (i j : ℕ) → Before o.earlier date j i → comes_before o.earlier date i j ≡ false
  test_fails i j h = grind (arith, nat_tests, not_itself o, o.transitive)

pub in_cut : (i : ℕ) (xs : List ℕ) (j : ℕ) (ys : List ℕ) → In i (xs ++ j ∷ ys) → (i ≡ j) ⊎ In i xs ⊎ In i ys
in_cut i [] j ys h = grind arith
in_cut i (x ∷ xs) j ys h = let rest = in_cut i xs j ys in grind arith

module _ (R : ℕ → ℕ → Type 0) where
  pub left_before : (i : ℕ) (xs : List ℕ) (j : ℕ) (ys : List ℕ) → Sorted R (xs ++ j ∷ ys) → In i xs → R i j
  left_before i [] j ys h none = absurd none
  left_before i (x ∷ xs) j ys h within =
      let here = (all_right (R x) xs (j ∷ ys) h.0).0 in
      let there = left_before i xs j ys h.1 in
      grind arith

  pub right_after : (i : ℕ) (xs : List ℕ) (j : ℕ) (ys : List ℕ) → Sorted R (xs ++ j ∷ ys) → In i ys → R j i
  right_after i [] j ys h = in_all R j i ys h.0
  right_after i (x ∷ xs) j ys h = right_after i xs j ys h.1
