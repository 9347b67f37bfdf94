-- Where a test holds onward, what it does not hold of is the front.
use Rattle.std.proofs.Common.{◌≡◌, ℕ, Bool, true, false, List, [], ◌∷◌, ◌++◌, filter, refl, append-nil, arith}
use Rattle.std.specs.List.{AllByRecursion}
use Rattle.std.proofs.lemmas.List.Elements.{filter-append}
use Rattle.avl.specs.Placing.{placed, Onward, front}
use Rattle.avl.proofs.Placings.{onward_right, quiet_before}

module _ (before : ℕ → Bool) where
  none_in_front : (xs : List ℕ) → AllByRecursion (λ i. before i ≡ true) xs → front before xs ≡ []
  none_in_front [] h = refl
  none_in_front (x ∷ xs) h = rw (h.0, none_in_front xs h.1)

  all_in_front : (xs : List ℕ) → AllByRecursion (λ i. before i ≡ false) xs → front before xs ≡ xs
  all_in_front [] h = refl
  all_in_front (x ∷ xs) h = rw (h.0, all_in_front xs h.1)

  -- the front of a list that is cut at a slot
  pub front_left : (xs : List ℕ) (i : ℕ) (ys : List ℕ) → Onward before (xs ++ i ∷ ys) → before i ≡ true → front before (xs ++ i ∷ ys) ≡ front before xs
  front_left xs i ys h e =
      let behind = (onward_right before xs (i ∷ ys) h).0 e in
      rw (filter-append, e, none_in_front ys behind, append-nil)

  pub front_right : (xs : List ℕ) (i : ℕ) (ys : List ℕ) → Onward before (xs ++ i ∷ ys) → before i ≡ false → front before (xs ++ i ∷ ys) ≡ xs ++ i ∷ front before ys
  front_right xs i ys h e = rw (filter-append, e, all_in_front xs (quiet_before before xs i ys h e))

  -- a list is its front and the rest, and a new slot is placed between the two
  pub front_is_prefix : (xs : List ℕ) → Onward before xs → xs ≡ front before xs ++ filter before xs
  front_is_prefix [] h = refl
  front_is_prefix (x ∷ xs) h =
      let rest = front_is_prefix xs h.1 in
      let none : before x ≡ true → front before xs ≡ [] = λ t. none_in_front xs (h.0 t) in
      grind arith

  pub placed_behind : (n : ℕ) (xs : List ℕ) → Onward before xs → placed before n xs ≡ front before xs ++ n ∷ filter before xs
  placed_behind n [] h = refl
  placed_behind n (x ∷ xs) h =
      let rest = placed_behind n xs h.1 in
      let parts = front_is_prefix xs h.1 in
      let none : before x ≡ true → front before xs ≡ [] = λ t. none_in_front xs (h.0 t) in
      grind arith
