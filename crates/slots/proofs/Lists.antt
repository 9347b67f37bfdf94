-- What stands in a list, and what stands there once.
use Rattle.std.proofs.Common.{◌≡◌, ℕ, ◌⊎◌, List, [], ◌∷◌, ◌++◌, sym, inl, inr, arith}
use Rattle.avl.specs.Book.{Order, Sorted, Before, In}
use Rattle.avl.proofs.Orders.{in_all, before_never}
use Rattle.avl.proofs.Placings.{all_left}
use Rattle.slots.specs.Chain.{Once}

pub in_left : (k : ℕ) (xs ys : List ℕ) → In k xs → In k (xs ++ ys)
in_left k [] ys h = absurd h
in_left k (x ∷ xs) ys h = let ih = in_left k xs ys in grind arith

pub in_right : (k : ℕ) (xs ys : List ℕ) → In k ys → In k (xs ++ ys)
in_right k [] ys h = h
in_right k (x ∷ xs) ys h = inr (in_right k xs ys h)

pub in_either : (k : ℕ) (xs ys : List ℕ) → In k (xs ++ ys) → In k xs ⊎ In k ys
in_either k [] ys h = inr h
in_either k (x ∷ xs) ys h = let ih = in_either k xs ys in grind arith

pub once_left : (xs ys : List ℕ) → Once (xs ++ ys) → Once xs
unfolding Once
once_left [] ys h = tt
once_left (x ∷ xs) ys h = (λ k. h.0 (in_left x xs ys k), once_left xs ys h.1)

pub once_right : (xs ys : List ℕ) → Once (xs ++ ys) → Once ys
unfolding Once
once_right [] ys h = h
once_right (x ∷ xs) ys h = once_right xs ys h.1

-- what stands in the one part does not stand in the other
pub once_apart : (k : ℕ) (xs ys : List ℕ) → Once (xs ++ ys) → In k xs → In k ys → ⊥
unfolding Once
once_apart k [] ys h p q = p
once_apart k (x ∷ xs) ys h p q =
    let ih = once_apart k xs ys h.1 in
    let here = in_right k xs ys q in
    let never = h.0 in
    grind arith

pub once_move : (n : ℕ) (xs ys : List ℕ) → Once (n ∷ (xs ++ ys)) → Once (xs ++ n ∷ ys)
unfolding Once
once_move n [] ys h = h
once_move n (x ∷ xs) ys h = (
  (λ w.
      let side = in_either x xs (n ∷ ys) w in
      let left : In x xs → ⊥ = λ k. h.1.0 (in_left x xs ys k) in
      let right : In x ys → ⊥ = λ k. h.1.0 (in_right x xs ys k) in
      let here : x ≡ n → ⊥ = λ e. h.0 (inl (sym e)) in
      grind arith),
  once_move n xs ys (λ w. h.0 (inr w), h.1.1),
)

-- a list that is sorted strictly has no number twice
pub sorted_once : {D : Type 0} (o : Order D) (date : ℕ → D) (xs : List ℕ) → Sorted (Before o.earlier date) xs → Once xs
unfolding Once
sorted_once o date [] h = tt
sorted_once o date (x ∷ xs) h = (λ w. before_never o date x (in_all (Before o.earlier date) x x xs h.0 w), sorted_once o date xs h.1)

module _ (R : ℕ → ℕ → Type 0) where
  pub sorted_left : (xs ys : List ℕ) → Sorted R (xs ++ ys) → Sorted R xs
  sorted_left [] ys h = tt
  sorted_left (x ∷ xs) ys h = (all_left (R x) xs ys h.0, sorted_left xs ys h.1)

  pub sorted_right : (xs ys : List ℕ) → Sorted R (xs ++ ys) → Sorted R ys
  sorted_right [] ys h = h
  sorted_right (x ∷ xs) ys h = sorted_right xs ys h.1
