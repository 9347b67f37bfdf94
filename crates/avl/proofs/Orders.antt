-- Book order: it stands, there is no other, where the next entry goes, and what is dated no later stands in front.
use Rattle.std.proofs.Common.{◌≡◌, ℕ, zero, suc, ◌<◌, Bool, true, false, ◌⊎◌, ◌↔◌, List, [], ◌∷◌, sym, refl, inl, inr, ⊎_elim, arith}
use Rattle.std.specs.List.{AllByRecursion}
use Rattle.std.proofs.lemmas.Bool.{cond_both}
use Rattle.avl.proofs.Lists.{weaker}
use Rattle.avl.specs.Claims.{OrderStands, OrderIsOne, OrderGrows, FrontIsPrefix}
use Rattle.avl.specs.Book.{Order, Sorted, In, Before, book_order, dated_after}
use Rattle.avl.specs.Placing.{placed, Onward}
use Rattle.avl.proofs.Fronts.{front_is_prefix, placed_behind}

-- What is placed in a list is the list and the new slot.
module _ (before : ℕ → Bool) (n : ℕ) where
  all_placed : (P : ℕ → Type 0) (xs : List ℕ) → P n → AllByRecursion P xs → AllByRecursion P (placed before n xs)
  all_placed P [] p h = (p, tt)
  all_placed P (x ∷ xs) p h = let rest = all_placed P xs p h.1 in grind arith

  in_placed : (i : ℕ) (xs : List ℕ) → In i (placed before n xs) → (i ≡ n) ⊎ In i xs
  in_placed i [] h = h
  in_placed i (x ∷ xs) h = let rest = in_placed i xs in grind arith

  placed_in : (i : ℕ) (xs : List ℕ) → (i ≡ n) ⊎ In i xs → In i (placed before n xs)
  placed_in i [] h = h
  placed_in i (x ∷ xs) h = let rest = placed_in i xs in grind arith

pub in_all : (R : ℕ → ℕ → Type 0) (x i : ℕ) (xs : List ℕ) → AllByRecursion (R x) xs → In i xs → R x i
in_all R x i [] h within = absurd within
in_all R x i (y ∷ ys) h within = let rest = in_all R x i ys h.1 in grind arith

-- Two lists that are sorted alike and hold the same numbers are one.
module _ (R : ℕ → ℕ → Type 0) (never : (i : ℕ) → R i i → ⊥) (chain : (i j k : ℕ) → R i j → R j k → R i k) where
  -- what is in the one rest is in the other, since it is not the first
  rest_in : (x i : ℕ) (xs ys : List ℕ) → AllByRecursion (R x) xs → (In i xs → In i (x ∷ ys)) → In i xs → In i ys
  rest_in x i xs ys h to within =
      ⊎_elim (λ e. absurd (never x (rw e at (in_all R x i xs h within)))) (λ k. k) (to within)

  same_sorted : (xs ys : List ℕ) → Sorted R xs → Sorted R ys → ((i : ℕ) → In i xs → In i ys) → ((i : ℕ) → In i ys → In i xs) → xs ≡ ys
  same_sorted [] [] h k to from = refl
  same_sorted [] (y ∷ ys) h k to from = absurd (from y (inl refl))
  same_sorted (x ∷ xs) [] h k to from = absurd (to x (inl refl))
  same_sorted (x ∷ xs) (y ∷ ys) h k to from =
      let rest =
      same_sorted xs ys h.1 k.1
      (λ i. rest_in x i xs ys h.0 (λ w. rw (sym first) at (to i (inr w))))
      (λ i. rest_in y i ys xs k.0 (λ w. rw first at (from i (inr w)))) in
      cc first
    where
      first : x ≡ y
      first =
          let after_y = to x (inl refl) in
          let after_x = from y (inl refl) in
          grind (arith, in_all)

pub not_itself : {D : Type 0} (o : Order D) (x : D) → o.earlier x x ≡ false
not_itself o x = let never = o.one_way x x in grind arith

module _ {D : Type 0} (o : Order D) (date : ℕ → D) where
  pub before_never : (i : ℕ) → Before o.earlier date i i → ⊥
  before_never i h = grind (arith, not_itself o)

  before_chain : (i j k : ℕ) → Before o.earlier date i j → Before o.earlier date j k → Before o.earlier date i k
  before_chain i j k h g = grind (arith, o.transitive)

  -- once a slot is dated after d, so is every later one
  later_too : (day : D) (x j : ℕ) → dated_after o.earlier date day x ≡ true → Before o.earlier date x j → dated_after o.earlier date day j ≡ true
  later_too day x j e h = grind (arith, o.transitive)

  sorted_onward : (day : D) (xs : List ℕ) → Sorted (Before o.earlier date) xs → Onward (dated_after o.earlier date day) xs
  sorted_onward day [] h = tt
  sorted_onward day (x ∷ xs) h =
      (λ e. weaker (Before o.earlier date x) (λ j. dated_after o.earlier date day j ≡ true) (λ j. later_too day x j e) xs h.0, sorted_onward day xs h.1)

  -- not dated before an earlier arrival, a slot stands behind it
  stands_behind : (i n : ℕ) → i < n → o.earlier (date n) (date i) ≡ false → Before o.earlier date i n
  stands_behind i n lt later = grind (arith, o.equal)

  placed_sorted : (n : ℕ) (xs : List ℕ) → AllByRecursion (λ i. i < n) xs → Sorted (Before o.earlier date) xs → Sorted (Before o.earlier date) (placed (dated_after o.earlier date (date n)) n xs)
  placed_sorted n [] below h = (tt, tt)
  placed_sorted n (x ∷ xs) below h =
      cond_both (o.earlier (date n) (date x)) _ _ (Sorted (Before o.earlier date))
      (λ e. ((inl e, weaker (λ i. dated_after o.earlier date (date n) i ≡ true) (Before o.earlier date n) (λ i. inl) xs ((sorted_onward (date n) (x ∷ xs) h).0 e)), h))
      (λ e. (all_placed (dated_after o.earlier date (date n)) n (Before o.earlier date x) xs (stands_behind x n below.0 e) h.0, placed_sorted n xs below.1 h.1))

  pub all_below : (n : ℕ) → AllByRecursion (λ i. i < n) (book_order o.earlier date n)
  all_below zero = tt
  all_below (suc n) =
      all_placed (dated_after o.earlier date (date n)) n (λ i. i < suc n) (book_order o.earlier date n) (omega arith)
      (weaker (λ i. i < n) (λ i. i < suc n) (λ i lt. omega arith) (book_order o.earlier date n) (all_below n))

  pub order_sorted : (n : ℕ) → Sorted (Before o.earlier date) (book_order o.earlier date n)
  order_sorted zero = tt
  order_sorted (suc n) = placed_sorted n (book_order o.earlier date n) (all_below n) (order_sorted n)

  pub order_onward : (day : D) (n : ℕ) → Onward (dated_after o.earlier date day) (book_order o.earlier date n)
  order_onward day n = sorted_onward day (book_order o.earlier date n) (order_sorted n)

  pub order_holds : (n i : ℕ) → In i (book_order o.earlier date n) ↔ (i < n)
  order_holds zero i = (λ none. absurd none, λ lt. absurd (omega arith))
  order_holds (suc n) i =
      let rest = order_holds n i in
      let to = in_placed (dated_after o.earlier date (date n)) n i (book_order o.earlier date n) in
      let from = placed_in (dated_after o.earlier date (date n)) n i (book_order o.earlier date n) in
      (λ h. grind arith, λ lt. grind arith)

pub order_stands : {D : Type 0} (o : Order D) → OrderStands o.earlier
order_stands o date n = record { sorted = order_sorted o date n; holds = order_holds o date n }

pub order_is_one : {D : Type 0} (o : Order D) → OrderIsOne o.earlier
order_is_one o date n xs h =
    same_sorted (Before o.earlier date) (before_never o date) (before_chain o date) xs (book_order o.earlier date n) h.sorted (order_sorted o date n)
    (λ i k. (order_holds o date n i).1 ((h.holds i).0 k))
    (λ i k. (h.holds i).1 ((order_holds o date n i).0 k))

pub order_grows : {D : Type 0} (o : Order D) → OrderGrows o.earlier
order_grows o date n = placed_behind (dated_after o.earlier date (date n)) n (book_order o.earlier date n) (order_onward o date (date n) n)

pub order_front : {D : Type 0} (o : Order D) → FrontIsPrefix o.earlier
order_front o date day n = front_is_prefix (dated_after o.earlier date day) (book_order o.earlier date n) (order_onward o date day n)

-- What is placed, and so book order, goes only by the tests of the slots in the list.
placed_same : (p q : ℕ → Bool) (n : ℕ) (xs : List ℕ) → AllByRecursion (λ i. p i ≡ q i) xs → placed p n xs ≡ placed q n xs
placed_same p q n [] h = refl
placed_same p q n (x ∷ xs) h = rw (h.0, placed_same p q n xs h.1)

pub order_same : {D : Type 0} (o : Order D) (f g : ℕ → D) (n : ℕ) → ((i : ℕ) → i < n → f i ≡ g i) → book_order o.earlier f n ≡ book_order o.earlier g n
order_same o f g zero h = refl
order_same o f g (suc n) h =
    let last = h n (omega arith) in
    rw (order_same o f g n (λ i lt. h i (omega arith)))
    (placed_same (dated_after o.earlier f (f n)) (dated_after o.earlier g (g n)) n (book_order o.earlier g n)
    (weaker (λ i. i < n) (λ i. dated_after o.earlier f (f n) i ≡ dated_after o.earlier g (g n) i) (λ i lt. cc (h i (omega arith))) (book_order o.earlier g n) (all_below o g n)))
