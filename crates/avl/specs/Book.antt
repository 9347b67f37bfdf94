-- Book order: slots by date, and those of one date by number.
use Rattle.std.specs.Prelude.{◌≡◌, ℕ, zero, suc, ◌<◌, Bool, true, false, not, ◌&&◌, ◌||◌, ◌⊎◌, ◌↔◌, List, [], ◌∷◌, nat_lt}
use Rattle.std.specs.List.{AllByRecursion}
use Rattle.avl.specs.Placing.{placed}

-- Two dates are equal or exactly one is earlier, and earlier is transitive. Nothing more is asked of dates.
pub record Order (D : Type 0) : Type 0 where
  pub earlier : D → D → Bool
  pub one_way : (x y : D) → earlier x y ≡ true → earlier y x ≡ false
  pub equal : (x y : D) → earlier x y ≡ false → earlier y x ≡ false → x ≡ y
  pub transitive : (x y z : D) → earlier x y ≡ true → earlier y z ≡ true → earlier x z ≡ true

-- each number stands in R to all after it
abbrev pub Sorted : (ℕ → ℕ → Type 0) → List ℕ → Type 0
Sorted R [] = Unit {0}
Sorted R (x ∷ xs) = AllByRecursion (R x) xs × Sorted R xs

-- i is one of the numbers
abbrev pub In : ℕ → List ℕ → Type 0
In i [] = ⊥
In i (x ∷ xs) = (i ≡ x) ⊎ In i xs

-- `date` gives each slot's date
module _ {D : Type 0} (earlier : D → D → Bool) (date : ℕ → D) where
  abbrev pub Before : ℕ → ℕ → Type 0
  Before i j = (earlier (date i) (date j) ≡ true) ⊎ ((date i ≡ date j) × (i < j))

  -- the same as a test
  abbrev pub comes_before : ℕ → ℕ → Bool
  comes_before i j = earlier (date i) (date j) || (not (earlier (date j) (date i)) && nat_lt i j)

  -- what it is for xs to be the slots below n in book order
  pub record IsInBookOrder (n : ℕ) (xs : List ℕ) : Type 0 where
    pub sorted : Sorted Before xs
    pub holds : (i : ℕ) → In i xs ↔ (i < n)

  abbrev pub dated_after : D → ℕ → Bool
  dated_after day i = earlier day (date i)

  -- The slots below n, as they arrived: each goes in front of the first that is dated later.
  abbrev pub book_order : ℕ → List ℕ
  book_order zero = []
  book_order (suc n) = placed (dated_after (date n)) n (book_order n)
