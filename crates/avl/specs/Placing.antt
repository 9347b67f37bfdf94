-- Where a new slot goes in a list, by a test that says of each slot whether the new one comes before it.
use Rattle.std.specs.Prelude.{◌≡◌, ℕ, Bool, true, cond, not, List, [], ◌∷◌, filter}
use Rattle.std.specs.List.{AllByRecursion}

-- n in front of the first slot that it comes before, or at the end
abbrev pub placed : (ℕ → Bool) → ℕ → List ℕ → List ℕ
placed before n [] = n ∷ []
placed before n (i ∷ is) = cond (before i) (n ∷ i ∷ is) (i ∷ placed before n is)

-- once the test holds of a slot, it holds of every later one
abbrev pub Onward : (ℕ → Bool) → List ℕ → Type 0
Onward before [] = Unit {0}
Onward before (i ∷ is) = (before i ≡ true → AllByRecursion (λ j. before j ≡ true) is) × Onward before is

-- the slots that the test does not hold of: where it holds onward, they stand in front
abbrev pub front : (ℕ → Bool) → List ℕ → List ℕ
front before xs = filter (λ i. not (before i)) xs
