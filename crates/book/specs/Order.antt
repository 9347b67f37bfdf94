-- Book order, and where a new entry is placed.
use Rattle.std.specs.Prelude.{◌≡◌, ℕ, ◌-◌, ◌<◌, ◌≤◌, Bool, true, not, ◌⊎◌, List, [], ◌∷◌, length, filter}
use Rattle.std.specs.List.{suffix_len, insert, AllByRecursion}
use Rattle.dates.specs.Model.{DateModel}
use Rattle.book.specs.declared.entries.Entry.{Entry}

module _ {D : Type 0} (dates : DateModel D) where
  -- whether an entry is dated later than a date
  abbrev pub later : D → Entry D → Bool
  later date entry = dates.earlier date entry.date

  -- the entries dated no later
  abbrev pub up_to : D → List (Entry D) → List (Entry D)
  up_to date entries = filter (λ entry. not (later date entry)) entries

  -- the place in front of the entries at the end that are later
  abbrev pub place : D → List (Entry D) → ℕ
  place date entries = length entries - suffix_len (later date) entries

  abbrev pub placed : Entry D → List (Entry D) → List (Entry D)
  placed new entries = insert entries (place new.date entries) new

  abbrev pub Before : Entry D → Entry D → Type 0
  Before first second =
      (dates.earlier first.date second.date ≡ true)
      ⊎ ((first.date ≡ second.date) × (first.number < second.number))

  -- each entry is before all that stand behind it
  abbrev pub Sorted : List (Entry D) → Type 0
  Sorted [] = Unit {0}
  Sorted (entry ∷ entries) = AllByRecursion (Before entry) entries × Sorted entries

  pub record InBookOrder (entries : List (Entry D)) : Type 0 where
    pub sorted : Sorted entries
    pub numbered : AllByRecursion (λ entry. (1 ≤ entry.number) × (entry.number ≤ length entries)) entries

  abbrev pub KeepsOrder : List (Entry D) → List (Entry D) → Type 0
  KeepsOrder old new = InBookOrder old → InBookOrder new
