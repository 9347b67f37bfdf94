-- Which survey dates exist.
use Rattle.std.specs.Prelude.{ℕ, ◌-◌, ◌%◌, Bool, true, false, cond, not, ◌&&◌, ◌||◌, List, [], ◌∷◌, ◌==◌, nat_le, slice_index}

abbrev pub leap : ℕ → Bool
leap year = year % 400 == 0 || (year % 4 == 0 && not (year % 100 == 0))

-- the lengths of the twelve months, of a plain year (false) or of a leap year (true)
abbrev pub month_lengths : Bool → List ℕ
month_lengths false = 31 ∷ 28 ∷ 31 ∷ 30 ∷ 31 ∷ 30 ∷ 31 ∷ 31 ∷ 30 ∷ 31 ∷ 30 ∷ 31 ∷ []
month_lengths true = 31 ∷ 29 ∷ 31 ∷ 30 ∷ 31 ∷ 30 ∷ 31 ∷ 31 ∷ 30 ∷ 31 ∷ 30 ∷ 31 ∷ []

-- month 0 and day 0 mean unknown: an unknown month requires an unknown day, and a known day is at most the month's length
abbrev pub exists : ℕ → ℕ → ℕ → Bool
exists year month day =
    nat_le 1 year
    && (nat_le year 9999
    && (nat_le month 12
    && cond (month == 0) (day == 0) (nat_le day (slice_index (month_lengths (leap year)) (month - 1)))))
