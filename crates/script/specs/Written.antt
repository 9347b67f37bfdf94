-- How the dates of each kind are written.
use Rattle.std.specs.Prelude.{ℕ, cond, List, [], ◌∷◌, Some, None, Ok, codes, Option, Result, ◌==◌}
use Rattle.std.specs.Option.{option_map}
use Rattle.dates.specs.Day.{numbered}
use Rattle.dates.specs.Survey.{dated}
use Rattle.dates.specs.declared.day.DayNumber.{DayNumber}
use Rattle.dates.specs.declared.fault.NoSuchDate.{NoSuchDate}
use Rattle.dates.specs.declared.survey.SurveyDate.{SurveyDate}
use Rattle.words.specs.Numbers.{signed, unsigned}

-- a day number is written as a number
abbrev pub day_written : List ℕ → Option (Result DayNumber NoSuchDate)
day_written word = option_map (λ n. Ok (numbered n)) (signed 31 word)

-- what stands before the first c and what stands behind it
abbrev pub cut_at : ℕ → List ℕ → Option (List ℕ × List ℕ)
cut_at c [] = None
cut_at c (b ∷ bs) = cond (b == c) (Some ([], bs)) (option_map (λ sides. (b ∷ sides.0, sides.1)) (cut_at c bs))

-- year, month and day, parted by hyphens, 45; a part that is left out is unknown, 0
abbrev pub month_parts : List ℕ → List ℕ → Option (List ℕ × List ℕ) → List ℕ × List ℕ × List ℕ
month_parts year rest None = (year, rest, codes "0")
month_parts year rest (Some sides) = (year, sides.0, sides.1)

abbrev pub year_parts : List ℕ → Option (List ℕ × List ℕ) → List ℕ × List ℕ × List ℕ
year_parts word None = (word, codes "0", codes "0")
year_parts word (Some sides) = month_parts sides.0 sides.1 (cut_at 45 sides.1)

abbrev pub parts : List ℕ → List ℕ × List ℕ × List ℕ
parts word = year_parts word (cut_at 45 word)

abbrev pub survey_of : Option ℕ → Option ℕ → Option ℕ → Option (Result SurveyDate NoSuchDate)
survey_of None month day = None
survey_of (Some y) None day = None
survey_of (Some y) (Some m) None = None
survey_of (Some y) (Some m) (Some d) = Some (dated y m d)

abbrev pub survey_written : List ℕ → Option (Result SurveyDate NoSuchDate)
survey_written word = let ymd = parts word in survey_of (unsigned 16 ymd.0) (unsigned 8 ymd.1) (unsigned 8 ymd.2)
