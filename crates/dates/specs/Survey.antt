-- Survey dates as a kind of date.
use Rattle.std.specs.Prelude.{◌≡◌, ℕ, ◌+◌, ◌*◌, ◌/◌, ◌%◌, Bool, true, false, List, [], ◌∷◌, Ok, Err, Result, slice_index, refl}
use Rattle.dates.specs.Calendar.{exists}
use Rattle.dates.specs.Model.{DateModel}
use Rattle.dates.specs.Order.{before}
use Rattle.dates.specs.declared.fault.NoSuchDate.{NoSuchDate}
use Rattle.dates.specs.declared.survey.SurveyDate.{SurveyDate}

abbrev pub date_if : (year month day : ℕ) (answer : Bool) → exists year month day ≡ answer → Result SurveyDate NoSuchDate
date_if year month day true real = Ok (record { year = year; month = month; day = day; real = real })
date_if year month day false _ = Err (record {})

-- the date of that year, month and day, or the refusal where there is none
abbrev pub dated : ℕ → ℕ → ℕ → Result SurveyDate NoSuchDate
dated year month day = date_if year month day (exists year month day) refl

-- what the order goes by: the year, then the month, then the day, as numbers
abbrev pub places : SurveyDate → List ℕ
places d = d.year ∷ d.month ∷ d.day ∷ []

abbrev pub survey_dates : DateModel SurveyDate
survey_dates = record {
  kind = 2;
  earlier = λ a b. before (places a) (places b);
  bytes = λ d. (d.year % 256) ∷ (d.year / 256) ∷ d.month ∷ d.day ∷ [];
  given = λ bs. dated (slice_index bs 0 + slice_index bs 1 * 256) (slice_index bs 2) (slice_index bs 3);
}
