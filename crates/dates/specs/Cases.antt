-- Worked cases of the calendar.
use Rattle.std.specs.Prelude.{◌≡◌, true, false, refl}
use Rattle.dates.specs.Calendar.{exists}
use Rattle.dates.specs.Survey.{survey_dates}
use Rattle.dates.specs.declared.survey.SurveyDate.{SurveyDate}

-- some day of 1987, and the first day of 1987
abbrev pub in_1987 : SurveyDate
in_1987 = record { year = 1987; month = 0; day = 0; real = refl }

abbrev pub first_of_1987 : SurveyDate
first_of_1987 = record { year = 1987; month = 1; day = 1; real = refl }

-- the leap days of 2000 and 1900, an unknown month without and with a known day, and that unknown comes first
abbrev pub CalendarCases : Type 0
CalendarCases =
    (exists 2000 2 29 ≡ true)
    × (exists 1987 0 0 ≡ true)
    × (exists 1900 2 29 ≡ false)
    × (exists 1987 0 5 ≡ false)
    × (survey_dates.earlier in_1987 first_of_1987 ≡ true)
