use Rattle.std.proofs.Common.{sym, refl}
use Rattle.dates.specs.SurveyLaws.{dated_back}
use Rattle.dates.proofs.survey.SurveyDate.new.Goals as goal

pub returns-then-is_date : goal.returns-then-is_date
returns-then-is_date c = sym (dated_back _ _ refl)
