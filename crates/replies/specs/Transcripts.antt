-- The whole output of a script.
use Rattle.std.specs.Prelude.{ℕ, ◌⊎◌, List, [], ◌++◌, Ok, codes, Result}
use Rattle.std.proofs.Common.{inl, inr}
use Rattle.std.specs.List.{flat_map}
use Rattle.dates.specs.Day.{day_numbers}
use Rattle.dates.specs.Survey.{survey_dates}
use Rattle.dates.specs.declared.day.DayNumber.{DayNumber}
use Rattle.dates.specs.declared.survey.SurveyDate.{SurveyDate}
use Rattle.machines.specs.Model.{MachineModel}
use Rattle.script.specs.Commands.{then}
use Rattle.replies.specs.Replies.{replies, reply_text, totals, totals_text}
use Rattle.script.specs.Scripts.{script}
use Rattle.script.specs.declared.line.Line.{Line}
use Rattle.script.specs.declared.line.ScriptFault.{ScriptFault}
use Rattle.replies.specs.declared.reply.Reply.{Reply}

-- a line for each reply, and the totals
abbrev pub output : List Reply → List ℕ
output given = flat_map (λ reply. reply_text reply ++ codes "\n") given ++ (totals_text (totals given) ++ codes "\n")

abbrev pub printed : MachineModel → List (Line DayNumber) ⊎ List (Line SurveyDate) → List ℕ
printed machine (inl lines) = output (replies day_numbers machine [] lines)
printed machine (inr lines) = output (replies survey_dates machine [] lines)

-- what a script prints, worked off on a new book
abbrev pub transcript : MachineModel → List ℕ → Result (List ℕ) ScriptFault
transcript machine text = then (script text) (λ lines. Ok (printed machine lines))
