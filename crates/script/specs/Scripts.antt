-- What a whole script says.
use Rattle.std.specs.Prelude.{◌≡◌, ℕ, ◌+◌, cond, ◌⊎◌, List, [], ◌∷◌, ◌++◌, drop, Some, None, Ok, Err, vec_items, codes, decimal, Option, Result}
use Rattle.std.proofs.Common.{inl, inr}
use Rattle.std.specs.Str.{bytes_eq}
use Rattle.book.specs.declared.call.Call.{Call}
use Rattle.dates.specs.declared.day.DayNumber.{DayNumber}
use Rattle.dates.specs.declared.fault.NoSuchDate.{NoSuchDate}
use Rattle.dates.specs.declared.survey.SurveyDate.{SurveyDate}
use Rattle.script.specs.Commands.{call, then}
use Rattle.words.specs.Reasons.{explained}
use Rattle.words.specs.Text.{lines, words}
use Rattle.script.specs.Written.{day_written, survey_written}
use Rattle.script.specs.declared.line.Kind.{Kind}
use Rattle.script.specs.declared.line.Kind.TheVariants.{Days, Survey}
use Rattle.script.specs.declared.line.Line.{Line}
use Rattle.script.specs.declared.line.Script.{Script}
use Rattle.script.specs.declared.line.Script.TheVariants.{OfDays, OfSurveys}
use Rattle.script.specs.declared.line.ScriptFault.{ScriptFault}
use Rattle.script.specs.declared.line.ScriptFault.TheVariants.{BadLine, NoMemory}
use Rattle.script.specs.declared.line.Setting.{Setting}
use Rattle.script.specs.declared.line.Setting.TheVariants.{Begun, Blank, Named}
use Rattle.words.specs.declared.reason.Reason.{Reason}
use Rattle.words.specs.declared.reason.Reason.TheVariants.{UnknownKind}

-- the kind that the words after `dates` name
abbrev pub kind : List (List ℕ) → Result Kind Reason
kind [] = Err UnknownKind
kind (a ∷ []) = cond (bytes_eq a (codes "days")) (Ok Days) (cond (bytes_eq a (codes "survey")) (Ok Survey) (Err UnknownKind))
kind (a ∷ b ∷ words) = Err UnknownKind

-- what the words of a line are, before the first call
abbrev pub setting : List (List ℕ) → Result Setting Reason
setting [] = Ok Blank
setting (a ∷ words) = cond (bytes_eq a (codes "dates")) (then (kind words) (λ named. Ok (Named named))) (Ok Begun)

-- a reason, with the number of its line
abbrev pub at_line : {A : Type 0} → ℕ → Result A Reason → Result A ScriptFault
at_line n (Ok x) = Ok x
at_line n (Err reason) = Err (BadLine n reason)

abbrev pub head_with : Setting → Kind → ℕ → (Kind → Result (Kind × ℕ) ScriptFault) → Result (Kind × ℕ) ScriptFault
head_with Blank named n next = next named
head_with (Named other) named n next = next other
head_with Begun named n next = Ok (named, n)

-- the kind of date and how many lines stand before the first call, where the first n lines have named a kind
abbrev pub head : Kind → ℕ → List (List ℕ) → Result (Kind × ℕ) ScriptFault
head named n [] = Ok (named, n)
head named n (line ∷ rest) = then (at_line (n + 1) (setting (words line))) (λ s. head_with s named n (λ other. head other (n + 1) rest))

-- the call of line n, where it has one, before the calls of the lines behind it
abbrev pub put : {D : Type 0} → ℕ → Option (Result (Call D) NoSuchDate) → List (Line D) → List (Line D)
put n None rest = rest
put n (Some c) rest = record { number = n; call = c } ∷ rest

module _ {D : Type 0} (written : List ℕ → Option (Result D NoSuchDate)) where
  -- the call of a line, none where it has no words
  abbrev pub line_call : List (List ℕ) → Result (Option (Result (Call D) NoSuchDate)) Reason
  line_call [] = Ok None
  line_call (a ∷ words) = then (call written (a ∷ words)) (λ c. Ok (Some c))

  -- the calls of the lines that stand behind the first n
  abbrev pub calls : ℕ → List (List ℕ) → Result (List (Line D)) ScriptFault
  calls n [] = Ok []
  calls n (line ∷ rest) = then (at_line (n + 1) (line_call (words line))) (λ c. then (calls (n + 1) rest) (λ found. Ok (put (n + 1) c found)))

-- the calls of a script, by the kind of their dates
abbrev pub script_of : List (List ℕ) → Kind × ℕ → Result (List (Line DayNumber) ⊎ List (Line SurveyDate)) ScriptFault
script_of lines (Days, n) = then (calls day_written n (drop n lines)) (λ found. Ok (inl found))
script_of lines (Survey, n) = then (calls survey_written n (drop n lines)) (λ found. Ok (inr found))

abbrev pub script : List ℕ → Result (List (Line DayNumber) ⊎ List (Line SurveyDate)) ScriptFault
script text = then (head Days 0 (lines text)) (script_of (lines text))

abbrev pub listed : Script → List (Line DayNumber) ⊎ List (Line SurveyDate)
listed (OfDays found) = inl (vec_items found)
listed (OfSurveys found) = inr (vec_items found)

abbrev pub fault_text : ScriptFault → List ℕ
fault_text (BadLine n reason) = codes "line " ++ (decimal n ++ (codes ": " ++ explained reason))
fault_text NoMemory = codes "out of memory"

-- an answer is what the script says, unless memory failed
abbrev pub Agrees : {A B : Type 0} → (A → B) → Result A ScriptFault → Result B ScriptFault → Type 0
Agrees view (Ok x) says = says ≡ Ok (view x)
Agrees view (Err (BadLine n reason)) says = says ≡ Err (BadLine n reason)
Agrees view (Err NoMemory) says = Unit {0}
