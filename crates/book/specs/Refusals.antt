-- The number of each refusal, who gives it, and its words.
use Rattle.std.specs.Prelude.{ℕ, List}
use Rattle.dates.specs.Refusals.{no_such_date}
use Rattle.machines.specs.Refusals as machines
use Rattle.book.specs.declared.refusal.Refusal.{Refusal}
use Rattle.book.specs.declared.refusal.Refusal.TheVariants.{Date, Machine}

abbrev pub number : Refusal → ℕ
number (Date fault) = no_such_date.number
number (Machine fault) = machines.number fault

abbrev pub giver : Refusal → List ℕ
giver (Date fault) = no_such_date.giver
giver (Machine fault) = machines.giver fault

abbrev pub words : Refusal → List ℕ
words (Date fault) = no_such_date.words
words (Machine fault) = machines.words fault
