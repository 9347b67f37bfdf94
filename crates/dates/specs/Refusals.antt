-- What a kind of date refuses with.
use Rattle.std.specs.Prelude.{ℕ, List, codes}

-- the number of a refusal, who gives it, and its words
pub record Refusal : Type 0 where
  pub number : ℕ
  pub giver : List ℕ
  pub words : List ℕ

abbrev pub no_such_date : Refusal
no_such_date = record { number = 1; giver = codes "date"; words = codes "no such date" }
