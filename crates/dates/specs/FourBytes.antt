-- What holds of any four numbers below 256 holds of each list that is four bytes.
use Rattle.std.specs.Prelude.{ℕ, ◌<◌, List, [], ◌∷◌}
use Rattle.std.proofs.Common.{arith}
use Rattle.dates.specs.Model.{IsFourBytes}

module _ (P : List ℕ → Type 0) (each : (a b c d : ℕ) → a < 256 → b < 256 → c < 256 → d < 256 → P (a ∷ b ∷ c ∷ d ∷ [])) where
  pub by_four : (bs : List ℕ) → IsFourBytes bs → P bs
  by_four [] four = absurd (omega arith)
  by_four (a ∷ []) four = absurd (omega arith)
  by_four (a ∷ b ∷ []) four = absurd (omega arith)
  by_four (a ∷ b ∷ c ∷ []) four = absurd (omega arith)
  by_four (a ∷ b ∷ c ∷ d ∷ []) four = each a b c d four.1.0 four.1.1.0 four.1.1.1.0 four.1.1.1.1.0
  by_four (a ∷ b ∷ c ∷ d ∷ e ∷ bs) four = absurd (omega arith)
