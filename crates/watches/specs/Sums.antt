-- Sums as summaries.
use Rattle.std.specs.Prelude.{ℕ, ◌+◌, ◌*◌, ◌/◌, ◌≤◌, ℤ, pos, ◌+ℤ◌, unsigned_abs}
use Rattle.avl.specs.Summary.{SummaryModel}
use Rattle.watches.specs.declared.sum.Sum.{Sum}

abbrev pub sum_of : ℤ → Sum
sum_of total = record { total = total }

-- the weight is the absolute value in millions, rounded up
abbrev pub sums : SummaryModel Sum
sums = record {
  unit = sum_of (pos 0);
  join = λ s t. sum_of (s.total +ℤ t.total);
  weight = λ s. (unsigned_abs s.total + 999_999) / 1_000_000;
}

-- the least w of which the absolute value is at most w millions
abbrev pub LeastWeight : Sum → ℕ → Type 0
LeastWeight s w = (unsigned_abs s.total ≤ w * 1_000_000) × ((v : ℕ) → unsigned_abs s.total ≤ v * 1_000_000 → w ≤ v)
