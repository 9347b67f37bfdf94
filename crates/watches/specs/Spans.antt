-- Spans as summaries.
use Rattle.std.specs.Prelude.{ℕ, ◌+◌, ◌-◌, cond, nat_le}
use Rattle.avl.specs.Summary.{SummaryModel}
use Rattle.watches.specs.declared.span.Span.{Span}

abbrev pub span : ℕ → ℕ → Span
span unmet left = record { unmet = unmet; left = left }

-- the draws of the second take the jobs that the first leaves, as far as these go
abbrev pub joined : ℕ → ℕ → ℕ → ℕ → Span
joined a b c d = cond (nat_le c b) (span a (b - c + d)) (span (a + c - b) d)

abbrev pub spans : SummaryModel Span
spans = record {
  unit = span 0 0;
  join = λ s t. joined s.unmet s.left t.unmet t.left;
  weight = λ s. s.unmet + s.left;
}
