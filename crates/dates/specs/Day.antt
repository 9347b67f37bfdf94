-- Day numbers as a kind of date.
use Rattle.std.specs.Prelude.{ℕ, ◌+◌, ◌*◌, ◌/◌, ◌%◌, [], ◌∷◌, ℤ, Ok, int_lt, slice_index}
use borrow.Author.Gap.{read_sfits}
use Rattle.std.specs.Int.{w32}
use Rattle.std.proofs.Common.{of_z, to_z}
use Rattle.dates.specs.Model.{DateModel}
use Rattle.dates.specs.declared.day.DayNumber.{DayNumber}

-- the number with these 32 bits, in two's complement
abbrev pub of_bits : ℕ → DayNumber
of_bits n = record { number = to_z w32 n; fits = (read_sfits w32 n).sfits }

-- the day with this number, which fits 32 bits
abbrev pub numbered : ℤ → DayNumber
numbered n = of_bits (of_z w32 n)

abbrev pub day_numbers : DateModel DayNumber
day_numbers = record {
  kind = 1;
  earlier = λ a b. int_lt a.number b.number;
  bytes = λ d. let n = of_z w32 d.number in (n % 256) ∷ (n / 256 % 256) ∷ (n / 65536 % 256) ∷ (n / 16777216 % 256) ∷ [];
  given = λ bs. Ok (of_bits (slice_index bs 0 + slice_index bs 1 * 256 + slice_index bs 2 * 65536 + slice_index bs 3 * 16777216));
}
