-- Tests that an integer lies in a range.
use Rattle.std.specs.Prelude.{ℕ, Bool, ◌&&◌, ℤ, pos, neg_ℤ, int_le}

-- z lies in -n ..= n
abbrev pub within : ℕ → ℤ → Bool
within n z = int_le (neg_ℤ (pos n)) z && int_le z (pos n)

-- z lies in 0 ..= n
abbrev pub up_to : ℕ → ℤ → Bool
up_to n z = int_le (pos 0) z && int_le z (pos n)
