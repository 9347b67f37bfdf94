-- The numbers that words spell: decimal digits, with a sign before them or none.
use Rattle.std.specs.Prelude.{ℕ, ◌+◌, ◌-◌, ◌*◌, ◌^◌, Bool, cond, ◌&&◌, ◌||◌, List, length, drop, ℤ, pos, neg_ℤ, Some, None, fold, Option, ◌==◌, nat_lt, slice_index}
use Rattle.std.specs.Str.{all_ascii_digits}

-- one digit or more
abbrev pub numeral : List ℕ → Bool
numeral digits = nat_lt 0 (length digits) && all_ascii_digits digits

-- the number that digits write
abbrev pub worth : List ℕ → ℕ
worth digits = fold (λ n digit. n * 10 + (digit - 48)) 0 digits

-- a text begins with a plus, 43, or with a minus, 45
abbrev pub plus : List ℕ → Bool
plus text = slice_index text 0 == 43

abbrev pub minus : List ℕ → Bool
minus text = slice_index text 0 == 45

-- a number of so many bits, after a plus or with no sign
abbrev pub unsigned : ℕ → List ℕ → Option ℕ
unsigned bits text =
    let digits = cond (plus text) (drop 1 text) text in
    cond (numeral digits && nat_lt (worth digits) (2 ^ bits)) (Some (worth digits)) None

-- a number of so many bits and a sign, in two's complement
abbrev pub signed : ℕ → List ℕ → Option ℤ
signed bits text =
    let digits = cond (minus text || plus text) (drop 1 text) text in
    cond (numeral digits && (nat_lt (worth digits) (2 ^ bits) || (minus text && worth digits == 2 ^ bits)))
    (Some (cond (minus text) (neg_ℤ (pos (worth digits))) (pos (worth digits)))) None
