-- Day numbers keep the laws of a kind of date.
use Rattle.std.specs.Prelude.{◌≡◌, ℕ, ◌+◌, ◌*◌, ◌/◌, ◌%◌, ◌^◌, ◌<◌, [], ◌∷◌, Ok, refl}
use Rattle.std.proofs.Common.{ap, ◌∙◌, arith, rules, of_z, to_z}
use mathlib.Core.HLevel.{is_prop→PathP}
use Rattle.std.proofs.Math.Bridge.{le_prop}
use Rattle.std.proofs.Math.Nat.{div-div-eq-div-mul}
use Rattle.std.specs.Int.Signed.{mag}
use Rattle.std.specs.Int.{w32}
use Rattle.std.proofs.lemmas.Int.{ints, to_z-of_z, of_z-to_z}
use Rattle.dates.specs.Model.{Lawful}
use Rattle.dates.specs.Day.{day_numbers}
use Rattle.dates.specs.declared.day.DayNumber.{DayNumber}
use Rattle.dates.specs.FourBytes.{by_four}

-- the fact in a day number's ghost field has one proof, so two of one number are equal
pub same_day : (a b : DayNumber) → a.number ≡ b.number → a ≡ b
same_day a b p = λ i. record {
  number = p i;
  fits = is_prop→PathP (λ j. mag (p j) < 2 ^ 31) (λ j. le_prop) a.fits b.fits i;
}

-- the quotients of a number by powers of 256, one from the other
quotients : (n : ℕ) → (n / 65536 ≡ n / 256 / 256) × (n / 16777216 ≡ n / 256 / 256 / 256)
quotients n = let second = div-div-eq-div-mul n 256 256 in let third = div-div-eq-div-mul n 65536 256 in (cc, cc)

bytes_back : (n : ℕ) → n < 2 ^ 32 → n % 256 + n / 256 % 256 * 256 + n / 65536 % 256 * 65536 + n / 16777216 % 256 * 16777216 ≡ n
bytes_back n h =
    let q = quotients n in
    let third : n / 65536 % 256 ≡ n / 256 / 256 % 256 = cc in
    let fourth : n / 16777216 % 256 ≡ n / 256 / 256 / 256 % 256 = cc in
    omega arith

-- a number's last byte, and the number before it
last_byte : (n before last : ℕ) → last < 256 → n ≡ before * 256 + last → (n % 256 ≡ last) × (n / 256 ≡ before)
last_byte n before last small e = (omega arith, omega arith)

bytes_form :
    (d : DayNumber) (a b c e : ℕ)
    → a < 256
    → b < 256
    → c < 256
    → e < 256
    → day_numbers.given (a ∷ b ∷ c ∷ e ∷ []) ≡ Ok d
    → day_numbers.bytes d ≡ a ∷ b ∷ c ∷ e ∷ []
bytes_form d a b c e fa fb fc fe h =
    let all = a + b * 256 + c * 65536 + e * 16777216 in
    let number : d.number ≡ to_z w32 all = cc in
    let n = of_z w32 d.number in
    let bits : n ≡ all = ap (of_z w32) number ∙ of_z-to_z w32 all (omega arith) in
    let first = last_byte n (b + c * 256 + e * 65536) a fa (omega arith) in
    let second = last_byte (n / 256) (c + e * 256) b fb (omega arith) in
    let third = last_byte (n / 256 / 256) e c fc (omega arith) in
    let fourth : n / 256 / 256 / 256 % 256 ≡ e = omega arith in
    let q = quotients n in
    cc

pub day_lawful : Lawful day_numbers
day_lawful = record {
  kind_fits = omega arith;
  one_way = λ a b h. grind (arith, ints);
  equal = λ a b h k. same_day a b (grind (arith, ints));
  transitive = λ a b c h k. grind (arith, ints);
  four = λ d. (refl, search rules);
  back = λ d.
      let bits = bytes_back (of_z w32 d.number) (omega (arith, ints)) in
      ap Ok (same_day _ d (ap (to_z w32) bits ∙ to_z-of_z w32 d.number (record { sfits = d.fits })));
  form = λ bs d. by_four (λ bs. day_numbers.given bs ≡ Ok d → day_numbers.bytes d ≡ bs) (bytes_form d) bs;
}
