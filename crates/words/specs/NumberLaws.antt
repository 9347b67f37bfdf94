-- What `parse` answers is the number that the text spells.
use Rattle.std.proofs.Common.{◌≡◌, ℕ, ◌+◌, ◌-◌, ◌*◌, ◌^◌, ◌<◌, ◌≤◌, Bool, true, false, cond, ◌&&◌, ◌||◌, eqb, ltb, List, length, drop, ℤ, Some, None, Ok, Err, Decides, fold, Result, refl, arith, w32}
use Rattle.std.proofs.lemmas.Str.Parse.{IsNumeralModel, numerals_by_fold, parse_plain, parse_plus, parse_signed_minus, parse_signed_plain, parse_signed_plus, tells_all_ascii_digits}
use Rattle.std.proofs.lemmas.Bool.Decides.{nat_tests}
use Rattle.std.specs.Result.{OkIff, result_ok}
use Rattle.std.specs.Str.Parse.{ParsesSigned, ParsesUnsigned}
use Rattle.std.specs.Str.{all_ascii_digits}
use Rattle.words.specs.Numbers.{minus, numeral, plus, signed, unsigned, worth}

own : IsNumeralModel (λ digits. all_ascii_digits digits ≡ true) worth
own = numerals_by_fold (λ digits. all_ascii_digits digits ≡ true) tells_all_ascii_digits (λ n digits. fold (λ m digit. m * 10 + (digit - 48)) n digits) (record { empty = λ n. refl; more = λ n c cs _. refl })

-- a conversion that succeeds just where a test does
converted_part : {T E : Type 0} (r : Result T E) (Q : Type 0) (x : T) (test : Bool) → Decides test Q → OkIff r Q x → result_ok r ≡ cond test (Some x) None
converted_part (Ok y) Q x test decides (holds, is) = rw (decides.1 holds, is)
converted_part (Err e) Q x true decides fails = absurd (fails (decides.0 refl))
converted_part (Err e) Q x false decides fails = refl

-- digits of at most a bound
fits : (digits : List ℕ) (bound : ℕ) → Decides (numeral digits && ltb (worth digits) bound) ((all_ascii_digits digits ≡ true) × (0 < length digits) × (worth digits < bound))
fits digits bound = (λ h. grind (arith, nat_tests), λ h. grind (arith, nat_tests))

by_plus : {E : Type 0} (bits : ℕ) (text : List ℕ) (r : Result ℕ E) (b : Bool) → plus text ≡ b → ParsesUnsigned bits 10 text r → result_ok r ≡ unsigned bits text
by_plus bits text r true is reads = rw is (converted_part r _ _ _ (fits (drop 1 text) (2 ^ bits)) (parse_plus own bits text r reads (grind (arith, nat_tests))))
by_plus bits text r false is reads = rw is (converted_part r _ _ _ (fits text (2 ^ bits)) (parse_plain own bits text r reads (λ h. grind (arith, nat_tests))))

pub parsed_unsigned : {E : Type 0} (bits : ℕ) (text : List ℕ) (r : Result ℕ E) → ParsesUnsigned bits 10 text r → result_ok r ≡ unsigned bits text
parsed_unsigned bits text r = by_plus bits text r (plus text) refl

-- digits of at most a bound below a minus, and of less than it without one
fits_below : (digits : List ℕ) (bound : ℕ) → Decides (numeral digits && (ltb (worth digits) bound || eqb (worth digits) bound)) ((all_ascii_digits digits ≡ true) × (0 < length digits) × (worth digits ≤ bound))
fits_below digits bound = (λ h. grind (arith, nat_tests), λ h. grind (arith, nat_tests))

fits_above : (digits : List ℕ) (bound : ℕ) → Decides (numeral digits && (ltb (worth digits) bound || false)) ((all_ascii_digits digits ≡ true) × (0 < length digits) × (worth digits < bound))
fits_above digits bound = (λ h. grind (arith, nat_tests), λ h. grind (arith, nat_tests))

by_sign : {E : Type 0} (text : List ℕ) (r : Result ℤ E) (m p : Bool) → minus text ≡ m → plus text ≡ p → ParsesSigned w32 10 text r → result_ok r ≡ signed 31 text
by_sign text r true p isminus isplus reads = rw isminus (converted_part r _ _ _ (fits_below (drop 1 text) (2 ^ 31)) (parse_signed_minus own w32 text r reads (grind (arith, nat_tests))))
by_sign text r false true isminus isplus reads = rw (isminus, isplus) (converted_part r _ _ _ (fits_above (drop 1 text) (2 ^ 31)) (parse_signed_plus own w32 text r reads (grind (arith, nat_tests))))
by_sign text r false false isminus isplus reads = rw (isminus, isplus) (converted_part r _ _ _ (fits_above text (2 ^ 31)) (parse_signed_plain own w32 text r reads (λ h. grind (arith, nat_tests)) (λ h. grind (arith, nat_tests))))

pub parsed_signed : {E : Type 0} (text : List ℕ) (r : Result ℤ E) → ParsesSigned w32 10 text r → result_ok r ≡ signed 31 text
parsed_signed text r = by_sign text r (minus text) (plus text) refl refl
