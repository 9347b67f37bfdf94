-- What is made of the three numbers of a raw form, once they are read.
use Rattle.std.proofs.Common.{◌≡◌, ℕ, List, ℤ, Some, None, Ok, Err, Option, Result, subst}
use Rattle.std.specs.Result.{MatchResult}
use Rattle.words.specs.Numbers.{signed, unsigned}
use Rattle.words.specs.Operations.{of_numbers, with}
use Rattle.words.specs.declared.reason.Reason.{Reason}
use Rattle.words.specs.declared.reason.Reason.TheVariants.{NotSigned, NotUnsigned}

module _ {A : Type 0} (make : ℕ → ℕ → ℤ → A) (made : Result A Reason) where
  abbrev Makes : Result (ℕ × ℕ × ℤ) Reason → Type 0
  Makes numbers = MatchResult numbers (λ n. made ≡ Ok (make n.0 n.1 n.2)) (λ reason. made ≡ Err reason)

  by_number : (c p : Option ℕ) (l : Option ℤ) → Makes (with c NotUnsigned (λ c. with p NotUnsigned (λ p. with l NotSigned (λ l. Ok (c, p, l))))) → made ≡ with c NotUnsigned (λ c. with p NotUnsigned (λ p. with l NotSigned (λ l. Ok (make c p l))))
  by_number None p l is = is
  by_number (Some c) None l is = is
  by_number (Some c) (Some p) None is = is
  by_number (Some c) (Some p) (Some l) is = is

  pub made_of : (code place last : List ℕ) (numbers : Result (ℕ × ℕ × ℤ) Reason) → numbers ≡ of_numbers (λ c p l. (c, p, l)) code place last → Makes numbers → made ≡ of_numbers make code place last
  made_of code place last numbers read is = by_number (unsigned 16 code) (unsigned 16 place) (signed 31 last) (subst Makes read is)
