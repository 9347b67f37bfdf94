-- The operations and questions that words name.
use Rattle.std.specs.Prelude.{ℕ, ℤ, cond, List, [], ◌∷◌, Some, None, Ok, Err, codes, Option, Result}
use Rattle.std.specs.Str.{bytes_eq}
use Rattle.machines.specs.declared.operation.Operation.{Operation}
use Rattle.machines.specs.declared.operation.Question.{Question}
use Rattle.words.specs.Numbers.{signed, unsigned}
use Rattle.words.specs.declared.reason.Reason.{Reason}
use Rattle.words.specs.declared.reason.Reason.TheVariants.{NotSigned, NotUnsigned, UnknownOperation, UnknownQuestion}

-- goes on with what there is, or stops for the reason
abbrev pub with : {A B : Type 0} → Option A → Reason → (A → Result B Reason) → Result B Reason
with None reason next = Err reason
with (Some x) reason next = next x

-- what is made of the three numbers of a raw form
abbrev pub of_numbers : {A : Type 0} → (ℕ → ℕ → ℤ → A) → List ℕ → List ℕ → List ℕ → Result A Reason
of_numbers make code place last =
    with (unsigned 16 code) NotUnsigned (λ c. with (unsigned 16 place) NotUnsigned (λ p. with (signed 31 last) NotSigned (λ l. Ok (make c p l))))

-- code, place and amount, and code, place and index
abbrev pub raw_operation : List ℕ → List ℕ → List ℕ → Result Operation Reason
raw_operation = of_numbers (λ c p a. record { code = c; place = p; amount = a })

abbrev pub raw_question : List ℕ → List ℕ → List ℕ → Result Question Reason
raw_question = of_numbers (λ c p i. record { code = c; place = p; index = i })

abbrev pub operation : List (List ℕ) → Result Operation Reason
operation [] = Err UnknownOperation
operation (a ∷ []) = cond (bytes_eq a (codes "draw")) (raw_operation (codes "3") (codes "0") (codes "0")) (Err UnknownOperation)
operation (a ∷ b ∷ []) = cond (bytes_eq a (codes "order")) (raw_operation (codes "2") (codes "0") b) (Err UnknownOperation)
operation (a ∷ b ∷ c ∷ []) =
    cond (bytes_eq a (codes "change")) (raw_operation (codes "1") b c)
    (cond (bytes_eq a (codes "set")) (raw_operation (codes "4") b c)
    (Err UnknownOperation))
operation (a ∷ b ∷ c ∷ d ∷ []) = cond (bytes_eq a (codes "op")) (raw_operation b c d) (Err UnknownOperation)
operation (a ∷ b ∷ c ∷ d ∷ e ∷ more) = Err UnknownOperation

abbrev pub question : List (List ℕ) → Result Question Reason
question [] = Err UnknownQuestion
question (a ∷ []) = cond (bytes_eq a (codes "waiting")) (raw_question (codes "2") (codes "0") (codes "0")) (Err UnknownQuestion)
question (a ∷ b ∷ []) =
    cond (bytes_eq a (codes "count")) (raw_question (codes "1") b (codes "0"))
    (cond (bytes_eq a (codes "job")) (raw_question (codes "3") (codes "0") b)
    (cond (bytes_eq a (codes "status")) (raw_question (codes "4") b (codes "0"))
    (Err UnknownQuestion)))
question (a ∷ b ∷ c ∷ []) = Err UnknownQuestion
question (a ∷ b ∷ c ∷ d ∷ []) = cond (bytes_eq a (codes "question")) (raw_question b c d) (Err UnknownQuestion)
question (a ∷ b ∷ c ∷ d ∷ e ∷ more) = Err UnknownQuestion
