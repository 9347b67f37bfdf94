-- The calls that the words of a line name.
use Rattle.std.specs.Prelude.{ℕ, cond, List, [], ◌∷◌, Ok, Err, codes, Option, Result}
use Rattle.std.specs.Str.{bytes_eq}
use Rattle.book.specs.declared.call.Call.{Call}
use Rattle.book.specs.declared.call.Call.TheVariants.{Ask, Enter}
use Rattle.dates.specs.declared.fault.NoSuchDate.{NoSuchDate}
use Rattle.words.specs.Operations.{operation, question, with}
use Rattle.words.specs.declared.reason.Reason.{Reason}
use Rattle.words.specs.declared.reason.Reason.TheVariants.{LateKind, NotDate, UnknownCommand}

-- goes on with what was read, or stops for the same reason
abbrev pub then : {A B E : Type 0} → Result A E → (A → Result B E) → Result B E
then (Ok x) next = next x
then (Err e) next = Err e

module _ {D : Type 0} where
  -- a call on a date, or that there is no such date
  abbrev pub on_date : Result D NoSuchDate → (D → Call D) → Result (Call D) NoSuchDate
  on_date date call = then date (λ d. Ok (call d))

  abbrev pub entering : Option (Result D NoSuchDate) → List (List ℕ) → Result (Result (Call D) NoSuchDate) Reason
  entering date words = with date NotDate (λ d. then (operation words) (λ o. Ok (on_date d (λ on. Enter on o))))

  abbrev pub asking : Option (Result D NoSuchDate) → List (List ℕ) → Result (Result (Call D) NoSuchDate) Reason
  asking date words = with date NotDate (λ d. then (question words) (λ q. Ok (on_date d (λ on. Ask on q))))

  -- the call that the words of a line name, where written says what a word is as a date
  abbrev pub call : (List ℕ → Option (Result D NoSuchDate)) → List (List ℕ) → Result (Result (Call D) NoSuchDate) Reason
  call written [] = Err UnknownCommand
  call written (a ∷ []) = cond (bytes_eq a (codes "dates")) (Err LateKind) (Err UnknownCommand)
  call written (a ∷ b ∷ words) =
      cond (bytes_eq a (codes "enter")) (entering (written b) words)
      (cond (bytes_eq a (codes "ask")) (asking (written b) words)
      (cond (bytes_eq a (codes "dates")) (Err LateKind) (Err UnknownCommand)))
