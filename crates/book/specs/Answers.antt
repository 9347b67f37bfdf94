-- What the calls on a book give and do.
use Rattle.std.specs.Prelude.{◌≡◌, ℕ, ◌+◌, true, cond, List, map, length, ℤ, is_ok, Some, None, Ok, Err, Option, Result}
use Rattle.dates.specs.Model.{DateModel}
use Rattle.machines.specs.Model.{MachineModel}
use Rattle.machines.specs.Runs.{run}
use Rattle.machines.specs.declared.fault.MachineFault.TheVariants.{UnknownOperation, UnansweredQuestion}
use Rattle.machines.specs.declared.operation.Operation.{Operation}
use Rattle.machines.specs.declared.operation.Question.{Question}
use Rattle.book.specs.Order.{up_to, placed}
use Rattle.book.specs.declared.call.Accepted.{Accepted}
use Rattle.book.specs.declared.call.Accepted.TheVariants.{Entered, Read}
use Rattle.book.specs.declared.call.Call.{Call}
use Rattle.book.specs.declared.call.Call.TheVariants.{Enter, Ask}
use Rattle.book.specs.declared.entries.Entry.{Entry}
use Rattle.book.specs.declared.fault.Fault.{Fault}
use Rattle.book.specs.declared.fault.Fault.TheVariants.{Refused, NoMemory}
use Rattle.book.specs.declared.refusal.Refusal.{Refusal}
use Rattle.book.specs.declared.refusal.Refusal.TheVariants.{Machine}

abbrev pub operations : {D : Type 0} → List (Entry D) → List Operation
operations entries = map (λ entry. entry.operation) entries

-- the entry that comes after these
abbrev pub coming : {D : Type 0} → List (Entry D) → D → Operation → Entry D
coming entries date operation = record { number = length entries + 1; date = date; operation = operation }

-- an answer: what the call gives, or why it is refused
abbrev pub Answer : Type 0
Answer = Result Accepted Refusal

module _ {D : Type 0} (dates : DateModel D) (machine : MachineModel) where
  -- what a new machine reads after the entries dated no later
  abbrev pub reading : List (Entry D) → D → Question → Option ℤ
  reading entries date question =
      machine.reads (run machine machine.empty (operations (up_to dates date entries))) question

  abbrev pub answer_to : List (Entry D) → Call D → Answer
  answer_to entries (Enter date operation) =
      cond (machine.knows operation) (Ok (Entered (length entries + 1))) (Err (Machine UnknownOperation))
  answer_to entries (Ask date question) =
      cond (machine.answers question)
      (Ok (Read (reading entries date question) (length (up_to dates date entries))))
      (Err (Machine UnansweredQuestion))

  -- the entries after a call
  abbrev pub after : List (Entry D) → Call D → List (Entry D)
  after entries (Enter date operation) =
      cond (machine.knows operation) (placed dates (coming entries date operation) entries) entries
  after entries (Ask date question) = entries

  -- The call was answered and has changed the entries as it is to do. Or memory failed: then it is not a
  -- call that is refused, and the entries are as they were.
  abbrev pub Done : List (Entry D) → Call D → Option Answer → List (Entry D) → Type 0
  Done old call (Some answer) new = (answer ≡ answer_to old call) × (new ≡ after old call)
  Done old call None new = (is_ok (answer_to old call) ≡ true) × (new ≡ old)

-- the answer in a fault, none where memory failed
abbrev pub refusal_in : Fault → Option Answer
refusal_in (Refused refusal) = Some (Err refusal)
refusal_in NoMemory = None

-- the answer in what a call gave
abbrev pub answer_in : {T : Type 0} → (T → Accepted) → Result T Fault → Option Answer
answer_in accepted (Ok given) = Some (Ok (accepted given))
answer_in accepted (Err fault) = refusal_in fault

abbrev pub read : Option ℤ × ℕ → Accepted
read given = Read given.0 given.1
