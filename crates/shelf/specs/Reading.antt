-- What the calls that read a sound shelf answer: functions of its entries.
use Rattle.std.specs.Prelude.{◌≡◌, ℕ, ◌<◌, List, map, length, ℤ, Some, fold, filter, Option}
use Rattle.std.specs.List.{slice_get}
use Rattle.avl.specs.Summary.{SummaryModel}
use Rattle.dates.specs.Model.{DateModel}
use Rattle.machines.specs.Model.{MachineModel}
use Rattle.machines.specs.Runs.{run}
use Rattle.machines.specs.declared.operation.Operation.{Operation}
use Rattle.machines.specs.declared.operation.Question.{Question}
use Rattle.slots.specs.declared.slot.Slot.{Slot}
use Rattle.slots.specs.Slots.{Entry, entries}
use Rattle.slots.specs.Chain.{standing}
use Rattle.shelf.specs.Dating.{ordered, up_to, before}
use Rattle.shelf.specs.Sound.{Sound}

module _ {D : Type 0} (dates : DateModel D) (es : ℕ → Entry) (n : ℕ) where
  -- of the first n entries, those that stand, in book order
  abbrev pub standing_entries : List ℕ
  standing_entries = filter (standing es) (ordered dates es n)

  -- those that stand and are dated no later than a day
  abbrev pub standing_up_to : D → List ℕ
  standing_up_to day = filter (standing es) (up_to dates day es n)

  -- those that stand in front of entry i
  abbrev pub standing_before : ℕ → List ℕ
  standing_before i = filter (standing es) (before dates i es n)

-- the summaries of the operations of these entries, joined from first to last
abbrev pub joined_summaries : {S : Type 0} → SummaryModel S → (Operation → S) → (ℕ → Entry) → List ℕ → S
joined_summaries model summed es = fold (λ s i. model.join s (summed (es i).operation)) model.unit

-- the operations of these entries
abbrev pub operations : (ℕ → Entry) → List ℕ → List Operation
operations es = map (λ i. (es i).operation)

module _ {D S : Type 0} (dates : DateModel D) (model : SummaryModel S) (slots : List (Slot S)) (root : ℕ) where
  abbrev pub CountsUpTo : D → ℕ → Type 0
  CountsUpTo day answer =
      (summed : Operation → S) (n : ℕ) → Sound dates model summed slots root n →
      answer ≡ length (standing_up_to dates (entries model slots) n day)

  abbrev pub CountsBefore : ℕ → ℕ → Type 0
  CountsBefore i answer =
      (summed : Operation → S) (n : ℕ) → Sound dates model summed slots root n → i < n →
      answer ≡ length (standing_before dates (entries model slots) n i)

  abbrev pub Finds : ℕ → Option ℕ → Type 0
  Finds k answer =
      (summed : Operation → S) (n : ℕ) → Sound dates model summed slots root n →
      answer ≡ slice_get (standing_entries dates (entries model slots) n) k

  abbrev pub JoinsUpTo : (Operation → S) → D → S → Type 0
  JoinsUpTo summed day answer =
      (n : ℕ) → Sound dates model summed slots root n →
      answer ≡ joined_summaries model summed (entries model slots) (standing_up_to dates (entries model slots) n day)

  -- what a new machine reads after the standing entries dated no later than a day, in book order
  abbrev pub ReadsUpTo : MachineModel → Question → (Operation → S) → D → ℤ → Type 0
  ReadsUpTo machine question summed day answer =
      (n : ℕ) → Sound dates model summed slots root n →
      machine.reads (run machine machine.empty (operations (entries model slots) (standing_up_to dates (entries model slots) n day))) question ≡ Some answer
