-- What the calls that write to a shelf leave.
use Rattle.std.specs.Prelude.{◌≡◌, ℕ, ◌+◌, ◌<◌, ◌≤◌, Bool, true, false, ◌&&◌, List, length, Some, None, Option, ◌≢◌, nat_lt, slice_set}
use Rattle.avl.specs.Summary.{SummaryModel}
use Rattle.dates.specs.Model.{DateModel}
use Rattle.machines.specs.declared.operation.Operation.{Operation}
use Rattle.machines.specs.Model.{Note}
use Rattle.slots.specs.declared.slot.Slot.{Slot}
use Rattle.slots.specs.Slots.{Entry, slot, entries}
use Rattle.shelf.specs.Sound.{Sound}

-- an entry as it comes in
abbrev pub newly : List ℕ → Operation → Entry
newly date operation = record { date = date; operation = operation; standing = true; note = None }

abbrev pub voided : Entry → Entry
voided e = record { date = e.date; operation = e.operation; standing = false; note = e.note }

-- a slot in which only the note is another
abbrev pub with_note : {S : Type 0} → Note → Slot S → Slot S
with_note note s = record { date = s.date; operation = s.operation; standing = s.standing; note = note; left = s.left; right = s.right; level = s.level; count = s.count; joined = s.joined }

module _ {S : Type 0} (model : SummaryModel S) where
  -- slot i has this entry, and every other keeps its own
  pub record Entered (old new : List (Slot S)) (i : ℕ) (e : Entry) : Type 0 where
    pub here : entries model new i ≡ e
    pub others : (k : ℕ) → (k ≢ i) → entries model new k ≡ entries model old k
    pub long : length new ≡ length old

  -- The slots with another note in slot i. Where there is no such slot, nothing is set.
  abbrev pub noted : List (Slot S) → ℕ → Note → List (Slot S)
  noted slots i note = slice_set slots i (with_note note (slot model slots i))

  -- whether entry n has a slot
  abbrev pub has_room : List (Slot S) → ℕ → Bool
  has_room slots n = nat_lt n 1024 && nat_lt n (length slots)

  module _ {D : Type 0} (dates : DateModel D) (summed : Operation → S) where
    -- a sound shelf is sound again with n entries, and the slots from n on are as they were
    pub record Settled (old new : List (Slot S)) (n root : ℕ) : Type 0 where
      pub sound : Sound dates model summed new root n
      pub beyond : (k : ℕ) → n ≤ k → slot model new k ≡ slot model old k

    -- entry n is written into its slot, and a sound shelf takes it in: the answer is its new root
    pub record Added (old new : List (Slot S)) (root n : ℕ) (e : Entry) (answer : Option ℕ) : Type 0 where
      pub top : ℕ
      pub is : answer ≡ Some top
      pub entered : Entered old new n e
      pub settled : Sound dates model summed old root n → Settled old new (n + 1) top

    -- what adding entry n answers and leaves
    pub record Adds (old new : List (Slot S)) (root n : ℕ) (e : Entry) (answer : Option ℕ) : Type 0 where
      pub refused : has_room old n ≡ false → (answer ≡ None) × (new ≡ old)
      pub accepted : has_room old n ≡ true → Added old new root n e answer

    -- what voiding entry i leaves
    pub record Voids (old new : List (Slot S)) (root i : ℕ) : Type 0 where
      pub refused : length old ≤ i → new ≡ old
      pub entered : i < length old → Entered old new i (voided (entries model old i))
      pub settled : (n : ℕ) → Sound dates model summed old root n → i < n → Settled old new n root
