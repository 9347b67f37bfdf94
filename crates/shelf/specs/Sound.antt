-- When a shelf is sound.
use Rattle.std.specs.Prelude.{◌≡◌, ℕ, ◌<◌, ◌≤◌, List, Ok}
use Rattle.avl.specs.Book.{IsInBookOrder}
use Rattle.avl.specs.Summary.{SummaryModel}
use Rattle.avl.specs.Tree.{Tree, inorder, Balanced}
use Rattle.dates.specs.Model.{DateModel}
use Rattle.machines.specs.declared.operation.Operation.{Operation}
use Rattle.slots.specs.declared.slot.Slot.{Slot}
use Rattle.slots.specs.Slots.{Entry, entries}
use Rattle.slots.specs.Chain.{Chained}
use Rattle.shelf.specs.Dating.{sooner, dating}

-- the bytes of an entry are those of a date
pub record Dated {D : Type 0} (dates : DateModel D) (es : ℕ → Entry) (i : ℕ) : Type 0 where
  pub date : D
  pub given : dating dates es i ≡ Ok date

-- A shelf of n entries is sound: a balanced tree hangs at the root link, its slots from left to right are the entries in
-- book order, and every slot of it has the levels, the count of standing entries and their joined summaries of its tree.
pub record Sound {D S : Type 0} (dates : DateModel D) (model : SummaryModel S) (summed : Operation → S) (slots : List (Slot S)) (root n : ℕ) : Type 0 where
  pub tree : Tree
  pub chained : Chained model summed (entries model slots) slots root tree
  pub balanced : Balanced tree
  pub order : IsInBookOrder (sooner dates) (dating dates (entries model slots)) n (inorder tree)
  pub few : n ≤ 1024
  pub dated : (i : ℕ) → i < n → Dated dates (entries model slots) i
