-- A slot's two parts: its entry, and its place in the tree.
use Rattle.std.specs.Prelude.{◌≡◌, ℕ, ◌+◌, min, Bool, false, cond, List, [], ◌∷◌, length, pos, None, slice_index_or}
use Rattle.avl.specs.Summary.{SummaryModel}
use Rattle.machines.specs.Model.{Note}
use Rattle.machines.specs.declared.operation.Operation.{Operation}
use Rattle.slots.specs.declared.slot.Parts.{Parts}
use Rattle.slots.specs.declared.slot.Slot.{Slot}

pub record Entry : Type 0 where
  pub date : List ℕ
  pub operation : Operation
  pub standing : Bool
  pub note : Note

-- where a slot stands: its links, and the figures of the tree that it is the top of
pub record Placement (S : Type 0) : Type 0 where
  pub left : ℕ
  pub right : ℕ
  pub level : ℕ
  pub count : ℕ
  pub joined : S

abbrev pub entry : {S : Type 0} → Slot S → Entry
entry s = record { date = s.date; operation = s.operation; standing = s.standing; note = s.note }

abbrev pub placement : {S : Type 0} → Slot S → Placement S
placement s = record { left = s.left; right = s.right; level = s.level; count = s.count; joined = s.joined }

-- the parts of the tree that a slot is the top of, where `top` is its number
abbrev pub parts : {S : Type 0} → Slot S → ℕ → Parts
parts s top = record { left = s.left; top = top; right = s.right }

-- the standing entries of a tree whose sides have so many; sixteen bits hold no more than 65,535
abbrev pub count_over : ℕ → Bool → ℕ → ℕ
count_over left standing right = min (left + cond standing 1 0 + right) 65535

module _ {S : Type 0} (model : SummaryModel S) where
  -- a slot that has no entry yet; also what a link past the slots finds
  abbrev pub blank : Slot S
  blank = record { date = 0 ∷ 0 ∷ 0 ∷ 0 ∷ []; operation = record { code = 0; place = 0; amount = pos 0 }; standing = false; note = None; left = 0; right = 0; level = 0; count = 0; joined = model.unit }

  abbrev pub slot : List (Slot S) → ℕ → Slot S
  slot slots i = slice_index_or slots i blank

  -- the entry in each slot
  abbrev pub entries : List (Slot S) → ℕ → Entry
  entries slots i = entry (slot slots i)

  -- what an entry adds to the summaries: a voided one adds nothing
  abbrev pub contribution : (Operation → S) → Entry → S
  contribution summed e = cond e.standing (summed e.operation) model.unit

  -- every slot keeps its entry, whatever becomes of links and figures
  pub record Kept (old new : List (Slot S)) : Type 0 where
    pub same : (k : ℕ) → entries new k ≡ entries old k
    pub long : length new ≡ length old
