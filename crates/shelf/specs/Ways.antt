-- What the functions promise that go down the tree, for the tree at one link.
use Rattle.std.specs.Prelude.{◌≡◌, ℕ, ◌<◌, ◌≤◌, Bool, not, List, ◌∷◌, length, Ok, filter, Option, ◌≢◌}
use Rattle.std.specs.List.{slice_get}
use Rattle.avl.specs.Book.{In, Sorted, Before}
use Rattle.avl.specs.Placing.{Onward, front}
use Rattle.avl.specs.Summary.{SummaryModel, front_join}
use Rattle.avl.specs.Tree.{Tree, inorder, levels, size, Balanced, insert_by}
use Rattle.dates.specs.Model.{DateModel}
use Rattle.machines.specs.declared.operation.Operation.{Operation}
use Rattle.slots.specs.declared.slot.Slot.{Slot}
use Rattle.slots.specs.Slots.{Entry}
use Rattle.slots.specs.Chain.{Once, Chained, Tied, Formed, standing, own}
use Rattle.shelf.specs.Dating.{sooner, dating, ahead}

-- whether entry i does not stand in front of the place of entry `number` of a day
abbrev pub behind : {D : Type 0} → DateModel D → D → ℕ → (ℕ → Entry) → ℕ → Bool
behind dates day number es i = not (ahead dates (dating dates es i) i (Ok day) number)

module _ {S : Type 0} (model : SummaryModel S) where
  -- a tree of at most `depth` levels hangs at the link, and holds these entries
  pub record Read (summed : Operation → S) (es : ℕ → Entry) (slots : List (Slot S)) (link depth : ℕ) (t : Tree) : Type 0 where
    pub tied : Tied model summed es slots
    pub chained : Chained model summed es slots link t
    pub deep : levels t ≤ depth
    pub few : size t ≤ 1024

  -- how many standing entries are in front of a place
  abbrev pub Counts : {D : Type 0} → DateModel D → D → ℕ → List (Slot S) → ℕ → ℕ → ℕ → Type 0
  Counts dates day number slots link depth answer =
      (summed : Operation → S) (es : ℕ → Entry) (t : Tree) → Read summed es slots link depth t → Onward (behind dates day number es) (inorder t) →
      answer ≡ length (filter (standing es) (front (behind dates day number es) (inorder t)))

  -- the joined summaries of those
  abbrev pub Joins : (Operation → S) → {D : Type 0} → DateModel D → D → ℕ → List (Slot S) → ℕ → ℕ → S → Type 0
  Joins summed dates day number slots link depth answer =
      (es : ℕ → Entry) (t : Tree) → Read summed es slots link depth t → answer ≡ front_join model (own model summed es) (behind dates day number es) t

  -- the standing entry that k others stand in front of
  abbrev pub Selects : List (Slot S) → ℕ → ℕ → ℕ → Option ℕ → Type 0
  Selects slots link k depth answer =
      (summed : Operation → S) (es : ℕ → Entry) (t : Tree) → Read summed es slots link depth t → answer ≡ slice_get (filter (standing es) (inorder t)) k

  -- Slot n is taken into a balanced tree of at most `depth` levels, in front of the first slot that the test holds of.
  abbrev pub Inserts : (Operation → S) → ((ℕ → Entry) → ℕ → Bool) → List (Slot S) → List (Slot S) → ℕ → ℕ → ℕ → ℕ → Type 0
  Inserts summed test old new link n depth root =
      (es : ℕ → Entry) (t : Tree) → Tied model summed es old → Chained model summed es old link t → n < length old → Once (n ∷ inorder t) → Balanced t →
      levels t ≤ depth → size t < 1024 → Formed model summed es old new root (insert_by (test es) n t)

  -- The figures of a tree that went by the entries es are made to go by others, which differ from es only in slot i.
  abbrev pub Refreshes : (Operation → S) → {D : Type 0} → DateModel D → D → List (Slot S) → List (Slot S) → ℕ → ℕ → ℕ → Type 0
  Refreshes summed dates day old new link i depth =
      (es changed : ℕ → Entry) (t : Tree) → Tied model summed changed old → Chained model summed es old link t → ((k : ℕ) → (k ≢ i) → es k ≡ changed k) →
      dating dates changed i ≡ Ok day → Sorted (Before (sooner dates) (dating dates changed)) (inorder t) → In i (inorder t) →
      levels t ≤ depth → size t ≤ 1024 → Formed model summed changed old new link t
