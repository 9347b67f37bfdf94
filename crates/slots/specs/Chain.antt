-- A tree that is chained through slots, and what a function that makes a tree of slots leaves.
use Rattle.std.specs.Prelude.{◌≡◌, ℕ, ◌+◌, ◌<◌, ◌≤◌, Bool, List, [], ◌∷◌, ◌++◌, length}
use Rattle.avl.specs.Tree.{Tree, leaf, node, inorder, levels, size}
use Rattle.avl.specs.Book.{In}
use Rattle.avl.specs.Standing.{tree_count}
use Rattle.avl.specs.Summary.{SummaryModel, tree_join}
use Rattle.machines.specs.declared.operation.Operation.{Operation}
use Rattle.slots.specs.declared.slot.Slot.{Slot}
use Rattle.slots.specs.Slots.{Entry, slot, entries, contribution}

-- no number stands twice
unfoldable pub Once : List ℕ → Type 0
Once [] = Unit {0}
Once (x ∷ xs) = (In x xs → ⊥) × Once xs

abbrev pub standing : (ℕ → Entry) → ℕ → Bool
standing es i = (es i).standing

module _ {S : Type 0} (model : SummaryModel S) (summed : Operation → S) where
  abbrev pub own : (ℕ → Entry) → ℕ → S
  own es i = contribution model summed (es i)

  -- A link past the slots leads nowhere; any other leads to the top of a tree, whose slot has the links to both sides and
  -- the figures of the tree, as the entries es give them.
  unfoldable pub Chained : (ℕ → Entry) → List (Slot S) → ℕ → Tree → Type 0
  Chained es slots link leaf = length slots ≤ link
  Chained es slots link (node a i b) =
      (link ≡ i) × (i < length slots)
      × Chained es slots (slot model slots i).left a
      × Chained es slots (slot model slots i).right b
      × ((slot model slots i).level ≡ levels (node a i b))
      × ((slot model slots i).count ≡ tree_count (standing es) (node a i b))
      × ((slot model slots i).joined ≡ tree_join model (own es) (node a i b))

  -- the slots hold these entries
  abbrev pub Tied : (ℕ → Entry) → List (Slot S) → Type 0
  Tied es slots = (k : ℕ) → entries model slots k ≡ es k

  -- the slots hold the tree, and those that are not in it are as they were
  pub record Formed (es : ℕ → Entry) (old new : List (Slot S)) (root : ℕ) (t : Tree) : Type 0 where
    pub chained : Chained es new root t
    pub others : (k : ℕ) → (In k (inorder t) → ⊥) → slot model new k ≡ slot model old k

  -- the figures of a tree of slot i over the trees at two links
  abbrev pub Figured : List (Slot S) → ℕ → ℕ → ℕ → ℕ → ℕ → S → Type 0
  Figured slots left i right level count joined =
      (es : ℕ → Entry) (a b : Tree) → Tied es slots → Chained es slots left a → Chained es slots right b → size a + size b < 1024 →
      (level ≡ levels (node a i b)) × (count ≡ tree_count (standing es) (node a i b)) × (joined ≡ tree_join model (own es) (node a i b))

  -- of two sides and slot i, the tree is made that the function gives of them
  abbrev pub Makes : (Tree → ℕ → Tree → Tree) → List (Slot S) → List (Slot S) → ℕ → ℕ → ℕ → ℕ → Type 0
  Makes made old new left i right root =
      (es : ℕ → Entry) (a b : Tree) → Tied es old → Chained es old left a → Chained es old right b → i < length old →
      Once (inorder a ++ i ∷ inorder b) → size a + size b < 1024 → Formed es old new root (made a i b)
