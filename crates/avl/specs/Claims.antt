-- What is proved of the trees and of book order: each statement is named by the contract of a function.
use Rattle.std.specs.Prelude.{◌≡◌, ℕ, suc, ◌+◌, ◌≤◌, Bool, List, ◌∷◌, ◌++◌, filter}
use Rattle.avl.specs.declared.levels.Lean.{Lean}
use Rattle.avl.specs.Book.{IsInBookOrder, book_order, dated_after}
use Rattle.avl.specs.Placing.{placed, Onward, front}
use Rattle.avl.specs.Summary.{SummaryModel, total_weight, list_join, tree_join, front_join}
use Rattle.avl.specs.Tree.{Tree, inorder, size, levels, Balanced, mended, insert_by}

-- a balanced tree of at most 1,024 nodes has no more levels than `most`
abbrev pub SmallIsShallow : ℕ → Type 0
SmallIsShallow most = (t : Tree) → Balanced t → size t ≤ 1024 → levels t ≤ most

-- a balanced tree of 15 levels has at least 1,596 nodes
abbrev pub DeepIsLarge : Type 0
DeepIsLarge = (t : Tree) → Balanced t → 15 ≤ levels t → 1596 ≤ size t

-- a way to make a node of two sides that leaves the order of the slots
abbrev pub KeepsInorder : (Tree → ℕ → Tree → Tree) → Type 0
KeepsInorder make = (a : Tree) (i : ℕ) (b : Tree) → inorder (make a i b) ≡ inorder a ++ i ∷ inorder b

-- two balanced sides of so many levels, at most two apart, make a balanced node where they are mended by this lean
abbrev pub Mends : Lean → ℕ → ℕ → Type 0
Mends lean left right =
    (a : Tree) (i : ℕ) (b : Tree) → Balanced a → Balanced b → levels a ≡ left → levels b ≡ right → left ≤ right + 2 → right ≤ left + 2 →
    Balanced (mended lean a i b)

-- an insertion puts the new slot in front of the first slot that it comes before
abbrev pub InsertPlaces : Type 0
InsertPlaces =
    (before : ℕ → Bool) (n : ℕ) (t : Tree) → Onward before (inorder t) →
    inorder (insert_by before n t) ≡ placed before n (inorder t)

-- an insertion keeps the balance, and adds at most one level
abbrev pub InsertBalances : Type 0
InsertBalances =
    (before : ℕ → Bool) (n : ℕ) (t : Tree) → Balanced t →
    Balanced (insert_by before n t) × (levels t ≤ levels (insert_by before n t)) × (levels (insert_by before n t) ≤ levels t + 1)

module _ {S : Type 0} (model : SummaryModel S) where
  -- the join by the tree's shape is the join from left to right
  abbrev pub TreeJoinsAsList : Type 0
  TreeJoinsAsList =
      (own : ℕ → S) (t : Tree) → total_weight model own (inorder t) ≤ 1024 → tree_join model own t ≡ list_join model own (inorder t)

  -- so is the join of the front, by one way down
  abbrev pub FrontJoinsAsList : Type 0
  FrontJoinsAsList =
      (own : ℕ → S) (after : ℕ → Bool) (t : Tree) → Onward after (inorder t) → total_weight model own (inorder t) ≤ 1024 →
      front_join model own after t ≡ list_join model own (front after (inorder t))

-- `date` gives each slot's date, and n is how many slots there are
module _ {D : Type 0} (earlier : D → D → Bool) where
  -- book order is by date, then by number, and holds the slots below n and no others
  abbrev pub OrderStands : Type 0
  OrderStands = (date : ℕ → D) (n : ℕ) → IsInBookOrder earlier date n (book_order earlier date n)

  -- no other list is so
  abbrev pub OrderIsOne : Type 0
  OrderIsOne = (date : ℕ → D) (n : ℕ) (xs : List ℕ) → IsInBookOrder earlier date n xs → xs ≡ book_order earlier date n

  -- the next entry goes in between those dated no later and those dated later, which keep their order
  abbrev pub OrderGrows : Type 0
  OrderGrows =
      (date : ℕ → D) (n : ℕ) →
      let order = book_order earlier date n in
      let later = dated_after earlier date (date n) in
      book_order earlier date (suc n) ≡ front later order ++ n ∷ filter later order

  -- the entries dated no later than a day are a prefix of book order, and the others are all dated later
  abbrev pub FrontIsPrefix : Type 0
  FrontIsPrefix =
      (date : ℕ → D) (day : D) (n : ℕ) →
      let order = book_order earlier date n in
      let later = dated_after earlier date day in
      order ≡ front later order ++ filter later order

  -- a tree in book order, however it came about, takes in the next slot
  abbrev pub InsertKeepsBook : Type 0
  InsertKeepsBook =
      (date : ℕ → D) (n : ℕ) (t : Tree) → inorder t ≡ book_order earlier date n →
      inorder (insert_by (dated_after earlier date (date n)) n t) ≡ book_order earlier date (suc n)
