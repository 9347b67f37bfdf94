-- Summaries that join, while what they sum up is light enough, and the two ways to join those of a tree.
use Rattle.std.specs.Prelude.{◌≡◌, ℕ, ◌+◌, ◌≤◌, Bool, cond, List, fold, sum_by}
use Rattle.avl.specs.Tree.{Tree, leaf, node}

pub record SummaryModel (S : Type 0) : Type 0 where
  pub unit : S
  pub join : S → S → S
  pub weight : S → ℕ

-- the most weight that the laws speak of: beyond it a join may give any summary
abbrev pub heaviest : ℕ
heaviest = 4096

pub record Lawful {S : Type 0} (model : SummaryModel S) : Type 0 where
  pub weightless : model.weight model.unit ≡ 0
  pub left : (a : S) → model.weight a ≤ heaviest → model.join model.unit a ≡ a
  pub right : (a : S) → model.weight a ≤ heaviest → model.join a model.unit ≡ a
  pub associative : (a b c : S) → model.weight a + model.weight b + model.weight c ≤ heaviest → model.join (model.join a b) c ≡ model.join a (model.join b c)
  pub lighter : (a b : S) → model.weight a + model.weight b ≤ heaviest → model.weight (model.join a b) ≤ model.weight a + model.weight b

-- `own` is the summary of one slot
module _ {S : Type 0} (model : SummaryModel S) (own : ℕ → S) where
  abbrev pub total_weight : List ℕ → ℕ
  total_weight xs = sum_by (λ i. model.weight (own i)) xs

  -- from left to right
  abbrev pub list_join : List ℕ → S
  list_join xs = fold (λ s i. model.join s (own i)) model.unit xs

  -- the left side, the node's own, the right side
  abbrev pub tree_join : Tree → S
  tree_join leaf = model.unit
  tree_join (node a i b) = model.join (model.join (tree_join a) (own i)) (tree_join b)

  -- the join of those in front of the first slot that the test holds of, by one way down the tree
  abbrev pub front_join : (ℕ → Bool) → Tree → S
  front_join after leaf = model.unit
  front_join after (node a i b) =
      cond (after i) (front_join after a) (model.join (model.join (tree_join a) (own i)) (front_join after b))
