-- The join by a tree's shape is the join from left to right.
use Rattle.std.proofs.Common.{◌≡◌, ℕ, ◌+◌, ◌≤◌, Bool, not, List, [], ◌∷◌, ◌++◌, fold, sym, refl, ap, ◌∙◌, arith}
use mathlib.Core.Bool.{not-not}
use Rattle.std.proofs.lemmas.List.Sums.{sum_by-cons, sum_by-append}
use Rattle.std.proofs.lemmas.List.Filters.{sum_by-filter_both}
use Rattle.std.proofs.lemmas.Bool.{cond_both}
use Rattle.avl.specs.Claims.{TreeJoinsAsList, FrontJoinsAsList}
use Rattle.avl.specs.Placing.{Onward, front}
use Rattle.avl.specs.Summary.{SummaryModel, Lawful, heaviest, total_weight, list_join, tree_join, front_join}
use Rattle.avl.specs.Tree.{Tree, leaf, node, inorder}
use Rattle.avl.proofs.Fronts.{front_left, front_right}
use Rattle.avl.proofs.Placings.{onward_left, onward_right}

module _ {S : Type 0} (model : SummaryModel S) (law : Lawful model) (own : ℕ → S) where
  -- the join from left to right, after s
  abbrev join_from : S → List ℕ → S
  join_from s xs = fold (λ s i. model.join s (own i)) s xs

  weight_cons : (i : ℕ) (xs : List ℕ) → total_weight model own (i ∷ xs) ≡ model.weight (own i) + total_weight model own xs
  weight_cons = sum_by-cons (λ i. model.weight (own i))

  weight_cut : (xs : List ℕ) (i : ℕ) (ys : List ℕ) → total_weight model own (xs ++ i ∷ ys) ≡ total_weight model own xs + model.weight (own i) + total_weight model own ys
  weight_cut xs i ys = omega (arith, sum_by-append (λ i. model.weight (own i)) xs (i ∷ ys), weight_cons i ys)

  weight_from : (s : S) (xs : List ℕ) → model.weight s + total_weight model own xs ≤ heaviest → model.weight (join_from s xs) ≤ model.weight s + total_weight model own xs
  weight_from s [] light = omega arith
  weight_from s (i ∷ xs) light =
      let w = weight_cons i xs in
      let j = law.lighter s (own i) (omega arith) in
      omega (arith, weight_from (model.join s (own i)) xs (omega arith))

  join_from_is : (s : S) (xs : List ℕ) → model.weight s + total_weight model own xs ≤ heaviest → join_from s xs ≡ model.join s (list_join model own xs)
  join_from_is s [] light = sym (law.right s (omega arith))
  join_from_is s (i ∷ xs) light =
      let w = weight_cons i xs in
      let j = law.lighter s (own i) (omega arith) in
      let f = weight_from model.unit xs (omega (arith, law.weightless)) in
      let u = law.weightless in
      join_from_is (model.join s (own i)) xs (omega arith)
      ∙ law.associative s (own i) (list_join model own xs) (omega arith)
      ∙ ap (model.join s) (sym (rw (law.left (own i) (omega arith)) (join_from_is (own i) xs (omega arith))))

  join_append : (xs ys : List ℕ) (s : S) → join_from s (xs ++ ys) ≡ join_from (join_from s xs) ys
  join_append [] ys s = refl
  join_append (i ∷ xs) ys s = join_append xs ys (model.join s (own i))

  -- the join of a list that is cut at a slot
  join_cut : (xs : List ℕ) (i : ℕ) (ys : List ℕ) → total_weight model own (xs ++ i ∷ ys) ≤ heaviest → list_join model own (xs ++ i ∷ ys) ≡ model.join (model.join (list_join model own xs) (own i)) (list_join model own ys)
  join_cut xs i ys light =
      let u = law.weightless in
      let w = weight_cut xs i ys in
      let left = weight_from model.unit xs (omega arith) in
      let mid = law.lighter (list_join model own xs) (own i) (omega arith) in
      join_append xs (i ∷ ys) model.unit ∙ join_from_is (model.join (list_join model own xs) (own i)) ys (omega arith)

  tree_join_is : (t : Tree) → total_weight model own (inorder t) ≤ heaviest → tree_join model own t ≡ list_join model own (inorder t)
  tree_join_is leaf light = refl
  tree_join_is (node a i b) light =
      let w = weight_cut (inorder a) i (inorder b) in
      let left = tree_join_is a (omega arith) in
      let right = tree_join_is b (omega arith) in
      cc (join_cut (inorder a) i (inorder b) light)

  -- what is in front weighs no more than all
  front_weight : (after : ℕ → Bool) (xs : List ℕ) → total_weight model own (front after xs) ≤ total_weight model own xs
  front_weight after xs = omega (arith, sum_by-filter_both (λ i. not (after i)) after (λ i. sym (not-not (after i))) (λ i. model.weight (own i)) xs)

  front_join_is : (after : ℕ → Bool) (t : Tree) → Onward after (inorder t) → total_weight model own (inorder t) ≤ heaviest → front_join model own after t ≡ list_join model own (front after (inorder t))
  front_join_is after leaf h light = refl
  front_join_is after (node a i b) h light =
      let w = weight_cut (inorder a) i (inorder b) in
      let v = weight_cut (inorder a) i (front after (inorder b)) in
      let f = front_weight after (inorder b) in
      cond_both (after i) _ _ (λ s. s ≡ list_join model own (front after (inorder a ++ i ∷ inorder b)))
      (λ e. rw (front_left after (inorder a) i (inorder b) h e) (front_join_is after a (onward_left after (inorder a) (i ∷ inorder b) h) (omega arith)))
      (λ e.
      let left = tree_join_is a (omega arith) in
      let right = front_join_is after b (onward_right after (inorder a) (i ∷ inorder b) h).1 (omega arith) in
      rw (front_right after (inorder a) i (inorder b) h e) (cc (join_cut (inorder a) i (front after (inorder b)) (omega arith))))

pub tree_joins_as_list : {S : Type 0} (model : SummaryModel S) → Lawful model → TreeJoinsAsList model
tree_joins_as_list model law own t light = tree_join_is model law own t (omega arith)

pub front_joins_as_list : {S : Type 0} (model : SummaryModel S) → Lawful model → FrontJoinsAsList model
front_joins_as_list model law own after t h light = front_join_is model law own after t h (omega arith)
