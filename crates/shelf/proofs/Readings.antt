-- What is read off a tree on the way down.
use Rattle.std.proofs.Common.{◌≡◌, ℕ, ◌+◌, ◌-◌, ◌<◌, ◌≤◌, Bool, true, false, cond, not, List, ◌∷◌, ◌++◌, length, Ok, filter, sym, refl, ap, ◌∙◌, arith, length-append}
use Rattle.std.proofs.lemmas.List.Elements.{filter-append}
use Rattle.std.proofs.lemmas.List.Sums.{length-filter, count_by-le-length}
use Rattle.avl.specs.Placing.{front}
use Rattle.avl.specs.Standing.{tree_count}
use Rattle.avl.specs.Summary.{SummaryModel, Lawful, tree_join, front_join}
use Rattle.avl.specs.Tree.{Tree, leaf, node, inorder, size}
use Rattle.avl.proofs.Depths.{size_is_length}
use Rattle.avl.proofs.Fronts.{front_left, front_right}
use Rattle.avl.proofs.Placings.{onward_left, onward_right}
use Rattle.avl.proofs.Standings.{count_is_length}
use Rattle.dates.specs.Model.{DateModel}
use Rattle.machines.specs.declared.operation.Operation.{Operation}
use Rattle.slots.specs.declared.slot.Slot.{Slot}
use Rattle.slots.specs.Slots.{Entry, slot, entry, count_over, contribution}
use Rattle.shelf.specs.Dating.{ahead}
use Rattle.slots.specs.Chain.{Chained, standing, own}
use Rattle.shelf.specs.Ways.{Counts, Joins, behind}
use Rattle.shelf.proofs.Datings.{tested}
use Rattle.slots.proofs.Chains.{figures_of, read_entry}
use Rattle.slots.proofs.Measures.{count_fits, count_small, tree_light, own_light}

pub kept_small : (p : ℕ → Bool) (xs : List ℕ) → length (filter p xs) ≤ length xs
kept_small p xs = omega (arith, length-filter p xs, count_by-le-length p xs)

-- the standing slots of a list that is cut at a slot
kept_cut : (p : ℕ → Bool) (t : Tree) (i : ℕ) (ys : List ℕ) → length (filter p (inorder t ++ i ∷ ys)) ≡ tree_count p t + cond (p i) 1 0 + length (filter p ys)
kept_cut p t i ys =
    let left = count_is_length p t in
    let whole : length (filter p (inorder t ++ i ∷ ys)) ≡ length (filter p (inorder t)) + length (filter p (i ∷ ys)) = simp (filter-append, length-append) in
    grind arith

module _ {S : Type 0} (model : SummaryModel S) {D : Type 0} (dates : DateModel D) (day : D) (number : ℕ) (slots : List (Slot S)) (link depth : ℕ) where
  pub counts_leaf : length slots ≤ link → Counts model dates day number slots link depth 0
  unfolding Chained
  counts_leaf past summed es leaf h onward = refl
  counts_leaf past summed es (node a j b) h onward = let c = h.chained in absurd (omega arith)

  pub counts_none : (r : ℕ) → link < length slots → depth ≡ 0 → Counts model dates day number slots link depth r
  unfolding Chained
  counts_none r within none summed es leaf h onward = let c = h.chained in absurd (omega arith)
  counts_none r within none summed es (node a j b) h onward = let deep = h.deep in absurd (omega arith)

  module _ (within : link < length slots) (deeper : 0 < depth) (at : Slot S) (read : at ≡ slot model slots link) where
    pub counts_left : (r : ℕ) → ahead dates (dates.given at.date) link (Ok day) number ≡ false → Counts model dates day number slots at.left (depth - 1) r → Counts model dates day number slots link depth r
    unfolding Chained
    counts_left r test p summed es leaf h onward = let c = h.chained in absurd (omega arith)
    counts_left r test p summed es (node a j b) h onward =
        let c = h.chained in
        let deep = h.deep in
        let few = h.few in
        let first = rw (read, c.0) at p in
        let past : behind dates day number es j ≡ true = ap not (tested model summed dates slots link at read es j h.tied c.0 (Ok day) number ∙ test) in
        first summed es a (record { tied = h.tied; chained = c.2; deep = omega arith; few = omega arith }) (onward_left (behind dates day number es) (inorder a) (j ∷ inorder b) onward)
        ∙ ap (λ xs. length (filter (standing es) xs)) (sym (front_left (behind dates day number es) (inorder a) j (inorder b) onward past))

    pub counts_right : (before rest r : ℕ) → before ≡ (slot model slots at.left).count → r ≡ count_over before at.standing rest → ahead dates (dates.given at.date) link (Ok day) number ≡ true → Counts model dates day number slots at.right (depth - 1) rest → Counts model dates day number slots link depth r
    unfolding Chained
    counts_right before rest r counted sum test p summed es leaf h onward = let c = h.chained in absurd (omega arith)
    counts_right before rest r counted sum test p summed es (node a j b) h onward =
        let c = h.chained in
        let deep = h.deep in
        let few = h.few in
        let tied = h.tied in
        let first = rw (read, c.0) at p in
        let past : behind dates day number es j ≡ false = ap not (tested model summed dates slots link at read es j tied c.0 (Ok day) number ∙ test) in
        let later = (onward_right (behind dates day number es) (inorder a) (j ∷ inorder b) onward).1 in
        let right = first summed es b (record { tied = tied; chained = c.3; deep = omega arith; few = omega arith }) later in
        let left : before ≡ tree_count (standing es) a = (rw (read, c.0) at counted) ∙ (figures_of model summed es slots (slot model slots j).left a c.2).1 in
        let stands = ap (λ e. e.standing) (read_entry model summed es slots link j at read c.0 tied) in
        let small_a = count_small (standing es) a in
        let small_b = kept_small (standing es) (front (behind dates day number es) (inorder b)) in
        let small_c = kept_small (λ i. not (behind dates day number es i)) (inorder b) in
        let size_b = size_is_length b in
        let cut = kept_cut (standing es) a j (front (behind dates day number es) (inorder b)) in
        let total = sum ∙ count_fits before at.standing rest (omega arith) (omega arith) in
        rw (front_right (behind dates day number es) (inorder a) j (inorder b) onward past)
        (total ∙ ap (λ s. before + cond s 1 0 + rest) stands ∙ ap (λ x. x + cond (es j).standing 1 0 + rest) left ∙ ap (λ x. tree_count (standing es) a + cond (es j).standing 1 0 + x) right ∙ sym cut)

-- the joins, by a watch of weight at most 1
module _ {S : Type 0} (model : SummaryModel S) (law : Lawful model) (summed : Operation → S) (light : (operation : Operation) → model.weight (summed operation) ≤ 1) where
  front_light : (es : ℕ → Entry) (after : ℕ → Bool) (t : Tree) → size t ≤ 1024 → model.weight (front_join model (own model summed es) after t) ≤ size t
  front_light es after leaf few = let none = law.weightless in omega arith
  front_light es after (node a i b) few =
      let left = tree_light model law (own model summed es) (own_light model law summed light es) a (omega arith) in
      let inner = front_light es after a (omega arith) in
      let right = front_light es after b (omega arith) in
      let here = own_light model law summed light es i in
      let front = law.lighter (tree_join model (own model summed es) a) (own model summed es i) (omega arith) in
      let all = law.lighter (model.join (tree_join model (own model summed es) a) (own model summed es i)) (front_join model (own model summed es) after b) (omega arith) in
      grind arith

  module _ {D : Type 0} (dates : DateModel D) (day : D) (number : ℕ) (slots : List (Slot S)) (link depth : ℕ) where
    pub joins_leaf : (r : S) → r ≡ model.unit → length slots ≤ link → Joins model summed dates day number slots link depth r
    unfolding Chained
    joins_leaf r is past es leaf h = is
    joins_leaf r is past es (node a j b) h = let c = h.chained in absurd (omega arith)

    pub joins_none : (r : S) → link < length slots → depth ≡ 0 → Joins model summed dates day number slots link depth r
    unfolding Chained
    joins_none r within none es leaf h = let c = h.chained in absurd (omega arith)
    joins_none r within none es (node a j b) h = let deep = h.deep in absurd (omega arith)

    module _ (within : link < length slots) (deeper : 0 < depth) (at : Slot S) (read : at ≡ slot model slots link) where
      pub joins_left : (r : S) → ahead dates (dates.given at.date) link (Ok day) number ≡ false → Joins model summed dates day number slots at.left (depth - 1) r → Joins model summed dates day number slots link depth r
      unfolding Chained
      joins_left r test p es leaf h = let c = h.chained in absurd (omega arith)
      joins_left r test p es (node a j b) h =
          let c = h.chained in
          let deep = h.deep in
          let few = h.few in
          let first = rw (read, c.0) at p in
          let past : behind dates day number es j ≡ true = ap not (tested model summed dates slots link at read es j h.tied c.0 (Ok day) number ∙ test) in
          rw past (first es a (record { tied = h.tied; chained = c.2; deep = omega arith; few = omega arith }))

      pub joins_right : (before own_j rest r : S) → before ≡ (slot model slots at.left).joined → own_j ≡ contribution model summed (entry at) → (model.weight before + model.weight own_j + model.weight rest ≤ 4096 → r ≡ model.join (model.join before own_j) rest) → ahead dates (dates.given at.date) link (Ok day) number ≡ true → Joins model summed dates day number slots at.right (depth - 1) rest → Joins model summed dates day number slots link depth r
      unfolding Chained
      joins_right before own_j rest r joined is sum test p es leaf h = let c = h.chained in absurd (omega arith)
      joins_right before own_j rest r joined is sum test p es (node a j b) h =
          let c = h.chained in
          let deep = h.deep in
          let few = h.few in
          let tied = h.tied in
          let first = rw (read, c.0) at p in
          let past : behind dates day number es j ≡ false = ap not (tested model summed dates slots link at read es j tied c.0 (Ok day) number ∙ test) in
          let right = first es b (record { tied = tied; chained = c.3; deep = omega arith; few = omega arith }) in
          let left : before ≡ tree_join model (own model summed es) a = (rw (read, c.0) at joined) ∙ (figures_of model summed es slots (slot model slots j).left a c.2).2 in
          let told = read_entry model summed es slots link j at read c.0 tied in
          let here : own_j ≡ own model summed es j = is ∙ ap (contribution model summed) told in
          let light_a = tree_light model law (own model summed es) (own_light model law summed light es) a (omega arith) in
          let light_b = front_light es (behind dates day number es) b (omega arith) in
          let light_j = own_light model law summed light es j in
          let total = sum (omega (arith, ap model.weight left, ap model.weight right, ap model.weight here)) in
          rw past (total ∙ ap (λ x. model.join (model.join x own_j) rest) left ∙ ap (λ x. model.join (model.join (tree_join model (own model summed es) a) x) rest) here ∙ ap (model.join (model.join (tree_join model (own model summed es) a) (own model summed es j))) right)
