-- The way to a standing entry by its number.
use Rattle.std.proofs.Common.{◌≡◌, ℕ, suc, ◌+◌, ◌-◌, ◌<◌, ◌≤◌, true, false, List, ◌∷◌, ◌++◌, length, Some, None, filter, Option, sym, refl, ap, ◌∙◌, subst, arith}
use Rattle.std.specs.List.{slice_get}
use Rattle.std.proofs.iter.runs.Lists.{nth_left, nth_right}
use Rattle.std.proofs.lemmas.List.Elements.{filter-append}
use Rattle.avl.specs.Summary.{SummaryModel}
use Rattle.avl.specs.Tree.{Tree, leaf, node, inorder}
use Rattle.avl.proofs.Standings.{count_is_length}
use Rattle.machines.specs.declared.operation.Operation.{Operation}
use Rattle.slots.specs.declared.slot.Slot.{Slot}
use Rattle.slots.specs.Slots.{Entry, slot}
use Rattle.slots.specs.Chain.{Chained, standing}
use Rattle.shelf.specs.Ways.{Read, Selects}
use Rattle.slots.proofs.Chains.{figures_of, read_entry}

nth_past_front : (xs zs : List ℕ) (k before : ℕ) → before ≡ length xs → before ≤ k → slice_get (xs ++ zs) k ≡ slice_get zs (k - before)
nth_past_front xs zs k before e le =
    let back : length xs + (k - before) ≡ k = omega arith in
    subst (λ x. slice_get (xs ++ zs) x ≡ slice_get zs (k - before)) back (nth_right xs zs (k - before))

module _ {S : Type 0} (model : SummaryModel S) (slots : List (Slot S)) (link k depth : ℕ) where
  pub selects_leaf : length slots ≤ link → Selects model slots link k depth None
  unfolding Chained
  selects_leaf past summed es leaf h = refl
  selects_leaf past summed es (node a j b) h = let c = h.chained in absurd (omega arith)

  pub selects_none : (r : Option ℕ) → link < length slots → depth ≡ 0 → Selects model slots link k depth r
  unfolding Chained
  selects_none r within none summed es leaf h = let c = h.chained in absurd (omega arith)
  selects_none r within none summed es (node a j b) h = let deep = h.deep in absurd (omega arith)

  module _ (within : link < length slots) (deeper : 0 < depth) (at : Slot S) (read : at ≡ slot model slots link) (before : ℕ) (counted : before ≡ (slot model slots at.left).count) where
    -- the entries in front of the node, and whether it stands
    module _ (summed : Operation → S) (es : ℕ → Entry) (a : Tree) (j : ℕ) (b : Tree) (h : Read model summed es slots link depth (node a j b)) where
      front_length : before ≡ length (filter (standing es) (inorder a))
      unfolding Chained
      front_length =
          let c = h.chained in
          (rw (read, c.0) at counted) ∙ (figures_of model summed es slots (slot model slots j).left a c.2).1 ∙ count_is_length (standing es) a

      stands : (es j).standing ≡ at.standing
      unfolding Chained
      stands = let c = h.chained in sym (ap (λ e. e.standing) (read_entry model summed es slots link j at read c.0 h.tied))

    pub selects_left : (r : Option ℕ) → k < before → Selects model slots at.left k (depth - 1) r → Selects model slots link k depth r
    unfolding Chained
    selects_left r less p summed es leaf h = let c = h.chained in absurd (omega arith)
    selects_left r less p summed es (node a j b) h =
        let c = h.chained in
        let deep = h.deep in
        let few = h.few in
        let first = rw (read, c.0) at p in
        let long = front_length summed es a j b h in
        first summed es a (record { tied = h.tied; chained = c.2; deep = omega arith; few = omega arith })
        ∙ sym (ap (λ xs. slice_get xs k) (filter-append (standing es) (inorder a) (j ∷ inorder b)) ∙ nth_left (filter (standing es) (inorder a)) (filter (standing es) (j ∷ inorder b)) k (omega arith))

    -- the place from the node on
    onwards : (summed : Operation → S) (es : ℕ → Entry) (a : Tree) (j : ℕ) (b : Tree) (h : Read model summed es slots link depth (node a j b)) → before ≤ k → slice_get (filter (standing es) (inorder a ++ j ∷ inorder b)) k ≡ slice_get (filter (standing es) (j ∷ inorder b)) (k - before)
    onwards summed es a j b h le =
        ap (λ xs. slice_get xs k) (filter-append (standing es) (inorder a) (j ∷ inorder b))
        ∙ nth_past_front (filter (standing es) (inorder a)) (filter (standing es) (j ∷ inorder b)) k before (front_length summed es a j b h) le

    pub selects_past : (r : Option ℕ) → before ≤ k → at.standing ≡ false → Selects model slots at.right (k - before) (depth - 1) r → Selects model slots link k depth r
    unfolding Chained
    selects_past r le void p summed es leaf h = let c = h.chained in absurd (omega arith)
    selects_past r le void p summed es (node a j b) h =
        let c = h.chained in
        let deep = h.deep in
        let few = h.few in
        let first = rw (read, c.0) at p in
        let voided = stands summed es a j b h ∙ void in
        first summed es b (record { tied = h.tied; chained = c.3; deep = omega arith; few = omega arith })
        ∙ sym (onwards summed es a j b h le ∙ rw voided)

    pub selects_here : k ≡ before → at.standing ≡ true → Selects model slots link k depth (Some link)
    unfolding Chained
    selects_here e up summed es leaf h = let c = h.chained in absurd (omega arith)
    selects_here e up summed es (node a j b) h =
        let c = h.chained in
        let upright = stands summed es a j b h ∙ up in
        let zero_left : k - before ≡ 0 = omega arith in
        ap Some c.0 ∙ sym (onwards summed es a j b h (omega arith) ∙ rw (upright, zero_left))

    pub selects_after : (r : Option ℕ) → before < k → at.standing ≡ true → Selects model slots at.right (k - before - 1) (depth - 1) r → Selects model slots link k depth r
    unfolding Chained
    selects_after r less up p summed es leaf h = let c = h.chained in absurd (omega arith)
    selects_after r less up p summed es (node a j b) h =
        let c = h.chained in
        let deep = h.deep in
        let few = h.few in
        let first = rw (read, c.0) at p in
        let upright = stands summed es a j b h ∙ up in
        let one_more : k - before ≡ suc (k - before - 1) = omega arith in
        first summed es b (record { tied = h.tied; chained = c.3; deep = omega arith; few = omega arith })
        ∙ sym (onwards summed es a j b h (omega arith) ∙ rw upright (ap (slice_get (j ∷ filter (standing es) (inorder b))) one_more))
