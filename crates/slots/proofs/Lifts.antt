-- Rebalancing in slots is rebalancing of trees.
use Rattle.std.proofs.Common.{◌≡◌, ℕ, ◌+◌, ◌<◌, ◌≤◌, List, ◌∷◌, ◌++◌, length, inr, arith}
use Rattle.std.proofs.lemmas.Bool.{lt-ltb, le-ltb}
use Rattle.avl.specs.Tree.{Tree, leaf, node, inorder, levels, size, turn_left, turn_right, lift_left, lift_right, mended, balance}
use Rattle.avl.specs.Levels.{leaning}
use Rattle.avl.specs.declared.levels.Lean.{Lean}
use Rattle.avl.specs.Summary.{SummaryModel}
use Rattle.avl.proofs.Rotations.{turn_left_keeps, turn_right_keeps}
use Rattle.machines.specs.declared.operation.Operation.{Operation}
use Rattle.slots.specs.declared.slot.Parts.{Parts}
use Rattle.slots.specs.declared.slot.Slot.{Slot}
use Rattle.slots.specs.Slots.{slot, parts, Kept}
use Rattle.slots.specs.Chain.{Chained, Once, Makes}
use Rattle.slots.proofs.Lists.{in_left, in_right, once_left, once_right, once_apart}
use Rattle.slots.proofs.Chains.{figures_of, then_formed, then_tied, beside}

turn_left_size : (a : Tree) (i : ℕ) (b : Tree) → size (turn_left a i b) ≡ 1 + size a + size b
unfolding turn_left
turn_left_size a i leaf = omega arith
turn_left_size a i (node b j c) = omega arith

turn_right_size : (a : Tree) (i : ℕ) (b : Tree) → size (turn_right a i b) ≡ 1 + size a + size b
unfolding turn_right
turn_right_size leaf i b = omega arith
turn_right_size (node a i b) j c = omega arith

module _ {S : Type 0} (model : SummaryModel S) (summed : Operation → S) where
  pub lift_right_leaf : (old new : List (Slot S)) (left i right root : ℕ) → length old ≤ right → Makes model summed node old new left i right root → Makes model summed lift_right old new left i right root
  unfolding Chained lift_right
  lift_right_leaf old new left i right root past put es a leaf tied ha hb inside once few = put es a leaf tied ha hb inside once few
  lift_right_leaf old new left i right root past put es a (node b j c) tied ha hb inside once few = absurd (omega arith)

  pub lift_right_in : (old mid new : List (Slot S)) (left i right side root : ℕ) → right < length old → (up : Parts) → up ≡ parts (slot model old right) right → Kept model old mid → (slot model old up.right).level < (slot model old up.left).level → Makes model summed turn_right old mid up.left up.top up.right side → Makes model summed turn_left mid new left i side root → Makes model summed lift_right old new left i right root
  unfolding Chained lift_right Once
  lift_right_in old mid new left i right side root within up read kept inward p q es a leaf tied ha hb inside once few = absurd (omega arith)
  lift_right_in old mid new left i right side root within up read kept inward p q es a (node b j c) tied ha hb inside once few =
      let first = rw (read, hb.0) at p in
      let inwards = rw (read, hb.0) at inward in
      let long = kept.long in
      let keeps = turn_right_keeps b j c in
      let turned = turn_left_keeps a i (turn_right b j c) in
      let small = turn_right_size b j c in
      let h = first es b c tied hb.2 hb.3 hb.1 (once_right (inorder a) (i ∷ (inorder b ++ j ∷ inorder c)) once).1 (omega arith) in
      let beside_a = beside model summed es old mid side left (turn_right b j c) a kept h (λ k v w. once_apart k (inorder a) (i ∷ (inorder b ++ j ∷ inorder c)) once w (inr (rw keeps at v))) ha in
      let deep_b = (figures_of model summed es old (slot model old j).left b hb.2).0 in
      let deep_c = (figures_of model summed es old (slot model old j).right c hb.3).0 in
      let test = lt-ltb (levels c) (levels b) (omega arith) in
      let g = q es a (turn_right b j c) (then_tied model summed es old mid kept tied) beside_a h.chained (omega arith) (rw keeps once) (omega arith) in
      rw test (then_formed model summed es old mid new side root (turn_right b j c) (turn_left a i (turn_right b j c)) (λ k w. rw turned (in_right k (inorder a) (i ∷ inorder (turn_right b j c)) (inr w))) h g)

  pub lift_right_out : (old new : List (Slot S)) (left i right root : ℕ) → right < length old → (up : Parts) → up ≡ parts (slot model old right) right → (slot model old up.left).level ≤ (slot model old up.right).level → Makes model summed turn_left old new left i right root → Makes model summed lift_right old new left i right root
  unfolding Chained lift_right
  lift_right_out old new left i right root within up read outward q es a leaf tied ha hb inside once few = absurd (omega arith)
  lift_right_out old new left i right root within up read outward q es a (node b j c) tied ha hb inside once few =
      let deep_b = (figures_of model summed es old (slot model old j).left b hb.2).0 in
      let deep_c = (figures_of model summed es old (slot model old j).right c hb.3).0 in
      let outwards = rw (read, hb.0) at outward in
      let test = le-ltb (levels c) (levels b) (omega arith) in
      rw test (q es a (node b j c) tied ha hb inside once few)

  pub lift_left_leaf : (old new : List (Slot S)) (left i right root : ℕ) → length old ≤ left → Makes model summed node old new left i right root → Makes model summed lift_left old new left i right root
  unfolding Chained lift_left
  lift_left_leaf old new left i right root past put es leaf b tied ha hb inside once few = put es leaf b tied ha hb inside once few
  lift_left_leaf old new left i right root past put es (node a j b) c tied ha hc inside once few = absurd (omega arith)

  pub lift_left_in : (old mid new : List (Slot S)) (left i right side root : ℕ) → left < length old → (up : Parts) → up ≡ parts (slot model old left) left → Kept model old mid → (slot model old up.left).level < (slot model old up.right).level → Makes model summed turn_left old mid up.left up.top up.right side → Makes model summed turn_right mid new side i right root → Makes model summed lift_left old new left i right root
  unfolding Chained lift_left Once
  lift_left_in old mid new left i right side root within up read kept inward p q es leaf c tied ha hc inside once few = absurd (omega arith)
  lift_left_in old mid new left i right side root within up read kept inward p q es (node a j b) c tied ha hc inside once few =
      let first = rw (read, ha.0) at p in
      let inwards = rw (read, ha.0) at inward in
      let long = kept.long in
      let keeps = turn_left_keeps a j b in
      let turned = turn_right_keeps (turn_left a j b) i c in
      let small = turn_left_size a j b in
      let h = first es a b tied ha.2 ha.3 ha.1 (once_left (inorder a ++ j ∷ inorder b) (i ∷ inorder c) once) (omega arith) in
      let beside_c = beside model summed es old mid side right (turn_left a j b) c kept h (λ k v w. once_apart k (inorder a ++ j ∷ inorder b) (i ∷ inorder c) once (rw keeps at v) (inr w)) hc in
      let deep_a = (figures_of model summed es old (slot model old j).left a ha.2).0 in
      let deep_b = (figures_of model summed es old (slot model old j).right b ha.3).0 in
      let test = lt-ltb (levels a) (levels b) (omega arith) in
      let g = q es (turn_left a j b) c (then_tied model summed es old mid kept tied) h.chained beside_c (omega arith) (rw keeps once) (omega arith) in
      rw test (then_formed model summed es old mid new side root (turn_left a j b) (turn_right (turn_left a j b) i c) (λ k w. rw turned (in_left k (inorder (turn_left a j b)) (i ∷ inorder c) w)) h g)

  pub lift_left_out : (old new : List (Slot S)) (left i right root : ℕ) → left < length old → (up : Parts) → up ≡ parts (slot model old left) left → (slot model old up.right).level ≤ (slot model old up.left).level → Makes model summed turn_right old new left i right root → Makes model summed lift_left old new left i right root
  unfolding Chained lift_left
  lift_left_out old new left i right root within up read outward q es leaf c tied ha hc inside once few = absurd (omega arith)
  lift_left_out old new left i right root within up read outward q es (node a j b) c tied ha hc inside once few =
      let deep_a = (figures_of model summed es old (slot model old j).left a ha.2).0 in
      let deep_b = (figures_of model summed es old (slot model old j).right b ha.3).0 in
      let outwards = rw (read, ha.0) at outward in
      let test = le-ltb (levels a) (levels b) (omega arith) in
      rw test (q es (node a j b) c tied ha hc inside once few)

  -- a rebalancing, by the levels that the slots keep
  pub balance_by : (old new : List (Slot S)) (left i right root : ℕ) (lean : Lean) → lean ≡ leaning (slot model old left).level (slot model old right).level → Makes model summed (mended lean) old new left i right root → Makes model summed balance old new left i right root
  unfolding balance
  balance_by old new left i right root lean leans made es a b tied ha hb inside once few =
      let here = rw ((figures_of model summed es old left a ha).0, (figures_of model summed es old right b hb).0) at leans in
      rw (← here) (made es a b tied ha hb inside once few)
