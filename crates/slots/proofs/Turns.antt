-- A turn in slots is a turn of trees.
use Rattle.std.proofs.Common.{◌≡◌, ℕ, ◌<◌, ◌≤◌, List, ◌∷◌, ◌++◌, length, inr, append_assoc, arith}
use Rattle.avl.specs.Tree.{leaf, node, inorder, turn_left, turn_right}
use Rattle.avl.specs.Summary.{SummaryModel}
use Rattle.machines.specs.declared.operation.Operation.{Operation}
use Rattle.slots.specs.declared.slot.Parts.{Parts}
use Rattle.slots.specs.declared.slot.Slot.{Slot}
use Rattle.slots.specs.Slots.{slot, parts, Kept}
use Rattle.slots.specs.Chain.{Chained, Once, Makes}
use Rattle.slots.proofs.Lists.{in_left, in_right, once_left, once_right, once_apart}
use Rattle.slots.proofs.Chains.{then_formed, then_tied, beside}

module _ {S : Type 0} (model : SummaryModel S) (summed : Operation → S) where
  pub turn_left_leaf : (old new : List (Slot S)) (left i right root : ℕ) → length old ≤ right → Makes model summed node old new left i right root → Makes model summed turn_left old new left i right root
  unfolding Chained turn_left
  turn_left_leaf old new left i right root past put es a leaf tied ha hb inside once few = put es a leaf tied ha hb inside once few
  turn_left_leaf old new left i right root past put es a (node b j c) tied ha hb inside once few = absurd (omega arith)

  pub turn_left_node : (old mid new : List (Slot S)) (left i right low root : ℕ) → right < length old → (up : Parts) → up ≡ parts (slot model old right) right → Kept model old mid → Makes model summed node old mid left i up.left low → Makes model summed node mid new low up.top up.right root → Makes model summed turn_left old new left i right root
  unfolding Chained turn_left
  turn_left_node old mid new left i right low root within up read kept p q es a leaf tied ha hb inside once few = absurd (omega arith)
  turn_left_node old mid new left i right low root within up read kept p q es a (node b j c) tied ha hb inside once few =
      let first = rw (read, hb.0) at p in
      let second = rw (read, hb.0) at q in
      let long = kept.long in
      let whole : Once ((inorder a ++ i ∷ inorder b) ++ j ∷ inorder c) = rw append_assoc once in
      let h = first es a b tied ha hb.2 inside (once_left (inorder a ++ i ∷ inorder b) (j ∷ inorder c) whole) (omega arith) in
      let hc = beside model summed es old mid low (slot model old j).right (node a i b) c kept h (λ k v w. once_apart k (inorder a ++ i ∷ inorder b) (j ∷ inorder c) whole v (inr w)) hb.3 in
      then_formed model summed es old mid new low root (node a i b) (node (node a i b) j c) (λ k. in_left k (inorder a ++ i ∷ inorder b) (j ∷ inorder c)) h
      (second es (node a i b) c (then_tied model summed es old mid kept tied) h.chained hc (omega arith) whole (omega arith))

  pub turn_right_leaf : (old new : List (Slot S)) (left i right root : ℕ) → length old ≤ left → Makes model summed node old new left i right root → Makes model summed turn_right old new left i right root
  unfolding Chained turn_right
  turn_right_leaf old new left i right root past put es leaf b tied ha hb inside once few = put es leaf b tied ha hb inside once few
  turn_right_leaf old new left i right root past put es (node a j b) c tied ha hc inside once few = absurd (omega arith)

  pub turn_right_node : (old mid new : List (Slot S)) (left i right low root : ℕ) → left < length old → (up : Parts) → up ≡ parts (slot model old left) left → Kept model old mid → Makes model summed node old mid up.right i right low → Makes model summed node mid new up.left up.top low root → Makes model summed turn_right old new left i right root
  unfolding Chained turn_right Once
  turn_right_node old mid new left i right low root within up read kept p q es leaf c tied ha hc inside once few = absurd (omega arith)
  turn_right_node old mid new left i right low root within up read kept p q es (node a j b) c tied ha hc inside once few =
      let first = rw (read, ha.0) at p in
      let second = rw (read, ha.0) at q in
      let long = kept.long in
      let whole : Once (inorder a ++ j ∷ (inorder b ++ i ∷ inorder c)) = rw append_assoc at once in
      let h = first es b c tied ha.3 hc inside (once_right (inorder a) (j ∷ (inorder b ++ i ∷ inorder c)) whole).1 (omega arith) in
      let hl = beside model summed es old mid low (slot model old j).left (node b i c) a kept h (λ k v w. once_apart k (inorder a) (j ∷ (inorder b ++ i ∷ inorder c)) whole w (inr v)) ha.2 in
      then_formed model summed es old mid new low root (node b i c) (node a j (node b i c)) (λ k w. in_right k (inorder a) (j ∷ (inorder b ++ i ∷ inorder c)) (inr w)) h
      (second es a (node b i c) (then_tied model summed es old mid kept tied) hl h.chained (omega arith) whole (omega arith))
