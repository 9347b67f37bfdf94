-- Figures are put right on the way to a slot.
use Rattle.std.proofs.Common.{◌≡◌, ℕ, ◌-◌, ◌<◌, ◌≤◌, true, false, List, ◌∷◌, ◌++◌, length, Ok, sym, ap, ◌∙◌, subst, inl, inr, ⊎_elim, arith}
use mathlib.Core.Bool.{false≢true}
use Rattle.avl.specs.Book.{In, Before}
use Rattle.avl.specs.Tree.{Tree, leaf, node, inorder}
use Rattle.avl.specs.Summary.{SummaryModel}
use Rattle.avl.proofs.Ways.{in_cut, test_holds, test_fails, left_before, right_after}
use Rattle.dates.specs.Model.{DateModel, Lawful}
use Rattle.machines.specs.declared.operation.Operation.{Operation}
use Rattle.slots.specs.declared.slot.Parts.{Parts}
use Rattle.slots.specs.declared.slot.Slot.{Slot}
use Rattle.slots.specs.Slots.{Entry, slot, parts, Kept}
use Rattle.shelf.specs.Dating.{sooner, dating, ahead}
use Rattle.slots.specs.Chain.{Chained, Once, Formed, Tied, Makes}
use Rattle.shelf.specs.Ways.{Refreshes}
use Rattle.slots.proofs.Lists.{in_left, in_right, once_right, once_apart, sorted_once, sorted_left, sorted_right}
use Rattle.slots.proofs.Chains.{then_formed, then_tied, beside, rechain}
use Rattle.shelf.proofs.Datings.{by_dating, tested}

module _ {S D : Type 0} (model : SummaryModel S) (summed : Operation → S) (dates : DateModel D) (law : Lawful dates) (day : D) (old : List (Slot S)) (link i depth : ℕ) where
  pub refresh_leaf : length old ≤ link → Refreshes model summed dates day old old link i depth
  unfolding Chained
  refresh_leaf past es changed leaf tied h same dated sorted within deep few = absurd within
  refresh_leaf past es changed (node a j b) tied h same dated sorted within deep few = absurd (omega arith)

  pub refresh_none : link < length old → depth ≡ 0 → Refreshes model summed dates day old old link i depth
  unfolding Chained
  refresh_none inside none es changed leaf tied h same dated sorted within deep few = absurd (omega arith)
  refresh_none inside none es changed (node a j b) tied h same dated sorted within deep few = absurd (omega arith)

  -- the entries of a side that i is not in are the same
  aside : (es changed : ℕ → Entry) (slots : List (Slot S)) (side : ℕ) (t : Tree) → ((k : ℕ) → (k ≡ i → ⊥) → es k ≡ changed k) → (In i (inorder t) → ⊥) → Chained model summed es slots side t → Chained model summed changed slots side t
  aside es changed slots side t same out =
      rechain model summed es changed slots side t
      (λ k w. (ap (λ e. e.standing) (same k (λ e. out (subst (λ k. In k (inorder t)) e w))), ap (λ e. e.operation) (same k (λ e. out (subst (λ k. In k (inorder t)) e w)))))

  module _ (new : List (Slot S)) (root : ℕ) (inside : link < length old) (at : Slot S) (read : at ≡ slot model old link) (up : Parts) (is : up ≡ parts at link) where
    -- the root stays
    stays : (es : ℕ → Entry) (was : List (Slot S)) (a : Tree) (j : ℕ) (b : Tree) → link ≡ j → Formed model summed es was new root (node a j b) → Formed model summed es was new link (node a j b)
    unfolding Chained
    stays es was a j b e h = subst (λ r. Formed model summed es was new r (node a j b)) (h.chained.0 ∙ sym e) h

    pub refresh_here : link ≡ i → Makes model summed node old new up.left up.top up.right root → Refreshes model summed dates day old new link i depth
    unfolding Chained Once
    refresh_here found p es changed leaf tied h same dated sorted within deep few = absurd (omega arith)
    refresh_here found p es changed (node a j b) tied h same dated sorted within deep few =
        let first = rw (is, read, h.0) at p in
        let once = sorted_once (by_dating dates law) (dating dates changed) (inorder a ++ j ∷ inorder b) sorted in
        let here : i ≡ j = sym found ∙ h.0 in
        let ha = aside es changed old (slot model old j).left a same (λ w. once_apart i (inorder a) (j ∷ inorder b) once w (inl here)) h.2 in
        let hb = aside es changed old (slot model old j).right b same (λ w. (once_right (inorder a) (j ∷ inorder b) once).0 (subst (λ k. In k (inorder b)) here w)) h.3 in
        stays changed old a j b h.0 (first changed a b tied ha hb h.1 once (omega arith))

    -- the test, in the words of book order
    tested_order : (es : ℕ → Entry) (j : ℕ) → Tied model summed es old → link ≡ j → dating dates es i ≡ Ok day → ahead dates (dating dates es j) j (dating dates es i) i ≡ ahead dates (dates.given at.date) link (Ok day) i
    tested_order es j tied e dated = ap (λ x. ahead dates (dating dates es j) j x i) dated ∙ tested model summed dates old link at read es j tied e (Ok day) i

    module _ (mid : List (Slot S)) (kept : Kept model old mid) (deeper : 0 < depth) (other : link ≡ i → ⊥) where
      pub refresh_right : ahead dates (dates.given at.date) link (Ok day) i ≡ true → Refreshes model summed dates day old mid up.right i (depth - 1) → Makes model summed node mid new up.left up.top up.right root → Refreshes model summed dates day old new link i depth
      unfolding Chained Once
      refresh_right test p q es changed leaf tied h same dated sorted within deep few = absurd (omega arith)
      refresh_right test p q es changed (node a j b) tied h same dated sorted within deep few =
          let first = rw (is, read, h.0) at p in
          let long = kept.long in
          let second = rw (is, read, h.0) at q in
          let once = sorted_once (by_dating dates law) (dating dates changed) (inorder a ++ j ∷ inorder b) sorted in
          let found : In i (inorder b) =
          ⊎_elim (λ e. absurd (other (h.0 ∙ sym e)))
          (⊎_elim
          (λ w. absurd (false≢true (sym (test_fails (by_dating dates law) (dating dates changed) j i (left_before (Before (sooner dates) (dating dates changed)) i (inorder a) j (inorder b) sorted w)) ∙ tested_order changed j tied h.0 dated ∙ test)))
          (λ w. w))
          (in_cut i (inorder a) j (inorder b) within) in
          let x = first es changed b tied h.3 same dated (sorted_right (Before (sooner dates) (dating dates changed)) (inorder a) (j ∷ inorder b) sorted).1 found (omega arith) (omega arith) in
          let ha = aside es changed old (slot model old j).left a same (λ w. once_apart i (inorder a) (j ∷ inorder b) once w (inr found)) h.2 in
          let beside_a = beside model summed changed old mid (slot model old j).right (slot model old j).left b a kept x (λ k v w. once_apart k (inorder a) (j ∷ inorder b) once w (inr v)) ha in
          let g = second changed a b (then_tied model summed changed old mid kept tied) beside_a x.chained (omega arith) once (omega arith) in
          then_formed model summed changed old mid new (slot model old j).right link b (node a j b) (λ k w. in_right k (inorder a) (j ∷ inorder b) (inr w)) x (stays changed mid a j b h.0 g)

      pub refresh_left : ahead dates (dates.given at.date) link (Ok day) i ≡ false → Refreshes model summed dates day old mid up.left i (depth - 1) → Makes model summed node mid new up.left up.top up.right root → Refreshes model summed dates day old new link i depth
      unfolding Chained Once
      refresh_left test p q es changed leaf tied h same dated sorted within deep few = absurd (omega arith)
      refresh_left test p q es changed (node a j b) tied h same dated sorted within deep few =
          let first = rw (is, read, h.0) at p in
          let long = kept.long in
          let second = rw (is, read, h.0) at q in
          let once = sorted_once (by_dating dates law) (dating dates changed) (inorder a ++ j ∷ inorder b) sorted in
          let found : In i (inorder a) =
          ⊎_elim (λ e. absurd (other (h.0 ∙ sym e)))
          (⊎_elim
          (λ w. w)
          (λ w. absurd (false≢true (sym (tested_order changed j tied h.0 dated ∙ test) ∙ test_holds (by_dating dates law) (dating dates changed) j i (right_after (Before (sooner dates) (dating dates changed)) i (inorder a) j (inorder b) sorted w)))))
          (in_cut i (inorder a) j (inorder b) within) in
          let x = first es changed a tied h.2 same dated (sorted_left (Before (sooner dates) (dating dates changed)) (inorder a) (j ∷ inorder b) sorted) found (omega arith) (omega arith) in
          let hb = aside es changed old (slot model old j).right b same (λ w. once_apart i (inorder a) (j ∷ inorder b) once found (inr w)) h.3 in
          let beside_b = beside model summed changed old mid (slot model old j).left (slot model old j).right a b kept x (λ k v w. once_apart k (inorder a) (j ∷ inorder b) once v (inr w)) hb in
          let g = second changed a b (then_tied model summed changed old mid kept tied) x.chained beside_b (omega arith) once (omega arith) in
          then_formed model summed changed old mid new (slot model old j).left link a (node a j b) (λ k w. in_left k (inorder a) (j ∷ inorder b) w) x (stays changed mid a j b h.0 g)
