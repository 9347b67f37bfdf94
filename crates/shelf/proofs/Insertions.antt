-- An insertion into slots is an insertion into the tree.
use Rattle.std.proofs.Common.{◌≡◌, ℕ, ◌+◌, ◌-◌, ◌<◌, ◌≤◌, Bool, true, false, not, List, [], ◌∷◌, ◌++◌, length, Ok, refl, ap, ◌∙◌, inr, append_assoc, arith, length-append}
use Rattle.std.proofs.lemmas.Bool.{cond_both}
use Rattle.avl.specs.Tree.{Tree, leaf, node, inorder, size, balance, insert_by}
use Rattle.avl.specs.Summary.{SummaryModel}
use Rattle.avl.proofs.Rotations.{balance_keeps}
use Rattle.avl.proofs.Balances.{insert_balances}
use Rattle.avl.proofs.Depths.{size_is_length}
use Rattle.dates.specs.Model.{DateModel, Lawful}
use Rattle.machines.specs.declared.operation.Operation.{Operation}
use Rattle.slots.specs.declared.slot.Parts.{Parts}
use Rattle.slots.specs.declared.slot.Slot.{Slot}
use Rattle.slots.specs.Slots.{slot, parts, Kept}
use Rattle.shelf.specs.Dating.{dating, ahead, dated_past}
use Rattle.slots.specs.Chain.{Chained, Once, Makes}
use Rattle.shelf.specs.Ways.{Inserts}
use Rattle.slots.proofs.Lists.{in_left, in_right, once_left, once_right, once_apart, once_move}
use Rattle.slots.proofs.Chains.{then_formed, then_tied, beside}
use Rattle.shelf.proofs.Datings.{past_last, tested}

-- where the new slot went
record Split (n : ℕ) (old new : List ℕ) : Type 0 where
  front : List ℕ
  back : List ℕ
  was : old ≡ front ++ back
  is : new ≡ front ++ n ∷ back

insert_splits : (before : ℕ → Bool) (n : ℕ) (t : Tree) → Split n (inorder t) (inorder (insert_by before n t))
unfolding insert_by
insert_splits before n leaf = record { front = []; back = []; was = refl; is = refl }
insert_splits before n (node a i b) =
    cond_both (before i) _ _ (λ t. Split n (inorder a ++ i ∷ inorder b) (inorder t))
    (λ _.
    let s = insert_splits before n a in
    record {
      front = s.front;
      back = s.back ++ i ∷ inorder b;
      was = rw (s.was, append_assoc);
      is = rw (balance_keeps, s.is, append_assoc);
    })
    (λ _.
    let s = insert_splits before n b in
    record {
      front = inorder a ++ i ∷ s.front;
      back = s.back;
      was = rw (s.was, append_assoc);
      is = rw (balance_keeps, s.is, append_assoc);
    })

insert_size : (before : ℕ → Bool) (n : ℕ) (t : Tree) → size (insert_by before n t) ≡ size t + 1
insert_size before n t =
    let s = insert_splits before n t in
    let was = size_is_length t in
    let is = size_is_length (insert_by before n t) in
    omega (arith, simp length-append at (ap length s.was), simp length-append at (ap length s.is))

module _ {S D : Type 0} (model : SummaryModel S) (summed : Operation → S) (dates : DateModel D) (law : Lawful dates) (day : D) (old : List (Slot S)) (link n depth : ℕ) where
  pub insert_leaf : (new : List (Slot S)) (root : ℕ) → length old ≤ link → Makes model summed node old new link n link root → Inserts model summed (dated_past dates day) old new link n depth root
  unfolding Chained Once insert_by
  insert_leaf new root past put es leaf tied h room once bal low few = put es leaf leaf tied h h room once (omega arith)
  insert_leaf new root past put es (node a i b) tied h room once bal low few = absurd (omega arith)

  pub insert_none : link < length old → depth ≡ 0 → Inserts model summed (dated_past dates day) old old link n depth link
  unfolding Chained
  insert_none within none es leaf tied h room once bal low few = absurd (omega arith)
  insert_none within none es (node a i b) tied h room once bal low few = absurd (omega arith)

  module _ (mid new : List (Slot S)) (side root : ℕ) (within : link < length old) (small : link < 65536) (deep : 0 < depth) (at : Slot S) (read : at ≡ slot model old link) (up : Parts) (is : up ≡ parts at link) (kept : Kept model old mid) where
    pub insert_left : ahead dates (dates.given at.date) link (Ok day) 65536 ≡ false → Inserts model summed (dated_past dates day) old mid up.left n (depth - 1) side → Makes model summed balance mid new side up.top up.right root → Inserts model summed (dated_past dates day) old new link n depth root
    unfolding Chained Once insert_by
    insert_left later p q es leaf tied h room once bal low few = absurd (omega arith)
    insert_left later p q es (node a i b) tied h room once bal low few =
        let before = dated_past dates day es in
        let long = kept.long in
        let first = rw (is, read, h.0) at p in
        let second = rw (is, read, h.0) at q in
        let test : before i ≡ true = past_last dates law day (dating dates es i) i (omega arith) ∙ ap not (tested model summed dates old link at read es i tied h.0 (Ok day) 65536 ∙ later) in
        let s = insert_splits before n a in
        let grown = insert_balances before n a bal.0 in
        let one_more = insert_size before n a in
        let x = first es a tied h.2 room (λ w. once.0 (in_left n (inorder a) (i ∷ inorder b) w), once_left (inorder a) (i ∷ inorder b) once.1) bal.0 (omega arith) (omega arith) in
        let whole : Once (n ∷ (s.front ++ (s.back ++ i ∷ inorder b))) = rw (s.was, append_assoc) at once in
        let apart : Once (inorder (insert_by before n a) ++ i ∷ inorder b) = rw (s.is, append_assoc) (once_move n s.front (s.back ++ i ∷ inorder b) whole) in
        let hb = beside model summed es old mid side (slot model old i).right (insert_by before n a) b kept x (λ k v w. once_apart k (inorder (insert_by before n a)) (i ∷ inorder b) apart v (inr w)) h.3 in
        let g = second es (insert_by before n a) b (then_tied model summed es old mid kept tied) x.chained hb (omega arith) apart (omega arith) in
        rw test (then_formed model summed es old mid new side root (insert_by before n a) (balance (insert_by before n a) i b) (λ k w. rw balance_keeps (in_left k (inorder (insert_by before n a)) (i ∷ inorder b) w)) x g)

    pub insert_right : ahead dates (dates.given at.date) link (Ok day) 65536 ≡ true → Inserts model summed (dated_past dates day) old mid up.right n (depth - 1) side → Makes model summed balance mid new up.left up.top side root → Inserts model summed (dated_past dates day) old new link n depth root
    unfolding Chained Once insert_by
    insert_right earlier p q es leaf tied h room once bal low few = absurd (omega arith)
    insert_right earlier p q es (node a i b) tied h room once bal low few =
        let before = dated_past dates day es in
        let long = kept.long in
        let first = rw (is, read, h.0) at p in
        let second = rw (is, read, h.0) at q in
        let test : before i ≡ false = past_last dates law day (dating dates es i) i (omega arith) ∙ ap not (tested model summed dates old link at read es i tied h.0 (Ok day) 65536 ∙ earlier) in
        let s = insert_splits before n b in
        let grown = insert_balances before n b bal.1 in
        let one_more = insert_size before n b in
        let x = first es b tied h.3 room (λ w. once.0 (in_right n (inorder a) (i ∷ inorder b) (inr w)), (once_right (inorder a) (i ∷ inorder b) once.1).1) bal.1 (omega arith) (omega arith) in
        let whole : Once (n ∷ ((inorder a ++ i ∷ s.front) ++ s.back)) = rw append_assoc (rw s.was at once) in
        let apart : Once (inorder a ++ i ∷ inorder (insert_by before n b)) = rw s.is (rw append_assoc at (once_move n (inorder a ++ i ∷ s.front) s.back whole)) in
        let ha = beside model summed es old mid side (slot model old i).left (insert_by before n b) a kept x (λ k v w. once_apart k (inorder a) (i ∷ inorder (insert_by before n b)) apart w (inr v)) h.2 in
        let g = second es a (insert_by before n b) (then_tied model summed es old mid kept tied) ha x.chained (omega arith) apart (omega arith) in
        rw test (then_formed model summed es old mid new side root (insert_by before n b) (balance a i (insert_by before n b)) (λ k w. rw balance_keeps (in_right k (inorder a) (i ∷ inorder (insert_by before n b)) (inr w))) x g)
