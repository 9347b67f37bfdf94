-- What trees that are chained through slots keep as slots are written.
use Rattle.std.proofs.Common.{◌≡◌, ℕ, ◌+◌, ◌<◌, max, List, ◌∷◌, ◌++◌, length, set, refl, ap, ◌∙◌, inl, inr, ⊎_elim, arith, length-set}
use Rattle.std.proofs.lemmas.List.{get_or_past, get_or-set_same, get_or-set_other}
use Rattle.avl.specs.Book.{In}
use Rattle.avl.specs.Tree.{Tree, leaf, node, inorder, levels}
use Rattle.avl.specs.Standing.{tree_count}
use Rattle.avl.specs.Summary.{SummaryModel, tree_join}
use Rattle.machines.specs.declared.operation.Operation.{Operation}
use Rattle.slots.specs.declared.slot.Slot.{Slot}
use Rattle.slots.specs.Slots.{Entry, blank, slot, entry, entries, placement, Kept}
use Rattle.slots.specs.Chain.{Chained, Once, Formed, Tied, standing, own}
use Rattle.slots.proofs.Measures.{count_local, join_local}
use Rattle.slots.proofs.Lists.{in_left, in_right, in_either, once_right, once_apart}

pub all_kept : {S : Type 0} (model : SummaryModel S) (slots : List (Slot S)) → Kept model slots slots
all_kept model slots = record { same = λ k. refl; long = refl }

pub then_kept : {S : Type 0} (model : SummaryModel S) (old mid new : List (Slot S)) → Kept model old mid → Kept model mid new → Kept model old new
then_kept model old mid new first second = record { same = λ k. second.same k ∙ first.same k; long = second.long ∙ first.long }

module _ {S : Type 0} (model : SummaryModel S) (summed : Operation → S) (es : ℕ → Entry) where
  -- the slot at a link has the figures of the tree there
  pub figures_of : (slots : List (Slot S)) (link : ℕ) (t : Tree) → Chained model summed es slots link t → ((slot model slots link).level ≡ levels t) × ((slot model slots link).count ≡ tree_count (standing es) t) × ((slot model slots link).joined ≡ tree_join model (own model summed es) t)
  unfolding Chained
  figures_of slots link leaf h = rw (get_or_past slots link (blank model) h) (refl, refl, refl)
  figures_of slots link (node a i b) h = rw h.0 (h.4, h.5, h.6)

  -- slots whose placements are those of the tree hold the tree
  pub frame : (old new : List (Slot S)) (link : ℕ) (t : Tree) → length new ≡ length old → ((k : ℕ) → In k (inorder t) → placement (slot model new k) ≡ placement (slot model old k)) → Chained model summed es old link t → Chained model summed es new link t
  unfolding Chained
  frame old new link leaf long same h = omega arith
  frame old new link (node a i b) long same h =
      let here = same i (in_right i (inorder a) (i ∷ inorder b) (inl refl)) in
      let l : (slot model new i).left ≡ (slot model old i).left = ap (λ k. k.left) here in
      let r : (slot model new i).right ≡ (slot model old i).right = ap (λ k. k.right) here in
      let left = frame old new (slot model old i).left a long (λ k w. same k (in_left k (inorder a) (i ∷ inorder b) w)) h.2 in
      let right = frame old new (slot model old i).right b long (λ k w. same k (in_right k (inorder a) (i ∷ inorder b) (inr w))) h.3 in
      (h.0, omega arith, rw l left, rw r right, ap (λ k. k.level) here ∙ h.4, ap (λ k. k.count) here ∙ h.5, ap (λ k. k.joined) here ∙ h.6)

  -- one write makes a node
  pub put_forms : (old : List (Slot S)) (v : Slot S) (i : ℕ) (a b : Tree) → i < length old → v.level ≡ 1 + max (levels a) (levels b) → v.count ≡ tree_count (standing es) (node a i b) → v.joined ≡ tree_join model (own model summed es) (node a i b) → Chained model summed es old v.left a → Chained model summed es old v.right b → Once (inorder a ++ i ∷ inorder b) → Formed model summed es old (set old i v) i (node a i b)
  unfolding Chained Once
  put_forms old v i a b within deep counts joins ha hb once =
      let long = length-set old i v in
      let here : slot model (set old i v) i ≡ v = get_or-set_same old i v _ within in
      let other : (k : ℕ) → (k ≡ i → ⊥) → slot model (set old i v) k ≡ slot model old k = λ k ne. get_or-set_other old i k v _ ne in
      let left = frame old (set old i v) v.left a long (λ k w. ap placement (other k (λ e. once_apart k (inorder a) (i ∷ inorder b) once w (inl e)))) ha in
      let right = frame old (set old i v) v.right b long (λ k w. ap placement (other k (λ e. (once_right (inorder a) (i ∷ inorder b) once).0 (rw e at w)))) hb in
      record {
        chained = (refl, omega arith, rw here left, rw here right, ap (λ s. s.level) here ∙ deep, ap (λ s. s.count) here ∙ counts, ap (λ s. s.joined) here ∙ joins);
        others = λ k out. other k (λ e. out (in_right k (inorder a) (i ∷ inorder b) (inl e)));
      }

  -- what is formed after two makings, the second of a tree that takes in the first
  pub then_formed : (old mid new : List (Slot S)) (low root : ℕ) (s t : Tree) → ((k : ℕ) → In k (inorder s) → In k (inorder t)) → Formed model summed es old mid low s → Formed model summed es mid new root t → Formed model summed es old new root t
  then_formed old mid new low root s t within h k = record { chained = k.chained; others = λ j out. k.others j out ∙ h.others j (λ w. out (within j w)) }

  pub then_tied : (old mid : List (Slot S)) → Kept model old mid → Tied model summed es old → Tied model summed es mid
  then_tied old mid kept tied k = kept.same k ∙ tied k

  -- a tree that shares no slot with what was made
  pub beside : (old mid : List (Slot S)) (low link : ℕ) (s t : Tree) → Kept model old mid → Formed model summed es old mid low s → ((k : ℕ) → In k (inorder s) → In k (inorder t) → ⊥) → Chained model summed es old link t → Chained model summed es mid link t
  beside old mid low link s t kept h apart c = frame old mid link t kept.long (λ k w. ap placement (h.others k (λ v. apart k v w))) c

  -- the entry of the slot that a link leads to
  pub read_entry : (slots : List (Slot S)) (link j : ℕ) (at : Slot S) → at ≡ slot model slots link → link ≡ j → Tied model summed es slots → entry at ≡ es j
  read_entry slots link j at read e tied = ap entry read ∙ ap (entries model slots) e ∙ tied j

module _ {S : Type 0} (model : SummaryModel S) (summed : Operation → S) where
  -- the figures go only by the entries in the tree
  pub rechain : (es changed : ℕ → Entry) (slots : List (Slot S)) (link : ℕ) (t : Tree) → ((k : ℕ) → In k (inorder t) → ((es k).standing ≡ (changed k).standing) × ((es k).operation ≡ (changed k).operation)) → Chained model summed es slots link t → Chained model summed changed slots link t
  unfolding Chained
  rechain es changed slots link leaf same h = h
  rechain es changed slots link (node a i b) same h = (
    h.0,
    h.1,
    rechain es changed slots (slot model slots i).left a (λ k w. same k (in_left k (inorder a) (i ∷ inorder b) w)) h.2,
    rechain es changed slots (slot model slots i).right b (λ k w. same k (in_right k (inorder a) (i ∷ inorder b) (inr w))) h.3,
    h.4,
    h.5 ∙ count_local (standing es) (standing changed) (node a i b) (λ k w. (same k w).0),
    h.6 ∙ join_local model (own model summed es) (own model summed changed) (node a i b) (λ k w. let p = (same k w).0 in let q = (same k w).1 in cc),
  )

  pub chained_within : (es : ℕ → Entry) (slots : List (Slot S)) (link : ℕ) (t : Tree) (k : ℕ) → Chained model summed es slots link t → In k (inorder t) → k < length slots
  unfolding Chained
  chained_within es slots link leaf k h w = absurd w
  chained_within es slots link (node a i b) k h w =
      ⊎_elim (chained_within es slots (slot model slots i).left a k h.2)
      (⊎_elim (λ e. omega arith) (chained_within es slots (slot model slots i).right b k h.3))
      (in_either k (inorder a) (i ∷ inorder b) w)
