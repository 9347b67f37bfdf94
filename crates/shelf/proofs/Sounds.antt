-- A shelf stays sound.
use Rattle.std.proofs.Common.{◌≡◌, ℕ, suc, ◌+◌, ◌<◌, ◌≤◌, false, List, ◌∷◌, length, set, Ok, sym, refl, ap, ◌∙◌, subst, ⊎_elim, add-one, arith, length-set}
use Rattle.std.proofs.lemmas.List.{get_or-set_same, get_or-set_other}
use Rattle.std.proofs.lemmas.Bool.{cases_eq}
use Rattle.std.proofs.lemmas.Bool.Decides.{nat_tests}
use Rattle.avl.specs.Book.{In, Sorted, Before, IsInBookOrder}
use Rattle.avl.specs.Tree.{Tree, leaf, inorder, levels, size, Balanced, insert_by}
use Rattle.avl.specs.Summary.{SummaryModel}
use Rattle.avl.proofs.Balances.{insert_balances}
use Rattle.avl.proofs.BookTrees.{insert_keeps_book, length_order}
use Rattle.avl.proofs.Depths.{size_is_length, small_is_shallow}
use Rattle.avl.proofs.Orders.{order_holds, order_is_one, order_same, order_sorted, order_stands}
use Rattle.dates.specs.Model.{DateModel, Lawful}
use Rattle.machines.specs.declared.operation.Operation.{Operation}
use Rattle.slots.specs.declared.slot.Slot.{Slot}
use Rattle.slots.specs.Slots.{Entry, blank, slot, entry, entries, placement, Kept}
use Rattle.shelf.specs.Dating.{sooner, dating, dated_past, ordered}
use Rattle.slots.specs.Chain.{Chained, Once, Formed, Tied}
use Rattle.shelf.specs.Ways.{Inserts, Refreshes}
use Rattle.shelf.specs.Sound.{Dated, Sound}
use Rattle.shelf.specs.Changes.{Entered, Settled, has_room}
use Rattle.slots.proofs.Chains.{frame, rechain, chained_within}
use Rattle.shelf.proofs.Datings.{by_dating, order_once}

pub room : {S : Type 0} (model : SummaryModel S) (slots : List (Slot S)) (n : ℕ) → n < 1024 → n < length slots → has_room model slots n ≡ false → ⊥
room model slots n few within full = grind (arith, nat_tests)

-- one slot is written, and after that all keep their entries
pub entered_after : {S : Type 0} (model : SummaryModel S) (old : List (Slot S)) (i : ℕ) (v : Slot S) (new : List (Slot S)) → i < length old → Kept model (set old i v) new → Entered model old new i (entry v)
entered_after model old i v new within kept = record {
  here = kept.same i ∙ ap entry (get_or-set_same old i v (blank model) within);
  others = λ k ne. kept.same k ∙ ap entry (get_or-set_other old i k v (blank model) ne);
  long = kept.long ∙ length-set old i v;
}

module _ {S : Type 0} (model : SummaryModel S) (summed : Operation → S) where
  module _ {D : Type 0} (dates : DateModel D) where
    -- what was made of a sound tree's slots is sound
    settled : Lawful dates → (es : ℕ → Entry) (mid new : List (Slot S)) (root n : ℕ) (t : Tree) → Kept model mid new → Tied model summed es mid → Formed model summed es mid new root t → Balanced t → inorder t ≡ ordered dates es n → n ≤ 1024 → ((i : ℕ) → i < n → Dated dates es i) → Sound dates model summed new root n
    settled law es mid new root n t kept tied h bal order few dated =
        let same : es ≡ entries model new = λ j k. sym (kept.same k ∙ tied k) j in
        record {
          tree = t;
          chained = subst (λ es. Chained model summed es new root t) same h.chained;
          balanced = bal;
          order = subst (λ es. IsInBookOrder (sooner dates) (dating dates es) n (inorder t)) same (subst (IsInBookOrder (sooner dates) (dating dates es) n) (sym order) (order_stands (by_dating dates law) (dating dates es) n));
          few = few;
          dated = subst (λ es. (i : ℕ) → i < n → Dated dates es i) same dated;
        }

    pub nothing_sound : Lawful dates → (slots : List (Slot S)) (root : ℕ) → length slots ≤ root → Sound dates model summed slots root 0
    unfolding Chained
    nothing_sound law slots root past = record { tree = leaf; chained = past; balanced = tt; order = order_stands (by_dating dates law) (dating dates (entries model slots)) 0; few = omega arith; dated = λ i lt. absurd (omega arith) }

    module _ (law : Lawful dates) (old : List (Slot S)) (root n : ℕ) (sound : Sound dates model summed old root n) where
      -- no other list than book order is in book order
      pub in_order : inorder sound.tree ≡ ordered dates (entries model old) n
      in_order = order_is_one (by_dating dates law) (dating dates (entries model old)) n (inorder sound.tree) sound.order

      pub below : (k : ℕ) → In k (inorder sound.tree) → k < n
      below k w = (sound.order.holds k).0 w

      pub among : (k : ℕ) → k < n → In k (inorder sound.tree)
      among k lt = (sound.order.holds k).1 lt

      pub inside : (k : ℕ) → k < n → k < length old
      inside k lt = chained_within model summed (entries model old) old root sound.tree k sound.chained (among k lt)

      pub sized : size sound.tree ≡ n
      sized = size_is_length sound.tree ∙ ap length in_order ∙ length_order (by_dating dates law) (dating dates (entries model old)) n

      pub shallow : levels sound.tree ≤ 14
      shallow = let s = sized in let f = sound.few in small_is_shallow sound.tree sound.balanced (omega arith)

      -- one more entry is written into slot n, and taken in
      module _ (v : Slot S) (day : D) (new : List (Slot S)) (r : ℕ) (few : n < 1024) (within : n < length old) (told : dates.given v.date ≡ Ok day) (kept : Kept model (set old n v) new) (inserts : Inserts model summed (dated_past dates day) (set old n v) new root n 14 r) where
        abbrev mid : List (Slot S)
        mid = set old n v

        abbrev es : ℕ → Entry
        es = entries model mid

        here : slot model mid n ≡ v
        here = get_or-set_same old n v _ within

        other : (k : ℕ) → (k ≡ n → ⊥) → slot model mid k ≡ slot model old k
        other k ne = get_or-set_other old n k v _ ne

        early : (k : ℕ) → k < n → slot model mid k ≡ slot model old k
        early k lt = other k (λ e. omega arith)

        chained : Chained model summed es mid root sound.tree
        chained =
            rechain model summed (entries model old) es mid root sound.tree
            (λ k w. (ap (λ s. s.standing) (sym (early k (below k w))), ap (λ s. s.operation) (sym (early k (below k w)))))
            (frame model summed (entries model old) old mid root sound.tree (length-set old n v) (λ k w. ap placement (early k (below k w))) sound.chained)

        order : inorder sound.tree ≡ ordered dates es n
        order =
            in_order
            ∙ order_same (by_dating dates law) (dating dates (entries model old)) (dating dates es) n (λ k lt. ap (λ s. dates.given s.date) (sym (early k lt)))

        once : Once (n ∷ inorder sound.tree)
        once = subst (λ xs. Once (n ∷ xs)) (sym order) (order_once (by_dating dates law) (dating dates es) n)

        formed : Formed model summed es mid new r (insert_by (dated_past dates day es) n sound.tree)
        formed = inserts es sound.tree (λ k. refl) chained (omega (arith, length-set old n v)) once sound.balanced shallow (omega (arith, sized))

        dated_n : dating dates es n ≡ Ok day
        dated_n = ap (λ s. dates.given s.date) here ∙ told

        grown : inorder (insert_by (dated_past dates day es) n sound.tree) ≡ ordered dates es (n + 1)
        grown =
            rw add-one
            (subst (λ x. inorder (insert_by (λ i. sooner dates x (dating dates es i)) n sound.tree) ≡ ordered dates es (suc n)) dated_n
            (insert_keeps_book (by_dating dates law) (dating dates es) n sound.tree order))

        dated : (i : ℕ) → i < n + 1 → Dated dates es i
        dated i lt =
            ⊎_elim
            (λ e. record { date = day; given = subst (λ i. dating dates es i ≡ Ok day) (sym e) dated_n })
            (λ ne.
            let was = sound.dated i (omega arith) in
            record { date = was.date; given = ap (λ s. dates.given s.date) (other i ne) ∙ was.given })
            (cases_eq i n)

        not_beyond : (k : ℕ) → n < k → In k (inorder (insert_by (dated_past dates day es) n sound.tree)) → ⊥
        not_beyond k lt w = let le = (order_holds (by_dating dates law) (dating dates es) (n + 1) k).0 (subst (In k) grown w) in omega arith

        pub added : Settled model dates summed old new (n + 1) r
        added = record {
          sound = settled law es mid new r (n + 1) (insert_by (dated_past dates day es) n sound.tree) kept (λ k. refl) formed (insert_balances (dated_past dates day es) n sound.tree sound.balanced).0 grown (omega arith) dated;
          beyond = λ k le. formed.others k (not_beyond k (omega arith)) ∙ other k (λ e. omega arith);
        }

      -- slot i is written, and keeps its place in the tree and its date
      module _ (i : ℕ) (v : Slot S) (within : i < length old) (placed : placement v ≡ placement (slot model old i)) (told : v.date ≡ (slot model old i).date) where
        abbrev rewritten : List (Slot S)
        rewritten = set old i v

        written : slot model rewritten i ≡ v
        written = get_or-set_same old i v _ within

        unwritten : (k : ℕ) → (k ≡ i → ⊥) → slot model rewritten k ≡ slot model old k
        unwritten k ne = get_or-set_other old i k v _ ne

        placements : (k : ℕ) → placement (slot model rewritten k) ≡ placement (slot model old k)
        placements k = ⊎_elim (λ e. subst (λ k. placement (slot model rewritten k) ≡ placement (slot model old k)) (sym e) (ap placement written ∙ placed)) (λ ne. ap placement (unwritten k ne)) (cases_eq k i)

        bytes : (k : ℕ) → (slot model rewritten k).date ≡ (slot model old k).date
        bytes k = ⊎_elim (λ e. subst (λ k. (slot model rewritten k).date ≡ (slot model old k).date) (sym e) (ap (λ s. s.date) written ∙ told)) (λ ne. ap (λ s. s.date) (unwritten k ne)) (cases_eq k i)

        still_chained : Chained model summed (entries model old) rewritten root sound.tree
        still_chained = frame model summed (entries model old) old rewritten root sound.tree (length-set old i v) (λ k w. placements k) sound.chained

        still_ordered : inorder sound.tree ≡ ordered dates (entries model rewritten) n
        still_ordered =
            in_order
            ∙ order_same (by_dating dates law) (dating dates (entries model old)) (dating dates (entries model rewritten)) n (λ k lt. ap dates.given (sym (bytes k)))

        still_dated : (k : ℕ) → k < n → Dated dates (entries model rewritten) k
        still_dated k lt = let was = sound.dated k lt in record { date = was.date; given = ap dates.given (bytes k) ∙ was.given }

        -- it keeps all but its note
        pub renoted : v.standing ≡ (slot model old i).standing → v.operation ≡ (slot model old i).operation → Sound dates model summed rewritten root n
        renoted stands does = record {
          tree = sound.tree;
          chained =
              rechain model summed (entries model old) (entries model rewritten) rewritten root sound.tree
              (λ k w. ⊎_elim
              (λ e. subst (λ k. ((entries model old k).standing ≡ (entries model rewritten k).standing) × ((entries model old k).operation ≡ (entries model rewritten k).operation)) (sym e) (sym (ap (λ s. s.standing) written ∙ stands), sym (ap (λ s. s.operation) written ∙ does)))
              (λ ne. (ap (λ s. s.standing) (sym (unwritten k ne)), ap (λ s. s.operation) (sym (unwritten k ne))))
              (cases_eq k i))
              still_chained;
          balanced = sound.balanced;
          order = subst (IsInBookOrder (sooner dates) (dating dates (entries model rewritten)) n) (sym still_ordered) (order_stands (by_dating dates law) (dating dates (entries model rewritten)) n);
          few = sound.few;
          dated = still_dated;
        }

        -- it is voided, and the figures above it are put right
        module _ (lt : i < n) (day : D) (given : dates.given (slot model old i).date ≡ Ok day) (new : List (Slot S)) (kept : Kept model rewritten new) (refreshes : Refreshes model summed dates day rewritten new root i 14) where
          refreshed : Formed model summed (entries model rewritten) rewritten new root sound.tree
          refreshed =
              let size = sized in
              let few = sound.few in
              refreshes (entries model old) (entries model rewritten) sound.tree (λ k. refl) still_chained
              (λ k ne. ap entry (sym (unwritten k ne)))
              (ap dates.given (bytes i) ∙ given)
              (subst (Sorted (Before (sooner dates) (dating dates (entries model rewritten)))) (sym still_ordered) (order_sorted (by_dating dates law) (dating dates (entries model rewritten)) n))
              (among i lt)
              shallow (omega arith)

          pub voids : Settled model dates summed old new n root
          voids = record {
            sound = settled law (entries model rewritten) rewritten new root n sound.tree kept (λ k. refl) refreshed sound.balanced still_ordered sound.few still_dated;
            beyond = λ k le. refreshed.others k (λ w. let lt = below k w in omega arith) ∙ unwritten k (λ e. omega arith);
          }
