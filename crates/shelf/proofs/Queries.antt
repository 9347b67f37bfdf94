-- What is read off a sound shelf.
use Rattle.std.proofs.Common.{◌≡◌, ℕ, ◌<◌, ◌≤◌, Bool, true, not, ◌⊎◌, List, [], ◌∷◌, length, Ok, filter, Option, sym, refl, ap, ◌∙◌, arith}
use mathlib.Core.Bool.{not-not}
use Rattle.std.specs.List.{slice_get, AllByRecursion}
use Rattle.std.proofs.lemmas.List.Sums.{sum_by-cons}
use Rattle.std.proofs.lemmas.Bool.Decides.{nat_tests}
use Rattle.avl.specs.Book.{Sorted, Before, comes_before}
use Rattle.avl.specs.Placing.{Onward, front}
use Rattle.avl.specs.Summary.{SummaryModel, Lawful as Light, total_weight, list_join}
use Rattle.avl.specs.Tree.{inorder}
use Rattle.avl.proofs.BookTrees.{length_order}
use Rattle.avl.proofs.Depths.{size_is_length}
use Rattle.avl.proofs.Joins.{front_joins_as_list}
use Rattle.avl.proofs.Lists.{weaker}
use Rattle.avl.proofs.Orders.{all_below}
use Rattle.dates.specs.Model.{DateModel, Lawful}
use Rattle.machines.specs.declared.operation.Operation.{Operation}
use Rattle.slots.specs.declared.slot.Slot.{Slot}
use Rattle.slots.specs.Slots.{Entry, entries}
use Rattle.shelf.specs.Dating.{Dating, sooner, dating, ahead, dated_past, ordered, up_to, before}
use Rattle.slots.specs.Chain.{standing, own}
use Rattle.shelf.specs.Sound.{Sound}
use Rattle.shelf.specs.Ways.{Read, Counts, Selects, Joins, behind}
use Rattle.shelf.specs.Reading.{standing_entries, standing_up_to, standing_before, joined_summaries}
use Rattle.shelf.proofs.Datings.{by_dating, past_last}
use Rattle.slots.proofs.Measures.{own_light}
use Rattle.shelf.proofs.Joining.{standing_joined}
use Rattle.shelf.proofs.Readings.{kept_small}
use Rattle.shelf.proofs.Sounds.{in_order, sized, shallow}

-- two tests that agree on a list keep the same of it
kept_same : (p q : ℕ → Bool) (xs : List ℕ) → AllByRecursion (λ i. p i ≡ q i) xs → filter p xs ≡ filter q xs
kept_same p q [] h = refl
kept_same p q (x ∷ xs) h = rw (h.0, kept_same p q xs h.1)

module _ {D : Type 0} (dates : DateModel D) (law : Lawful dates) (day : D) (es : ℕ → Entry) where
  behind_later : (number x j : ℕ) → behind dates day number es x ≡ true → Before (sooner dates) (dating dates es) x j → behind dates day number es j ≡ true
  behind_later number x j h b = placed_later (dating dates es x) (dating dates es j) (Ok day) h b
    where
      placed_later : (a c e : Dating D) → not (ahead dates a x e number) ≡ true → (sooner dates a c ≡ true) ⊎ ((a ≡ c) × (x < j)) → not (ahead dates c j e number) ≡ true
      placed_later a c e h b = grind (arith, nat_tests, (by_dating dates law).one_way, (by_dating dates law).equal, (by_dating dates law).transitive)

  pub behind_onward : (number : ℕ) (xs : List ℕ) → Sorted (Before (sooner dates) (dating dates es)) xs → Onward (behind dates day number es) xs
  behind_onward number [] h = tt
  behind_onward number (x ∷ xs) h =
      (λ e. weaker (Before (sooner dates) (dating dates es) x) (λ j. behind dates day number es j ≡ true) (λ j. behind_later number x j e) xs h.0, behind_onward number xs h.1)

  -- behind the last place of a day is what is dated past it
  last_place : (i : ℕ) → i < 65536 → not (behind dates day 65536 es i) ≡ not (dated_past dates day es i)
  last_place i lt = ap not (sym (past_last dates law day (dating dates es i) i lt))

  pub front_up_to : (n : ℕ) → n ≤ 1024 → front (behind dates day 65536 es) (ordered dates es n) ≡ up_to dates day es n
  front_up_to n few =
      kept_same (λ i. not (behind dates day 65536 es i)) (λ i. not (dated_past dates day es i)) (ordered dates es n)
      (weaker (λ i. i < n) (λ i. not (behind dates day 65536 es i) ≡ not (dated_past dates day es i)) (λ i lt. last_place i (omega arith)) (ordered dates es n) (all_below (by_dating dates law) (dating dates es) n))

  pub front_before : (i n : ℕ) → dating dates es i ≡ Ok day → front (behind dates day i es) (ordered dates es n) ≡ before dates i es n
  front_before i n dated =
      kept_same (λ j. not (behind dates day i es j)) (λ j. comes_before (sooner dates) (dating dates es) j i) (ordered dates es n)
      (weaker (λ j. j < n) (λ j. not (behind dates day i es j) ≡ comes_before (sooner dates) (dating dates es) j i)
      (λ j lt. not-not (ahead dates (dating dates es j) j (Ok day) i) ∙ ap (λ x. ahead dates (dating dates es j) j x i) (sym dated))
      (ordered dates es n) (all_below (by_dating dates law) (dating dates es) n))

pub few_up_to : {D : Type 0} (dates : DateModel D) (law : Lawful dates) (day : D) (es : ℕ → Entry) (n : ℕ) → length (standing_up_to dates es n day) ≤ n
few_up_to dates law day es n =
    let all = length_order (by_dating dates law) (dating dates es) n in
    let dated = kept_small (λ i. not (dated_past dates day es i)) (ordered dates es n) in
    let stands = kept_small (standing es) (up_to dates day es n) in
    omega arith

module _ {S D : Type 0} (model : SummaryModel S) (summed : Operation → S) (dates : DateModel D) (law : Lawful dates) (slots : List (Slot S)) (root n : ℕ) (sound : Sound dates model summed slots root n) where
  abbrev es : ℕ → Entry
  es = entries model slots

  read : Read model summed es slots root 14 sound.tree
  read =
      let size = sized model summed dates law slots root n sound in
      let few = sound.few in
      record { tied = λ k. refl; chained = sound.chained; deep = shallow model summed dates law slots root n sound; few = omega arith }

  onward : (day : D) (number : ℕ) → Onward (behind dates day number es) (inorder sound.tree)
  onward day number = behind_onward dates law day es number (inorder sound.tree) sound.order.sorted

  pub counted_up_to : (day : D) (r : ℕ) → Counts model dates day 65536 slots root 14 r → r ≡ length (standing_up_to dates es n day)
  counted_up_to day r counts =
      counts summed es sound.tree read (onward day 65536)
      ∙ ap (λ xs. length (filter (standing es) (front (behind dates day 65536 es) xs))) (in_order model summed dates law slots root n sound)
      ∙ ap (λ xs. length (filter (standing es) xs)) (front_up_to dates law day es n sound.few)

  pub counted_before : (i : ℕ) (day : D) (r : ℕ) → dating dates es i ≡ Ok day → Counts model dates day i slots root 14 r → r ≡ length (standing_before dates es n i)
  counted_before i day r dated counts =
      counts summed es sound.tree read (onward day i)
      ∙ ap (λ xs. length (filter (standing es) (front (behind dates day i es) xs))) (in_order model summed dates law slots root n sound)
      ∙ ap (λ xs. length (filter (standing es) xs)) (front_before dates law day es i n dated)

  pub found : (k : ℕ) (r : Option ℕ) → Selects model slots root k 14 r → r ≡ slice_get (standing_entries dates es n) k
  found k r selects = selects summed es sound.tree read ∙ ap (λ xs. slice_get (filter (standing es) xs) k) (in_order model summed dates law slots root n sound)

  module _ (sums : Light model) (light : (operation : Operation) → model.weight (summed operation) ≤ 1) where
    light_list : (xs : List ℕ) → total_weight model (own model summed es) xs ≤ length xs
    light_list [] = omega arith
    light_list (x ∷ xs) =
        let ih = light_list xs in
        let here = own_light model sums summed light es x in
        omega (arith, sum_by-cons (λ i. model.weight (own model summed es i)) x xs)

    pub joined_up_to : (day : D) (r : S) → Joins model summed dates day 65536 slots root 14 r → r ≡ joined_summaries model summed es (standing_up_to dates es n day)
    joined_up_to day r joins =
        let size = sized model summed dates law slots root n sound in
        let long = size_is_length sound.tree in
        let few = sound.few in
        let all = light_list (inorder sound.tree) in
        let none = sums.weightless in
        let first = kept_small (λ i. not (dated_past dates day es i)) (ordered dates es n) in
        let whole = ap length (in_order model summed dates law slots root n sound) in
        joins es sound.tree read
        ∙ front_joins_as_list model sums (own model summed es) (behind dates day 65536 es) sound.tree (onward day 65536) (omega arith)
        ∙ ap (λ xs. list_join model (own model summed es) (front (behind dates day 65536 es) xs)) (in_order model summed dates law slots root n sound)
        ∙ ap (list_join model (own model summed es)) (front_up_to dates law day es n sound.few)
        ∙ standing_joined model sums summed light es (up_to dates day es n) model.unit (omega arith)
