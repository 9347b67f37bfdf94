-- The place of a new entry divides the entries into those dated no later and those that are later, and keeps book order.
use Rattle.std.proofs.Common.{◌≡◌, ℕ, zero, suc, ◌+◌, ◌-◌, ◌<◌, ◌≤◌, Bool, true, false, not, List, [], ◌∷◌, reverse, length, get_or, take, drop, sym, refl, ap, subst, inl, inr, arith, rules}
use mathlib.Core.List.{reverse-cons}
use Rattle.std.specs.List.{suffix_len, insert, AllByRecursion}
use Rattle.std.specs.List.Sorted.{IsPartitionPoint, IsPartitionedBy}
use Rattle.std.specs.Ordering.{is_le}
use Rattle.std.proofs.lemmas.Bool.{cond_both}
use Rattle.std.proofs.lemmas.List.Edits.{length-insert}
use Rattle.std.proofs.lemmas.List.Elements.{All-append, All-cons, All-drop, All-from_recursion, All-take, All-weaker, recursion_from_All}
use Rattle.std.proofs.lemmas.List.Folds.{prefix_len-append}
use Rattle.std.proofs.lemmas.List.Sums.{suffix_len-le-length, suffix_len_is}
use Rattle.dates.specs.Model.{DateModel, Lawful, compared}
use Rattle.machines.specs.Model.{MachineModel}
use Rattle.machines.specs.declared.operation.Operation.{Operation}
use Rattle.book.specs.Answers.{coming, after}
use Rattle.book.specs.Order.{later, place, placed, up_to, Before, Sorted, InBookOrder}
use Rattle.book.specs.declared.call.Call.{Call}
use Rattle.book.specs.declared.call.Call.TheVariants.{Enter, Ask}
use Rattle.book.specs.declared.entries.Entry.{Entry}

-- an element in front that fails is none of those at the end that pass
suffix_behind : {X : Type 0} (p : X → Bool) (x : X) (xs : List X) → p x ≡ false → suffix_len p (x ∷ xs) ≡ suffix_len p xs
suffix_behind p x xs fails = rw (reverse-cons x xs, prefix_len-append p (reverse xs) (x ∷ [])) (grind arith)

-- the library's lemmas on every element, for the same fact by recursion on the list
module _ {X : Type 0} (P : X → Type 0) where
  weaker : (Q : X → Type 0) → ((x : X) → P x → Q x) → (xs : List X) → AllByRecursion P xs → AllByRecursion Q xs
  weaker Q f xs h = recursion_from_All Q xs (All-weaker P Q f xs (All-from_recursion P xs h))

  inserted : (xs : List X) (n : ℕ) (x : X) → AllByRecursion P xs → P x → AllByRecursion P (insert xs n x)
  inserted xs n x h here =
      let all = All-from_recursion P xs h in
      recursion_from_All P (insert xs n x) (All-append P (take n xs) (x ∷ drop n xs) (All-take P n xs all) (All-cons P x (drop n xs) here (All-drop P n xs all)))

module _ {D : Type 0} (dates : DateModel D) (date : D) where
  -- where those in front are dated no later and those behind are later, that is the place
  pub place_is : (xs : List (Entry D)) (n : ℕ) → n ≤ length xs → IsPartitionPoint (λ y. not (later dates date y) ≡ true) (λ y. not (later dates date y) ≡ false) xs n → n ≡ place dates date xs
  place_is [] n within point = omega arith
  place_is (x ∷ xs) n within (front, back) =
      omega (arith, suffix_len_is (later dates date) (x ∷ xs) n x within (λ k from to. let fails = back k x from to in grind rules) (λ some. let passes = front (n - 1) x (omega arith) (omega arith) in grind rules))

  place_behind : (x : Entry D) (xs : List (Entry D)) → later dates date x ≡ false → place dates date (x ∷ xs) ≡ suc (place dates date xs)
  place_behind x xs fails = omega (arith, suffix_behind (later dates date) x xs fails, suffix_len-le-length (later dates date) xs)

module _ {D : Type 0} (dates : DateModel D) (lawful : Lawful dates) where
  -- what stands behind an entry that is later is later too
  later_behind : (date : D) (x y : Entry D) → later dates date x ≡ true → Before dates x y → later dates date y ≡ true
  later_behind date x y h (inl earlier) = lawful.transitive date x.date y.date h earlier
  later_behind date x y h (inr same) = subst (λ d. dates.earlier date d ≡ true) same.0 h

  -- an entry that is dated no later than the new one is before it
  not_later : (x new : Entry D) → later dates new.date x ≡ false → x.number < new.number → Before dates x new
  not_later x new fails less = go (dates.earlier x.date new.date) refl
    where
      go : (b : Bool) → dates.earlier x.date new.date ≡ b → Before dates x new
      go true e = inl e
      go false e = inr (lawful.equal x.date new.date e fails, less)

  -- what comparing a date with another answers, as a test of which entries are dated no later
  pub no_later : (date : D) (x : Entry D) → is_le (compared dates x.date date) ≡ not (later dates date x)
  no_later date x = grind (rules, lawful.one_way x.date date)

  all_later : (date : D) (x : Entry D) (xs : List (Entry D)) → later dates date x ≡ true → Sorted dates (x ∷ xs) → AllByRecursion (λ y. later dates date y ≡ true) (x ∷ xs)
  all_later date x xs passes sorted =
      (passes, weaker (Before dates x) _ (λ y. later_behind date x y passes) xs sorted.0)

  -- what stands in front of an entry that is dated no later is dated no later too
  not_later_before : (date : D) (x y : Entry D) → Before dates x y → not (later dates date y) ≡ true → not (later dates date x) ≡ true
  not_later_before date x y before holds =
      let behind : later dates date x ≡ true → later dates date y ≡ true = λ passes. later_behind date x y passes before in
      grind rules

  -- no entry that is later stands in front of one that is not
  pub parted : (date : D) (xs : List (Entry D)) → Sorted dates xs → IsPartitionedBy (λ y. not (later dates date y)) xs
  parted date [] sorted i j d order within holds = absurd (omega arith)
  parted date (x ∷ xs) sorted zero zero d order within holds = holds
  parted date (x ∷ xs) sorted zero (suc j) d order within holds =
      not_later_before date x (get_or xs j d) (All-from_recursion (Before dates x) xs sorted.0 j d (omega arith)) holds
  parted date (x ∷ xs) sorted (suc i) zero d order within holds = absurd (omega arith)
  parted date (x ∷ xs) sorted (suc i) (suc j) d order within holds = parted date xs sorted.1 i j d (omega arith) (omega arith) holds

  -- what is left behind some entries in book order is in book order
  pub sorted_drop : (n : ℕ) (xs : List (Entry D)) → Sorted dates xs → Sorted dates (drop n xs)
  sorted_drop zero xs sorted = sorted
  sorted_drop (suc n) [] sorted = sorted
  sorted_drop (suc n) (x ∷ xs) sorted = sorted_drop n xs sorted.1

  -- the place lies behind an entry that is dated no later, and is found among the entries from there on
  pub place_from : (date : D) (n : ℕ) (xs : List (Entry D)) → Sorted dates xs → n ≤ length xs → ((d : Entry D) → 0 < n → (n < length xs) × (later dates date (get_or xs n d) ≡ false)) → place dates date xs ≡ n + place dates date (drop n xs)
  place_from date zero xs sorted within front = omega arith
  place_from date (suc n) [] sorted within front = absurd (omega arith)
  place_from date (suc n) (x ∷ xs) sorted within front =
      let at = front x (omega arith) in
      let first : later dates date x ≡ false = grind (rules, not_later_before date x (get_or xs n x) (All-from_recursion (Before dates x) xs sorted.0 n x (omega (arith, at.0))), at.1) in
      omega (arith, place_behind dates date x xs first, place_from date n xs sorted.1 (omega arith) (λ d some. let h = front d (omega arith) in (omega (arith, h.0), h.1)))

  place_first : (date : D) (x : Entry D) (xs : List (Entry D)) → later dates date x ≡ true → Sorted dates (x ∷ xs) → place dates date (x ∷ xs) ≡ 0
  place_first date x xs passes sorted =
      let all = All-from_recursion (λ y. later dates date y ≡ true) (x ∷ xs) (all_later date x xs passes sorted) in
      omega (arith, suffix_len_is (later dates date) (x ∷ xs) 0 x (omega arith) (λ k from to. all k x to) (λ some. absurd (omega arith)))

  -- the entries dated no later are those in front of the place
  pub up_to_place : (date : D) (xs : List (Entry D)) → Sorted dates xs → take (place dates date xs) xs ≡ up_to dates date xs
  up_to_place date [] sorted = refl
  up_to_place date (x ∷ xs) sorted = go (up_to_place date xs sorted.1) (later dates date x) refl
    where
      none : (ys : List (Entry D)) → AllByRecursion (λ y. later dates date y ≡ true) ys → up_to dates date ys ≡ []
      none [] all = refl
      none (y ∷ ys) all = rw all.0 (none ys all.1)

      go : take (place dates date xs) xs ≡ up_to dates date xs → (b : Bool) → later dates date x ≡ b → take (place dates date (x ∷ xs)) (x ∷ xs) ≡ up_to dates date (x ∷ xs)
      go rest true passes = rw (place_first date x xs passes sorted) (sym (none (x ∷ xs) (all_later date x xs passes sorted)))
      go rest false fails = rw (place_behind dates date x xs fails, fails) (ap (λ ys. x ∷ ys) rest)

  sorted_placed : (new : Entry D) (xs : List (Entry D)) → AllByRecursion (λ x. x.number < new.number) xs → Sorted dates xs → Sorted dates (placed dates new xs)
  sorted_placed new [] less sorted = (tt, tt)
  sorted_placed new (x ∷ xs) (less, lesser) (first, rest) = go (sorted_placed new xs lesser rest) (later dates new.date x) refl
    where
      go : Sorted dates (placed dates new xs) → (b : Bool) → later dates new.date x ≡ b → Sorted dates (placed dates new (x ∷ xs))
      go more true passes =
          rw (place_first new.date x xs passes (first, rest))
          (weaker _ (Before dates new) (λ y h. inl h) (x ∷ xs) (all_later new.date x xs passes (first, rest)), (first, rest))
      go more false fails =
          rw (place_behind dates new.date x xs fails)
          (inserted (Before dates x) xs _ new first (not_later x new fails less), more)

  pub ordered_placed : (xs : List (Entry D)) (date : D) (operation : Operation) → InBookOrder dates xs → InBookOrder dates (placed dates (coming xs date operation) xs)
  ordered_placed xs date operation h =
      let new = coming xs date operation in
      let n = place dates date xs in
      let more : length (insert xs n new) ≡ length xs + 1 = length-insert xs n new (omega arith) in
      record {
        sorted = sorted_placed new xs (weaker _ (λ x. x.number < length xs + 1) (λ x k. omega (arith, k.1)) xs h.numbered) h.sorted;
        numbered =
            rw more
            (inserted (λ x. (1 ≤ x.number) × (x.number ≤ length xs + 1)) xs n new
            (weaker _ (λ x. (1 ≤ x.number) × (x.number ≤ length xs + 1)) (λ x k. (k.0, omega (arith, k.1))) xs h.numbered)
            (omega arith, omega arith));
      }

  pub ordered_after : (machine : MachineModel) (xs : List (Entry D)) (call : Call D) → InBookOrder dates xs → InBookOrder dates (after dates machine xs call)
  ordered_after machine xs (Enter date operation) h =
      cond_both (machine.knows operation) _ _ (InBookOrder dates) (λ _. ordered_placed xs date operation h) (λ _. h)
  ordered_after machine xs (Ask date question) h = h
