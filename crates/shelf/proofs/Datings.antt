-- The order of what bytes give.
use Rattle.std.proofs.Common.{◌≡◌, ℕ, ◌<◌, true, false, not, List, ◌∷◌, Ok, Err, sym, refl, ap, ◌∙◌, arith}
use Rattle.std.proofs.lemmas.Bool.Decides.{nat_tests}
use mathlib.Core.Bool.{false≢true}
use Rattle.avl.specs.Book.{Order, book_order}
use Rattle.avl.proofs.Orders.{order_sorted, order_holds}
use Rattle.avl.specs.Summary.{SummaryModel}
use Rattle.dates.specs.Model.{DateModel, Lawful}
use Rattle.machines.specs.declared.operation.Operation.{Operation}
use Rattle.shelf.specs.Dating.{Dating, sooner, dating, ahead}
use Rattle.slots.specs.declared.slot.Slot.{Slot}
use Rattle.slots.specs.Slots.{Entry, slot}
use Rattle.slots.specs.Chain.{Once, Tied}
use Rattle.slots.proofs.Chains.{read_entry}
use Rattle.slots.proofs.Lists.{sorted_once}

module _ {D : Type 0} (dates : DateModel D) (law : Lawful dates) where
  pub one_way : (a b : Dating D) → sooner dates a b ≡ true → sooner dates b a ≡ false
  one_way (Ok a) (Ok b) h = law.one_way a b h
  one_way (Ok a) (Err e) h = absurd (false≢true h)
  one_way (Err e) (Ok b) h = refl
  one_way (Err e) (Err f) h = refl

  pub equal : (a b : Dating D) → sooner dates a b ≡ false → sooner dates b a ≡ false → a ≡ b
  equal (Ok a) (Ok b) h k = ap Ok (law.equal a b h k)
  equal (Ok a) (Err e) h k = absurd (false≢true (sym k))
  equal (Err e) (Ok b) h k = absurd (false≢true (sym h))
  equal (Err e) (Err f) h k = refl

  pub transitive : (a b c : Dating D) → sooner dates a b ≡ true → sooner dates b c ≡ true → sooner dates a c ≡ true
  transitive (Ok a) (Ok b) (Ok c) h k = law.transitive a b c h k
  transitive (Ok a) (Ok b) (Err e) h k = k
  transitive (Ok a) (Err e) c h k = absurd (false≢true h)
  transitive (Err e) b (Ok c) h k = refl
  transitive (Err e) (Ok b) (Err f) h k = k
  transitive (Err e) (Err f) (Err g) h k = h

  abbrev pub by_dating : Order (Dating D)
  by_dating = record { earlier = sooner dates; one_way = one_way; equal = equal; transitive = transitive }

  -- what a day is earlier than is behind the last place of the day
  pub past_last : (day : D) (a : Dating D) (i : ℕ) → i < 65536 → sooner dates (Ok day) a ≡ not (ahead dates a i (Ok day) 65536)
  past_last day a i small = grind (arith, nat_tests, one_way)

-- the test at a slot, in the words of the entries
pub tested : {S D : Type 0} (model : SummaryModel S) (summed : Operation → S) (dates : DateModel D) (slots : List (Slot S)) (link : ℕ) (at : Slot S) → at ≡ slot model slots link → (es : ℕ → Entry) (j : ℕ) → Tied model summed es slots → link ≡ j → (place : Dating D) (number : ℕ) → ahead dates (dating dates es j) j place number ≡ ahead dates (dates.given at.date) link place number
tested model summed dates slots link at read es j tied e place number =
    let told = ap (λ e. e.date) (read_entry model summed es slots link j at read e tied) in
    sym (ap (λ bytes. ahead dates (dates.given bytes) link place number) told ∙ ap (λ k. ahead dates (dating dates es j) k place number) e)

pub order_once : {D : Type 0} (o : Order D) (date : ℕ → D) (n : ℕ) → Once (n ∷ book_order o.earlier date n)
unfolding Once
order_once o date n = ((λ w. let lt = (order_holds o date n n).0 w in omega arith), sorted_once o date (book_order o.earlier date n) (order_sorted o date n))
