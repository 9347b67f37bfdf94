-- A tree in book order takes in the next slot.
use Rattle.std.proofs.Common.{◌≡◌, ℕ, zero, suc, Bool, List, [], ◌∷◌, length, refl, ap, ◌∙◌, arith}
use Rattle.avl.specs.Claims.{InsertKeepsBook}
use Rattle.avl.specs.Book.{Order, book_order, dated_after}
use Rattle.avl.specs.Placing.{placed}
use Rattle.avl.proofs.Orders.{order_onward}
use Rattle.avl.proofs.Placings.{insert_places}

pub insert_keeps_book : {D : Type 0} (o : Order D) → InsertKeepsBook o.earlier
insert_keeps_book o date n t h =
    insert_places (dated_after o.earlier date (date n)) n t (rw h (order_onward o date (date n) n))
    ∙ ap (placed (dated_after o.earlier date (date n)) n) h

length_placed : (before : ℕ → Bool) (n : ℕ) (xs : List ℕ) → length (placed before n xs) ≡ suc (length xs)
length_placed before n [] = refl
length_placed before n (x ∷ xs) = let rest = length_placed before n xs in grind arith

pub length_order : {D : Type 0} (o : Order D) (date : ℕ → D) (n : ℕ) → length (book_order o.earlier date n) ≡ n
length_order o date zero = refl
length_order o date (suc n) = length_placed (dated_after o.earlier date (date n)) n (book_order o.earlier date n) ∙ ap suc (length_order o date n)
