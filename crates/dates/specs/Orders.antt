-- The laws of `before`, and what a comparison place by place answers.
use Rattle.std.specs.Prelude.{◌≡◌, ℕ, true, false, List, [], ◌∷◌, refl}
use Rattle.std.proofs.Common.{sym, ap₂, arith}
use Rattle.std.proofs.lemmas.Bool.{false≢true}
use Rattle.std.proofs.lemmas.Bool.Decides.{nat_tests}
use Rattle.std.specs.Ordering.{nat_cmp}
use Rattle.std.specs.Cmp.Lexicographic.{slice_cmp}
use Rattle.dates.specs.Order.{before, ranked}

pub before_one_way : (xs ys : List ℕ) → before xs ys ≡ true → before ys xs ≡ false
before_one_way [] [] h = refl
before_one_way [] (y ∷ ys) h = refl
before_one_way (x ∷ xs) [] h = absurd (false≢true h)
before_one_way (x ∷ xs) (y ∷ ys) h = let rest = before_one_way xs ys in grind (arith, nat_tests)

pub before_transitive : (xs ys zs : List ℕ) → before xs ys ≡ true → before ys zs ≡ true → before xs zs ≡ true
before_transitive [] [] zs h k = k
before_transitive [] (y ∷ ys) [] h k = absurd (false≢true k)
before_transitive [] (y ∷ ys) (z ∷ zs) h k = refl
before_transitive (x ∷ xs) [] zs h k = absurd (false≢true h)
before_transitive (x ∷ xs) (y ∷ ys) [] h k = k
before_transitive (x ∷ xs) (y ∷ ys) (z ∷ zs) h k = let rest = before_transitive xs ys zs in grind (arith, nat_tests)

pub before_same : (xs ys : List ℕ) → before xs ys ≡ false → before ys xs ≡ false → xs ≡ ys
before_same [] [] h k = refl
before_same [] (y ∷ ys) h k = absurd (false≢true (sym h))
before_same (x ∷ xs) [] h k = absurd (false≢true (sym k))
before_same (x ∷ xs) (y ∷ ys) h k =
    let first : x ≡ y = grind (arith, nat_tests) in
    let under : before xs ys ≡ false = grind (arith, nat_tests) in
    let over : before ys xs ≡ false = grind (arith, nat_tests) in
    ap₂ ◌∷◌ first (before_same xs ys under over)

-- what `cmp` answers of two lists of numbers
pub lex_ranked : (xs ys : List ℕ) → slice_cmp nat_cmp xs ys ≡ ranked (before xs ys) (before ys xs)
lex_ranked [] [] = refl
lex_ranked [] (y ∷ ys) = refl
lex_ranked (x ∷ xs) [] = refl
lex_ranked (x ∷ xs) (y ∷ ys) = let same = lex_ranked xs ys in grind (arith, nat_tests)
