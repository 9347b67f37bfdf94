-- What `split_once` gives at a character.
use Rattle.std.proofs.Common.{◌≡◌, ℕ, suc, ◌<◌, true, false, eqb, List, [], ◌∷◌, ◌++◌, Some, None, Option, refl, ap, ◌∙◌, suc-le-suc, zero-le, arith, Bor}
use Rattle.std.proofs.lemmas.Str.Pattern.{IsSplitOnceResult, split_parts}
use Rattle.std.proofs.lemmas.Bool.Decides.{nat_tests}
use Rattle.std.specs.Option.{option_map}
use Rattle.std.specs.Str.Iter.{LacksByte}
use Rattle.script.specs.Written.{cut_at}

cut_none : (c : ℕ) (bs : List ℕ) → LacksByte c bs → cut_at c bs ≡ None
cut_none c [] lacks = refl
cut_none c (b ∷ bs) lacks =
    let other : eqb b c ≡ false = let h = lacks 0 (suc-le-suc zero-le) in grind (arith, nat_tests) in
    rw (other, cut_none c bs (λ k h. lacks (suc k) (suc-le-suc h)))

cut_some : (c : ℕ) (xs ys : List ℕ) → LacksByte c xs → cut_at c (xs ++ (c ∷ ys)) ≡ Some (xs, ys)
cut_some c [] ys lacks = let same : eqb c c ≡ true = grind (arith, nat_tests) in rw same
cut_some c (x ∷ xs) ys lacks =
    let other : eqb x c ≡ false = let h = lacks 0 (suc-le-suc zero-le) in grind (arith, nat_tests) in
    rw (other, cut_some c xs ys (λ k h. lacks (suc k) (suc-le-suc h)))

-- the texts on both sides of the character
abbrev pub sides : Bor (List ℕ) × Bor (List ℕ) → List ℕ × List ℕ
sides x = (x.0.now, x.1.now)

pub split_cut : (c : ℕ) (bs : List ℕ) (r : Option (Bor (List ℕ) × Bor (List ℕ))) → IsSplitOnceResult c bs r → c < 128 → cut_at c bs ≡ option_map sides r
split_cut c bs None split ascii = cut_none c bs (split_parts c bs None split ascii)
split_cut c bs (Some x) split ascii =
    let parts = split_parts c bs (Some x) split ascii in
    ap (cut_at c) parts.0 ∙ cut_some c x.0.now x.1.now parts.1
