-- Survey dates keep the laws of a kind of date.
use Rattle.std.specs.Prelude.{◌≡◌, ℕ, ◌+◌, ◌-◌, ◌*◌, ◌/◌, ◌%◌, ◌<◌, ◌≤◌, Bool, true, false, [], ◌∷◌, Ok, slice_index, refl}
use Rattle.std.proofs.Common.{sym, ap, ◌∙◌, arith, rules}
use Rattle.std.proofs.Math.Bool.{Bool-set}
use Rattle.std.specs.Ordering.{nat_cmp, ordering_then}
use Rattle.std.specs.declared.cmp.Ordering.{Ordering}
use Rattle.std.specs.declared.cmp.Ordering.TheVariants.{Less, Equal, Greater}
use mathlib.Core.HLevel.{is_prop→PathP}
use Rattle.std.proofs.lemmas.List.Elements.{All-from_recursion}
use Rattle.std.proofs.lemmas.Bool.{false≢true}
use Rattle.std.proofs.lemmas.Bool.Decides.{nat_tests}
use Rattle.dates.specs.Calendar.{exists, leap, month_lengths}
use Rattle.dates.specs.Model.{Lawful, compared}
use Rattle.dates.specs.Survey.{date_if, dated, places, survey_dates}
use Rattle.dates.specs.declared.survey.SurveyDate.{SurveyDate}
use Rattle.dates.specs.FourBytes.{by_four}
use Rattle.dates.specs.Orders.{before_one_way, before_same, before_transitive, lex_ranked}

-- the fact in a date's ghost field has one proof, so its numbers are all that tells a date from another
same_date : (a b : SurveyDate) → a.year ≡ b.year → a.month ≡ b.month → a.day ≡ b.day → a ≡ b
same_date a b p q r = λ i. record {
  year = p i;
  month = q i;
  day = r i;
  real = is_prop→PathP (λ j. exists (p j) (q j) (r j) ≡ true) (λ j. Bool-set (exists (p j) (q j) (r j)) true) a.real b.real i;
}

-- a date is given by its numbers
pub dated_back : (d : SurveyDate) (y : ℕ) → y ≡ d.year → dated y d.month d.day ≡ Ok d
dated_back d y p = go (exists y d.month d.day) refl
  where
    go : (b : Bool) (e : exists y d.month d.day ≡ b) → date_if y d.month d.day b e ≡ Ok d
    go true e = ap Ok (same_date _ d p refl refl)
    go false e = absurd (false≢true (sym e ∙ ap (λ x. exists x d.month d.day) p ∙ d.real))

-- and has them
dated_form : (y m n : ℕ) (d : SurveyDate) → dated y m n ≡ Ok d → (d.year ≡ y) × (d.month ≡ m) × (d.day ≡ n)
dated_form y m n d = go (exists y m n) refl
  where
    go : (b : Bool) (e : exists y m n ≡ b) → date_if y m n b e ≡ Ok d → (d.year ≡ y) × (d.month ≡ m) × (d.day ≡ n)
    go true e h = (cc, cc, cc)
    go false e h = let never : ◌≡◌ {A = ℕ} 0 1 = cc in absurd (omega arith)

bytes_form : (d : SurveyDate) (a b m n : ℕ) → a < 256 → survey_dates.given (a ∷ b ∷ m ∷ n ∷ []) ≡ Ok d → survey_dates.bytes d ≡ a ∷ b ∷ m ∷ n ∷ []
bytes_form d a b m n fits h =
    let numbers = dated_form (a + b * 256) m n d h in
    let low : d.year % 256 ≡ a = omega arith in
    let high : d.year / 256 ≡ b = omega arith in
    cc

-- no month is longer than 31 days
short_months : (leap_year : Bool) (i : ℕ) → i < 12 → slice_index (month_lengths leap_year) i ≤ 31
short_months true i h = All-from_recursion (λ n. n ≤ 31) (month_lengths true) (search rules) i 0 h
short_months false i h = All-from_recursion (λ n. n ≤ 31) (month_lengths false) (search rules) i 0 h

bounds : (d : SurveyDate) → (d.year ≤ 9999) × (d.month ≤ 12) × (d.day ≤ 31)
bounds d =
    let short = short_months (leap d.year) (d.month - 1) in
    let real = d.real in
    (grind (arith, nat_tests), grind (arith, nat_tests), grind (arith, nat_tests))

then_equal : (o : Ordering) → o ≡ ordering_then o Equal
then_equal Less = refl
then_equal Equal = refl
then_equal Greater = refl

-- comparing by the year, then the month, then the day answers what comparing the three as a list does
pub survey_ordered : (a b : SurveyDate) → ordering_then (nat_cmp a.year b.year) (ordering_then (nat_cmp a.month b.month) (nat_cmp a.day b.day)) ≡ compared survey_dates a b
survey_ordered a b =
    ap (λ last. ordering_then (nat_cmp a.year b.year) (ordering_then (nat_cmp a.month b.month) last)) (then_equal (nat_cmp a.day b.day)) ∙ lex_ranked (places a) (places b)

pub survey_lawful : Lawful survey_dates
survey_lawful = record {
  kind_fits = omega arith;
  one_way = λ a b. before_one_way (places a) (places b);
  equal = λ a b h k. let e = before_same (places a) (places b) h k in same_date a b (cc) (cc) (cc);
  transitive = λ a b c. before_transitive (places a) (places b) (places c);
  four = λ d. let within = bounds d in (refl, search rules);
  back = λ d. dated_back d (d.year % 256 + d.year / 256 * 256) (omega arith);
  form = λ bs d. by_four (λ bs. survey_dates.given bs ≡ Ok d → survey_dates.bytes d ≡ bs) (λ a b m n low _ _ _. bytes_form d a b m n low) bs;
}
