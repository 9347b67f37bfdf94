-- What a kind of date is, and the laws of every kind.
use Rattle.std.specs.Prelude.{◌≡◌, ℕ, ◌^◌, ◌<◌, Bool, true, false, List, length, Ok, Result}
use Rattle.std.specs.declared.cmp.Ordering.{Ordering}
use Rattle.std.specs.List.{AllByRecursion}
use Rattle.dates.specs.Order.{ranked}
use Rattle.dates.specs.declared.fault.NoSuchDate.{NoSuchDate}

-- the number of the kind, which date is earlier than which, the bytes of a date, and the date that bytes give
pub record DateModel (D : Type 0) : Type 0 where
  pub kind : ℕ
  pub earlier : D → D → Bool
  pub bytes : D → List ℕ
  pub given : List ℕ → Result D NoSuchDate

abbrev pub IsFourBytes : List ℕ → Type 0
IsFourBytes bs = (length bs ≡ 4) × AllByRecursion (λ b. b < 256) bs

pub record Lawful {D : Type 0} (m : DateModel D) : Type 0 where
  -- the number of the kind fits two bytes
  pub kind_fits : m.kind < 2 ^ 16
  -- two dates are equal or exactly one is earlier
  pub one_way : (a b : D) → m.earlier a b ≡ true → m.earlier b a ≡ false
  pub equal : (a b : D) → m.earlier a b ≡ false → m.earlier b a ≡ false → a ≡ b
  pub transitive : (a b c : D) → m.earlier a b ≡ true → m.earlier b c ≡ true → m.earlier a c ≡ true
  -- a date's bytes are four and give it back, and accepted bytes are those of the date that they give
  pub four : (d : D) → IsFourBytes (m.bytes d)
  pub back : (d : D) → m.given (m.bytes d) ≡ Ok d
  pub form : (bs : List ℕ) (d : D) → IsFourBytes bs → m.given bs ≡ Ok d → m.bytes d ≡ bs

-- what comparing two dates answers
abbrev pub compared : {D : Type 0} → DateModel D → D → D → Ordering
compared m a b = ranked (m.earlier a b) (m.earlier b a)
