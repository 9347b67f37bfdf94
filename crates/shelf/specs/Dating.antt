-- Book order of the entries in slots: by date, and of one date by number.
use Rattle.std.specs.Prelude.{ℕ, Bool, true, false, not, ◌&&◌, ◌||◌, List, Ok, Err, filter, Result, nat_lt}
use Rattle.avl.specs.Book.{book_order, comes_before}
use Rattle.avl.specs.Placing.{front}
use Rattle.dates.specs.Model.{DateModel}
use Rattle.dates.specs.declared.fault.NoSuchDate.{NoSuchDate}
use Rattle.slots.specs.Slots.{Entry}

-- what bytes give: a date, or none
abbrev pub Dating : Type 0 → Type 0
Dating D = Result D NoSuchDate

module _ {D : Type 0} (dates : DateModel D) where
  -- what is no date comes before every date
  abbrev pub sooner : Dating D → Dating D → Bool
  sooner (Ok a) (Ok b) = dates.earlier a b
  sooner (Ok a) (Err e) = false
  sooner (Err e) (Ok b) = true
  sooner (Err e) (Err f) = false

  abbrev pub dating : (ℕ → Entry) → ℕ → Dating D
  dating es i = dates.given (es i).date

  -- whether an entry is dated after a day
  abbrev pub dated_past : D → (ℕ → Entry) → ℕ → Bool
  dated_past day es i = sooner (Ok day) (dating es i)

  -- whether entry i, dated a, stands in front of the place of entry j, dated b
  abbrev pub ahead : Dating D → ℕ → Dating D → ℕ → Bool
  ahead a i b j = sooner a b || (not (sooner b a) && nat_lt i j)

  -- the first n entries in book order
  abbrev pub ordered : (ℕ → Entry) → ℕ → List ℕ
  ordered es n = book_order sooner (dating es) n

  -- of those, the ones dated no later than a day, and the ones in front of entry i
  abbrev pub up_to : D → (ℕ → Entry) → ℕ → List ℕ
  up_to day es n = front (dated_past day es) (ordered es n)

  abbrev pub before : ℕ → (ℕ → Entry) → ℕ → List ℕ
  before i es n = filter (λ j. comes_before sooner (dating es) j i) (ordered es n)
