-- The watch of one cell of a tally.
use Rattle.std.specs.Prelude.{◌≡◌, ℕ, Bool, true, false, cond, ◌&&◌, ℤ, pos, Some, None, Option, ◌==◌, nat_lt, refl}
use Rattle.machines.specs.declared.operation.Operation.{Operation}
use Rattle.machines.specs.declared.operation.Question.{Question}
use Rattle.primitives.specs.Tally.{is_change}
use Rattle.watches.specs.Sums.{sum_of}
use Rattle.watches.specs.declared.cell.CellWatch.{CellWatch}
use Rattle.watches.specs.declared.sum.Sum.{Sum}

-- by whether the tally has the cell
abbrev pub watch_if : (cell : ℕ) (answer : Bool) → nat_lt cell 64 ≡ answer → Option CellWatch
watch_if cell true exists = Some (record { cell = cell; exists = exists })
watch_if cell false _ = None

-- the watch of that cell; none where the tally has no such cell
abbrev pub watch_of : ℕ → Option CellWatch
watch_of cell = watch_if cell (nat_lt cell 64) refl

abbrev pub cell_question : CellWatch → Question
cell_question watch = record { code = 1; place = watch.cell; index = pos 0 }

-- a change of the cell gives its amount, and all else gives 0
abbrev pub cell_summary : CellWatch → Operation → Sum
cell_summary watch operation = sum_of (cond (is_change operation && operation.place == watch.cell) operation.amount (pos 0))

abbrev pub cell_figure : CellWatch → Sum → ℤ
cell_figure watch summary = summary.total
