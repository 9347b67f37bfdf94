-- The stretch has an entry.
use Rattle.std.proofs.Common.{◌-◌, ◌≤◌, length}
use Rattle.book.proofs.entries.Entries.searched_from.Given as goal

abbrev pub invariant-loop-reach : goal.invariant-loop-reach
invariant-loop-reach g l = 1 ≤ l.reach

abbrev pub decreases-loop-reach : goal.decreases-loop-reach
decreases-loop-reach g l = length l.entries - l.reach
