use Rattle.std.proofs.Common.{◌-◌, ◌≤◌, length, vec_items}
use Rattle.std.specs.Str.{IsCharBoundary}
use Rattle.words.specs.Text.{spelled}
use Rattle.words.proofs.Words.{Sofar}
use Rattle.words.proofs.text.words_of.Given as goal

abbrev pub invariant-loop-end : goal.invariant-loop-end
invariant-loop-end l =
    Sofar l.line (spelled (vec_items l.found)) l.start l.end
    × (l.start ≤ l.end)
    × (l.end ≤ length l.line)
    × IsCharBoundary l.line l.start

abbrev pub decreases-loop-end : goal.decreases-loop-end
decreases-loop-end l = length l.bytes - l.end
