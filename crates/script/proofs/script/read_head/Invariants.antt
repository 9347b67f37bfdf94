use Rattle.std.proofs.Common.{◌≡◌, drop}
use Rattle.script.specs.Scripts.{head}
use Rattle.words.specs.Text.{spelled}
use Rattle.script.specs.declared.line.Kind.TheVariants.{Days}
use Rattle.script.proofs.script.read_head.Given as goal

abbrev pub invariant-loop-i : goal.invariant-loop-i
invariant-loop-i l = head Days 0 (spelled l.lines) ≡ head l.kind l.i (spelled (drop l.i l.lines))
