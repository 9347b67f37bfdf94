use Rattle.std.proofs.Common.{◌≡◌, ◌+◌, ◌++◌, length, drop, Ok, vec_items}
use Rattle.script.specs.Commands.{then}
use Rattle.script.specs.Scripts.{calls}
use Rattle.words.specs.Text.{spelled}
use Rattle.script.proofs.script.read_calls.Given as goal

abbrev pub invariant-loop-i : goal.invariant-loop-i
invariant-loop-i g l =
    let written = g.D.WrittenDate.written in
    let i = l.from + length l.yielded in
    calls written l.from (drop l.from (spelled l.lines))
    ≡ then (calls written i (spelled (drop i l.lines))) (λ rest. Ok (vec_items l.found ++ rest))
