use Rattle.std.proofs.Common.{take, vec_items}
use Rattle.replies.proofs.Working.{Worked}
use Rattle.replies.proofs.work.work_off.Given as goal

abbrev pub invariant-loop-line : goal.invariant-loop-line
invariant-loop-line g l = Worked g.D.Date.model g.M.Machine.model (take l.line-index l.lines) (vec_items l.given) l.entries
