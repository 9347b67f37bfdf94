-- The watch of how many jobs wait in a queue.
use Rattle.std.specs.Prelude.{cond, ℤ, pos}
use Rattle.machines.specs.declared.operation.Operation.{Operation}
use Rattle.machines.specs.declared.operation.Question.{Question}
use Rattle.primitives.specs.Queue.{is_order, is_draw}
use Rattle.watches.specs.Spans.{span}
use Rattle.watches.specs.declared.span.Span.{Span}
use Rattle.watches.specs.declared.waiting.WaitingWatch.{WaitingWatch}

abbrev pub waiting_question : WaitingWatch → Question
waiting_question watch = record { code = 2; place = 0; index = pos 0 }

-- an order leaves a job, and a draw is unmet until an earlier job meets it
abbrev pub waiting_summary : WaitingWatch → Operation → Span
waiting_summary watch operation = cond (is_order operation) (span 0 1) (cond (is_draw operation) (span 1 0) (span 0 0))

abbrev pub waiting_figure : WaitingWatch → Span → ℤ
waiting_figure watch summary = pos summary.left
