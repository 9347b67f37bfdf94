-- That taking back restores the state before the step.
use Rattle.std.proofs.Common.{sym, ◌∙◌, w32, SFits, rules}
use Rattle.std.proofs.lemmas.Int.{to_z-of_z}
use Rattle.primitives.specs.Queue.{plain_queue, queue_bound}
use Rattle.primitives.specs.Queues.{queue_lawful, order_back, draw_back}
use Rattle.primitives.specs.Steps.{idle_back, bounded_back}
use Rattle.primitives.proofs.queue.QueueMachine.take_back.Goals as goal

pub returns-in_default : goal.returns-in_default
returns-in_default c = idle_back plain_queue queue_bound queue_lawful _ c.args.operation.now _ c.in_default.is

pub returns-then-is_order : goal.returns-then-is_order
returns-then-is_order c =
    let operation = c.args.operation.now in
    bounded_back plain_queue queue_bound _ _ operation _
    (λ s few led gave. c.take_back_order.ensures ∙ order_back s _ operation _ (sym c.if-is_order.ensures) led (gave ∙ c.in-Some.is))

pub returns-then-is_draw : goal.returns-then-is_draw
returns-then-is_draw c =
    let operation = c.args.operation.now in
    let fits : SFits w32 c.in-Some.job = search rules in
    let put = simp to_z-of_z at c.take_back_draw.ensures in
    bounded_back plain_queue queue_bound _ _ operation _
    (λ s few led gave. put ∙ draw_back s _ operation _ (sym c.if-is_order.ensures) (sym c.if-is_draw.ensures) few led (gave ∙ c.in-Some.is))
