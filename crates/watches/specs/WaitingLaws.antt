-- The watch of how many jobs wait keeps the rules of a watch.
use Rattle.std.specs.Prelude.{◌≡◌, ◌+◌, ◌≤◌, Bool, true, false, cond, ◌||◌, List, length, drop, ℤ, pos, Some, ◌==◌, refl}
use Rattle.std.proofs.Common.{sym, ap, arith, length-append, length-drop}
use Rattle.std.proofs.lemmas.Bool.{eq-eqb, eqb-true, lt-ltb, true≢false}
use Rattle.std.proofs.lemmas.Bool.Decides.{nat_tests}
use Rattle.primitives.specs.Queue.{queue, is_order, is_draw, ordered}
use Rattle.watches.specs.Spans.{span, spans}
use Rattle.watches.specs.Waiting.{waiting_question, waiting_summary, waiting_figure}
use Rattle.watches.specs.Watch.{WatchRules}
use Rattle.watches.specs.declared.span.Span.{Span}
use Rattle.watches.specs.declared.waiting.WaitingWatch.{WaitingWatch}

-- the summary of an operation, by whether it is an order and whether it is a draw
abbrev summary : Bool → Bool → Span
summary order draw = cond order (span 0 1) (cond draw (span 1 0) (span 0 0))

-- a light span has too few jobs left to fill the queue, so that no order is idle
step : (s : Span) (jobs : List ℤ) (job : ℤ) (order draw : Bool) → spans.weight s + spans.weight (summary order draw) ≤ 1024 → s.left ≡ length jobs → (spans.join s (summary order draw)).left ≡ length (cond order (ordered jobs job) (cond draw (drop 1 jobs) jobs))
step s jobs job true draw light same = rw (lt-ltb (length jobs) 1024 (omega arith)) (simp length-append (grind (arith, nat_tests)))
step s jobs job false true light same = simp length-drop (grind (arith, nat_tests))
step s jobs job false false light same = grind (arith, nat_tests)

light : (order draw : Bool) → spans.weight (summary order draw) ≤ 1
light true draw = omega arith
light false true = omega arith
light false false = omega arith

unknown : (order draw : Bool) → (order || draw) ≡ false → summary order draw ≡ spans.unit
unknown true draw h = absurd (true≢false h)
unknown false true h = absurd (true≢false h)
unknown false false h = refl

pub waiting_rules : (watch : WaitingWatch) → WatchRules queue spans (waiting_question watch) (waiting_summary watch) (waiting_figure watch)
waiting_rules watch = record {
  answered = refl;
  light = λ operation. light (is_order operation) (is_draw operation);
  unknown = λ operation. unknown (is_order operation) (is_draw operation);
  matches = λ s state. (s.left == length state.0);
  starts = refl;
  follows = λ s state operation light h. eq-eqb _ _ (step s state.0 operation.amount (is_order operation) (is_draw operation) light (eqb-true _ _ h));
  tells = λ s state h. ap (λ n. Some (pos n)) (sym (eqb-true _ _ h));
}
