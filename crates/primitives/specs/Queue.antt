-- At most 1,024 jobs that wait, the first in being the first out: an order puts a job at the end, a draw takes the one at the front.
use Rattle.std.specs.Prelude.{◌≤◌, Bool, cond, ◌&&◌, ◌||◌, List, [], ◌∷◌, ◌++◌, length, drop, ℤ, pos, Some, None, ◌==◌, nat_lt, unsigned_abs}
use Rattle.std.proofs.Common.{zero-le, arith, length-append, length-drop}
use Rattle.std.proofs.Math.Bridge.{le_prop}
use Rattle.std.proofs.lemmas.Bool.{cond_both, ltb-true}
use Rattle.std.specs.List.{slice_get}
use Rattle.machines.specs.Model.{MachineModel}
use Rattle.machines.specs.declared.operation.Operation.{Operation}
use Rattle.machines.specs.declared.operation.Question.{Question}
use Rattle.machines.specs.Model.{Note}
use Rattle.primitives.specs.Bounded.{Bound, bounded}
use Rattle.primitives.specs.Ranges.{up_to}

abbrev pub is_order : Operation → Bool
is_order operation = operation.code == 2 && operation.place == 0 && up_to 999_999 operation.amount

abbrev pub is_draw : Operation → Bool
is_draw operation = operation.code == 3 && operation.place == 0 && up_to 0 operation.amount

-- how many jobs wait
abbrev pub asks_length : Question → Bool
asks_length question = question.code == 2 && question.place == 0 && up_to 0 question.index

-- which job waits at an index, 0 being the front
abbrev pub asks_job : Question → Bool
asks_job question = question.code == 3 && question.place == 0 && up_to 1023 question.index

-- there is room for one more
abbrev pub has_room : List ℤ → Bool
has_room s = nat_lt (length s) 1024

abbrev pub ordered : List ℤ → ℤ → List ℤ
ordered s job = cond (has_room s) (s ++ (job ∷ [])) s

abbrev pub order_note : List ℤ → Note
order_note s = cond (has_room s) (Some (pos 0)) None

abbrev pub draw_note : List ℤ → Note
draw_note [] = None
draw_note (job ∷ rest) = Some job

-- over any list of jobs
abbrev pub plain_queue : MachineModel
plain_queue = record {
  State = List ℤ;
  empty = [];
  knows = λ operation. is_order operation || is_draw operation;
  answers = λ question. asks_length question || asks_job question;
  next = λ s operation. cond (is_order operation) (ordered s operation.amount) (cond (is_draw operation) (drop 1 s) s);
  noted = λ s operation. cond (is_order operation) (order_note s) (cond (is_draw operation) (draw_note s) None);
  reads = λ s question. cond (asks_length question) (Some (pos (length s))) (cond (asks_job question) (slice_get s (unsigned_abs question.index)) None);
}

abbrev pub Few : List ℤ → Type 0
Few s = length s ≤ 1024

few_ordered : (s : List ℤ) (job : ℤ) → Few s → Few (ordered s job)
few_ordered s job few = cond_both (has_room s) _ s Few (λ room. rw length-append (omega (arith, ltb-true (length s) 1024 room))) (λ _. few)

pub queue_bound : Bound plain_queue Few
queue_bound = record {
  once = λ s. le_prop;
  starts = zero-le;
  keeps = λ s operation few. cond_both (is_order operation) _ _ Few (λ _. few_ordered s operation.amount few) (λ _. cond_both (is_draw operation) _ s Few (λ _. rw length-drop (omega arith)) (λ _. few));
}

abbrev pub queue : MachineModel
queue = bounded plain_queue queue_bound
