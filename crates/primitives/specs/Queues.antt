-- The laws of a queue, and what its step tells of the jobs before it.
use Rattle.std.specs.Prelude.{◌≡◌, ℕ, ◌-◌, Bool, true, false, cond, List, [], ◌∷◌, ◌++◌, length, take, drop, ℤ, pos, None, Some, refl}
use Rattle.std.proofs.Common.{◌∙◌, arith, length-append}
use Rattle.std.proofs.lemmas.List.{take_at}
use Rattle.std.proofs.lemmas.Bool.{cond-true, cond-false, or_parts, lt-ltb}
use mathlib.Core.HLevel.{Σ_prop_path}
use Rattle.machines.specs.Model.{Lawful}
use Rattle.machines.specs.declared.operation.Operation.{Operation}
use Rattle.primitives.specs.Queue.{queue, queue_bound, plain_queue, is_order, is_draw, asks_length, asks_job, has_room, ordered, order_note, draw_note, Few}
use Rattle.primitives.specs.Steps.{cond_idle, cond_moved}

-- of three ways, by two tests
neither : {X : Type 0} (o d : Bool) (x y none : X) → o ≡ false → d ≡ false → cond o x (cond d y none) ≡ none
neither o d x y none p q = cond-false o _ _ p ∙ cond-false d _ _ q

stays : (o d : Bool) (s : List ℤ) (job : ℤ) → cond o (order_note s) (cond d (draw_note s) None) ≡ None → cond o (ordered s job) (cond d (drop 1 s) s) ≡ s
stays true d s job h = cond_idle (has_room s) (pos 0) _ s h
stays false true [] job h = refl
stays false true (x ∷ xs) job h = let z : ◌≡◌ {A = ℕ} 0 1 = cc in absurd (omega arith)
stays false false s job h = refl

-- states with the same numbers are the same
pub queue_same : (a b : queue.State) → a.0 ≡ b.0 → a ≡ b
queue_same a b = Σ_prop_path queue_bound.once

pub queue_lawful : Lawful plain_queue
queue_lawful = record {
  unknown = λ s operation h. let p = or_parts (is_order operation) (is_draw operation) h in neither (is_order operation) (is_draw operation) _ _ None p.0 p.1;
  idle = λ s operation. stays (is_order operation) (is_draw operation) s operation.amount;
  unanswered = λ s question h. let p = or_parts (asks_length question) (asks_job question) h in neither (asks_length question) (asks_job question) _ _ _ p.0 p.1;
}

-- all but the last
all_but : (s : List ℤ) (job : ℤ) → take (length (s ++ (job ∷ [])) - 1) (s ++ (job ∷ [])) ≡ s
all_but s job = take_at s (job ∷ []) _ (rw length-append (omega arith))

pub order_back : (s l : List ℤ) (operation : Operation) (k : ℤ) → is_order operation ≡ true → plain_queue.next s operation ≡ l → plain_queue.noted s operation ≡ Some k → take (length l - 1) l ≡ s
order_back s l operation k known led gave =
    let room : has_room s ≡ true = cond_moved _ _ _ (rw known at gave) in
    let put : s ++ (operation.amount ∷ []) ≡ l = rw (known, room) at led in
    rw (← put) (all_but s operation.amount)

drawn : (s l : List ℤ) (k : ℤ) → Few s → drop 1 s ≡ l → draw_note s ≡ Some k → cond (has_room l) (k ∷ l) l ≡ s
drawn [] l k few led gave = let z : ◌≡◌ {A = ℕ} 0 1 = cc in absurd (omega arith)
drawn (x ∷ xs) l k few led gave =
    let rest : xs ≡ l = led in
    let job : x ≡ k = cc in
    let room : has_room l ≡ true = lt-ltb (length l) 1024 (rw (← rest) few) in
    cond-true (has_room l) _ l room ∙ cc

pub draw_back : (s l : List ℤ) (operation : Operation) (k : ℤ) → is_order operation ≡ false → is_draw operation ≡ true → Few s → plain_queue.next s operation ≡ l → plain_queue.noted s operation ≡ Some k → cond (has_room l) (k ∷ l) l ≡ s
draw_back s l operation k other known few led gave = drawn s l k few (rw (other, known) at led) (rw (other, known) at gave)
