-- 64 counts, all 0 at first: a change adds its amount to one of them.
use Rattle.std.specs.Prelude.{◌≡◌, Bool, cond, ◌&&◌, List, length, replicate, ℤ, pos, ◌+ℤ◌, Some, None, ◌==◌, nat_lt, slice_index_or, slice_set, refl}
use Rattle.std.proofs.Common.{◌∙◌, length-set}
use Rattle.std.proofs.Math.Nat.{ℕ_set}
use Rattle.std.proofs.lemmas.Bool.{cond_both}
use Rattle.machines.specs.Model.{MachineModel}
use Rattle.machines.specs.declared.operation.Operation.{Operation}
use Rattle.machines.specs.declared.operation.Question.{Question}
use Rattle.primitives.specs.Bounded.{Bound, bounded}
use Rattle.primitives.specs.Numbers.{asks_number, number_asked}
use Rattle.primitives.specs.Ranges.{within}

abbrev pub is_change : Operation → Bool
is_change operation = operation.code == 1 && nat_lt operation.place 64 && within 1_000_000 operation.amount

abbrev pub asks_count : Question → Bool
asks_count = asks_number 1

abbrev pub sum : List ℤ → Operation → ℤ
sum s operation = slice_index_or s operation.place (pos 0) +ℤ operation.amount

-- a change is idle where the sum would leave the range of a count
abbrev pub moves : List ℤ → Operation → Bool
moves s operation = is_change operation && within 2_000_000_000 (sum s operation)

-- over any list of counts
abbrev pub plain_tally : MachineModel
plain_tally = record {
  State = List ℤ;
  empty = replicate 64 (pos 0);
  knows = is_change;
  answers = asks_count;
  next = λ s operation. cond (moves s operation) (slice_set s operation.place (sum s operation)) s;
  noted = λ s operation. cond (moves s operation) (Some (pos 0)) None;
  reads = number_asked 1;
}

pub tally_bound : Bound plain_tally (λ s. length s ≡ 64)
tally_bound = record {
  once = λ s. ℕ_set _ _;
  starts = refl;
  keeps = λ s operation long. cond_both (moves s operation) _ s (λ l. length l ≡ 64) (λ _. length-set s _ _ ∙ long) (λ _. long);
}

abbrev pub tally : MachineModel
tally = bounded plain_tally tally_bound
