-- The laws of a tally, and what its step tells of the counts before it.
use Rattle.std.specs.Prelude.{◌≡◌, ◌<◌, true, List, length, get_or, ℤ, pos, ◌+ℤ◌, ◌-ℤ◌, Some, FitsSigned, slice_index_or, slice_set}
use Rattle.std.proofs.Common.{sym, ◌∙◌, arith}
use Rattle.std.specs.Int.{int_wrap, w32}
use Rattle.std.proofs.lemmas.Int.{ints, int_wrap_fits}
use Rattle.std.proofs.lemmas.Bool.{cond-false, and_left}
use Rattle.std.proofs.lemmas.Bool.Decides.{nat_tests}
use mathlib.Core.HLevel.{Σ_prop_path}
use Rattle.machines.specs.Model.{Lawful}
use Rattle.machines.specs.declared.operation.Operation.{Operation}
use Rattle.primitives.specs.Ranges.{within}
use Rattle.primitives.specs.Tally.{tally, tally_bound, plain_tally, moves, sum}
use Rattle.primitives.specs.Steps.{cond_idle, cond_moved, written, set_back}

-- states with the same numbers are the same
pub tally_same : (a b : tally.State) → a.0 ≡ b.0 → a ≡ b
tally_same a b = Σ_prop_path tally_bound.once

pub tally_lawful : Lawful plain_tally
tally_lawful = record {
  unknown = λ s operation h. cond-false _ _ _ (and_left _ _ h);
  idle = λ s operation h. cond_idle (moves s operation) (pos 0) _ s h;
  unanswered = λ s question h. cond-false _ _ _ h;
}

-- taking an amount off again does not wrap
taken_off : (before amount count : ℤ) → before +ℤ amount ≡ count → within 1_000_000 amount ≡ true → within 2_000_000_000 count ≡ true → int_wrap w32 (count -ℤ amount) ≡ before
taken_off before amount count e small inside =
    let is : count -ℤ amount ≡ before = omega (arith, ints) in
    let fits : FitsSigned w32 (count -ℤ amount) = record { sfits = grind (arith, ints) } in
    int_wrap_fits w32 _ fits ∙ is

module _ (s l : List ℤ) (operation : Operation) (k : ℤ) (long : length s ≡ 64) (led : plain_tally.next s operation ≡ l) (gave : plain_tally.noted s operation ≡ Some k) where
  moved : moves s operation ≡ true
  moved = cond_moved _ _ _ gave

  pub tally_back : slice_set l operation.place (int_wrap w32 (slice_index_or l operation.place (pos 0) -ℤ operation.amount)) ≡ s
  tally_back =
      let m = moved in
      let wrote : slice_set s operation.place (sum s operation) ≡ l = rw moved at led in
      let place : operation.place < length s = grind (arith, nat_tests) in
      let count : get_or l operation.place (pos 0) ≡ sum s operation = written s l operation.place (sum s operation) (pos 0) wrote place in
      let small : within 1_000_000 operation.amount ≡ true = grind (arith, ints) in
      let inside : within 2_000_000_000 (slice_index_or l operation.place (pos 0)) ≡ true = rw count (grind (arith, ints)) in
      set_back s l operation.place (sum s operation) (pos 0) wrote _ (taken_off (slice_index_or s operation.place (pos 0)) operation.amount _ (sym count) small inside)
