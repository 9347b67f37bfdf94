-- The watch of one cell keeps the rules of a watch, and is given by its cell.
use Rattle.std.specs.Prelude.{◌≡◌, ◌+◌, ◌<◌, ◌≤◌, Bool, true, false, cond, ◌&&◌, ltb, List, length, get_or, ℤ, pos, ◌+ℤ◌, Some, ◌==◌, int_le, nat_lt, slice_index_or, unsigned_abs, refl}
use Rattle.std.proofs.Common.{sym, ap, ◌∙◌, ⊎_elim, arith}
use Rattle.std.proofs.Math.Bool.{Bool-set}
use Rattle.std.proofs.lemmas.List.{get_or-replicate, get_or-set_same, get_or-set_other}
use Rattle.std.proofs.lemmas.Int.{ints}
use Rattle.std.proofs.lemmas.Bool.{and_parts, both_ways, cases_Bool, cond_both, eqb-true, ltb-true}
use Rattle.std.proofs.lemmas.Bool.Decides.{nat_tests}
use Rattle.machines.specs.declared.operation.Operation.{Operation}
use Rattle.primitives.specs.Ranges.{within}
use Rattle.primitives.specs.Tally.{plain_tally, tally, is_change, moves, sum}
use Rattle.watches.specs.Cell.{cell_figure, cell_question, cell_summary, watch_if, watch_of}
use Rattle.watches.specs.Sums.{sum_of, sums}
use Rattle.watches.specs.Watch.{WatchRules}
use Rattle.watches.specs.declared.cell.CellWatch.{CellWatch}
use Rattle.watches.specs.declared.sum.Sum.{Sum}

-- a watch is given by its cell
pub watch_back : (watch : CellWatch) → Some watch ≡ watch_of watch.cell
watch_back watch = go (nat_lt watch.cell 64) refl
  where
    go : (answer : Bool) (exists : ltb watch.cell 64 ≡ answer) → Some watch ≡ watch_if watch.cell answer exists
    go true exists = ap (λ e. Some (record { cell = watch.cell; exists = e })) (Bool-set _ _ watch.exists exists)
    go false exists = absurd (both_ways _ exists watch.exists)

-- a test that two integers are equal
abbrev same : ℤ → ℤ → Bool
same a b = int_le a b && int_le b a

same_true : (a b : ℤ) → same a b ≡ true → a ≡ b
same_true a b h = grind (arith, ints)

same_from : (a b : ℤ) → a ≡ b → same a b ≡ true
same_from a b e = grind (arith, ints)

-- a light total takes in a known amount
in_range : (s : Sum) (amount : ℤ) → sums.weight s ≤ 1024 → within 1_000_000 amount ≡ true → within 2_000_000_000 (s.total +ℤ amount) ≡ true
in_range s amount light small =
    let most : unsigned_abs s.total ≤ 1_024_000_000 = omega arith in
    grind (arith, ints)

small_light : (amount : ℤ) → within 1_000_000 amount ≡ true → sums.weight (sum_of amount) ≤ 1
small_light amount small = let most : unsigned_abs amount ≤ 1_000_000 = grind (arith, ints) in omega arith

module _ (watch : CellWatch) where
  abbrev count : List ℤ → ℤ
  count counts = slice_index_or counts watch.cell (pos 0)

  abbrev takes : Operation → Bool
  takes operation = is_change operation && operation.place == watch.cell

  amount_small : (operation : Operation) → takes operation ≡ true → within 1_000_000 operation.amount ≡ true
  amount_small operation h = grind (arith, nat_tests)

  -- a light total never leaves the range of a count, so that no change of the cell is idle
  step : (s : Sum) (counts : List ℤ) (operation : Operation) → length counts ≡ 64 → sums.weight s + sums.weight (cell_summary watch operation) ≤ 1024 → s.total ≡ count counts → (sums.join s (cell_summary watch operation)).total ≡ count (plain_tally.next counts operation)
  step s counts operation long light is = ⊎_elim here elsewhere (cases_Bool (takes operation))
    where
      here : takes operation ≡ true → s.total +ℤ cond (takes operation) operation.amount (pos 0) ≡ count (plain_tally.next counts operation)
      here test =
          let parts = and_parts (is_change operation) (operation.place == watch.cell) test in
          let place : operation.place ≡ watch.cell = eqb-true operation.place watch.cell parts.1 in
          let inside = in_range s operation.amount (omega arith) (amount_small operation test) in
          let below : watch.cell < 64 = ltb-true _ _ watch.exists in
          let sum_is : sum counts operation ≡ s.total +ℤ operation.amount = ap (λ x. x +ℤ operation.amount) (ap (λ k. get_or counts k (pos 0)) place ∙ sym is) in
          let moved : moves counts operation ≡ true = rw (parts.0, sum_is) inside in
          rw (test, moved, ← place) (sym (get_or-set_same counts operation.place (sum counts operation) (pos 0) (omega arith) ∙ sum_is))

      elsewhere : takes operation ≡ false → s.total +ℤ cond (takes operation) operation.amount (pos 0) ≡ count (plain_tally.next counts operation)
      elsewhere test =
          let none : s.total +ℤ pos 0 ≡ s.total = omega (arith, ints) in
          rw test
          (none
          ∙ cond_both (moves counts operation) _ _ (λ next. s.total ≡ count next)
          (λ moved. is ∙ sym (get_or-set_other counts operation.place watch.cell (sum counts operation) (pos 0) (λ e. grind (arith, nat_tests))))
          (λ _. is))

  pub cell_rules : WatchRules tally sums (cell_question watch) (cell_summary watch) (cell_figure watch)
  cell_rules = record {
    answered = rw watch.exists refl;
    light = λ operation. cond_both (takes operation) _ _ (λ amount. sums.weight (sum_of amount) ≤ 1) (λ test. small_light operation.amount (amount_small operation test)) (λ _. omega arith);
    unknown = λ operation h. rw h;
    matches = λ s state. same s.total (count state.0);
    starts = same_from _ _ (sym (get_or-replicate 64 watch.cell (pos 0) (pos 0) (ltb-true _ _ watch.exists)));
    follows = λ s state operation light h. same_from _ _ (step s state.0 operation state.1 light (same_true _ _ h));
    tells = λ s state h. rw watch.exists (ap Some (sym (same_true _ _ h)));
  }
