-- What a step tells of the state before it, and the laws of a bounded machine.
use Rattle.std.specs.Prelude.{◌≡◌, ℕ, ◌<◌, Bool, true, false, cond, List, length, None, Some, get_or, set, ℤ, slice_index_or, slice_set, refl}
use Rattle.std.proofs.Common.{sym, ap, ◌∙◌, arith, get_or-set_same, set-set}
use mathlib.Core.HLevel.{Σ_prop_path}
use Rattle.std.proofs.lemmas.List.{set-get_or}
use Rattle.machines.specs.Model.{MachineModel, Lawful, TakesBack}
use Rattle.machines.specs.declared.operation.Operation.{Operation}
use Rattle.machines.specs.Model.{Note}
use Rattle.primitives.specs.Bounded.{Bound, bounded}

module _ (m : MachineModel) {Valid : m.State → Type 0} (bound : Bound m Valid) where
  pub bounded_lawful : Lawful m → Lawful (bounded m bound)
  bounded_lawful laws = record {
    unknown = λ s. laws.unknown s.0;
    idle = λ s operation h. Σ_prop_path bound.once (laws.idle s.0 operation h);
    unanswered = λ s. laws.unanswered s.0;
  }

  -- an idle step is taken back by doing nothing
  pub idle_back : Lawful m → (now : (s : m.State) × Valid s) (operation : Operation) (given : Note) → given ≡ None → TakesBack (bounded m bound) now operation given now
  idle_back laws now operation given idle s led gave = sym led ∙ (bounded_lawful laws).idle s operation (gave ∙ idle)

  -- the valid states of the model below are enough
  pub bounded_back : (now after : (s : m.State) × Valid s) (operation : Operation) (given : Note) → ((s : m.State) → Valid s → m.next s operation ≡ now.0 → m.noted s operation ≡ given → after.0 ≡ s) → TakesBack (bounded m bound) now operation given after
  bounded_back now after operation given back s led gave = Σ_prop_path bound.once (back s.0 s.1 (ap (λ t. t.0) led) gave)

-- a step that moves under a test
pub cond_idle : {S : Type 0} (b : Bool) (n : ℤ) (moved s : S) → cond b (Some n) None ≡ None → cond b moved s ≡ s
cond_idle true n moved s h = let z : ◌≡◌ {A = ℕ} 0 1 = cc in absurd (omega arith)
cond_idle false n moved s h = refl

pub cond_moved : (b : Bool) (n k : ℤ) → cond b (Some n) None ≡ Some k → b ≡ true
cond_moved true n k h = refl
cond_moved false n k h = let z : ◌≡◌ {A = ℕ} 0 1 = cc in absurd (omega arith)

-- l is s with a written at i
module _ (s l : List ℤ) (i : ℕ) (a d : ℤ) (led : set s i a ≡ l) where
  pub written : i < length s → slice_index_or l i d ≡ a
  written h = ap (λ (r : List ℤ). get_or r i d) (sym led) ∙ get_or-set_same s i a d h

  pub set_back : (b : ℤ) → b ≡ slice_index_or s i d → slice_set l i b ≡ s
  set_back b e = ap (λ (r : List ℤ). set r i b) (sym led) ∙ set-set s i a b ∙ ap (set s i) e ∙ set-get_or s i d
