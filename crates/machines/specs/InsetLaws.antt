-- An inset over a lawful machine is lawful.
use Rattle.std.specs.Prelude.{◌≡◌, ℕ, Bool, true, false, cond, ◌&&◌, None, nat_le, refl}
use Rattle.machines.specs.Inset.{inset, lowered_operation, lowered_question}
use Rattle.machines.specs.Model.{MachineModel, Lawful}

-- below the base nothing comes, and above it what comes of the machine
fails : {X : Type 0} (above known : Bool) (x none : X) → (known ≡ false → x ≡ none) → (above && known) ≡ false → cond above x none ≡ none
fails true known x none h e = h e
fails false known x none h e = refl

stays : {S N : Type 0} (above : Bool) (moved s : S) (note idle : N) → (note ≡ idle → moved ≡ s) → cond above note idle ≡ idle → cond above moved s ≡ s
stays true moved s note idle h e = h e
stays false moved s note idle h e = refl

pub inset_lawful : (base : ℕ) (m : MachineModel) → Lawful m → Lawful (inset base m)
inset_lawful base m laws = record {
  unknown = λ s operation. fails _ _ _ None (laws.unknown s (lowered_operation base operation));
  idle = λ s operation. stays (nat_le base operation.place) _ s (m.noted s (lowered_operation base operation)) None (laws.idle s (lowered_operation base operation));
  unanswered = λ s question. fails _ _ _ None (laws.unanswered s (lowered_question base question));
}
