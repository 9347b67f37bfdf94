-- That taking back restores the state before the step.
use Rattle.std.proofs.Common.{get_or, set, pos, ap, ◌∙◌, w32, SFits, rules}
use Rattle.std.proofs.lemmas.Int.{wrapping_sub_is}
use Rattle.primitives.specs.Tally.{plain_tally, tally_bound}
use Rattle.primitives.specs.Steps.{idle_back, bounded_back}
use Rattle.primitives.specs.Tallies.{tally_lawful, tally_back}
use Rattle.primitives.proofs.tally.TallyMachine.take_back.Goals as goal

pub returns-in_default : goal.returns-in_default
returns-in_default c = idle_back plain_tally tally_bound tally_lawful _ c.args.operation.now _ c.in_default.is

pub returns-then-knows : goal.returns-then-knows
returns-then-knows c =
    let operation = c.args.operation.now in
    let l = c.args.self.now.counts.items in
    let fits_count : SFits w32 (get_or l operation.place (pos 0)) = search rules in
    let fits_amount : SFits w32 operation.amount = search rules in
    bounded_back plain_tally tally_bound _ _ operation _
    (λ s long led gave. ap (set l operation.place) (wrapping_sub_is w32 _ _ fits_count fits_amount) ∙ tally_back s l operation _ long led (gave ∙ c.in-Some.is))
