use Rattle.std.proofs.Common.{◌≡◌, ◌≤◌, length, Err, refl, rules}
use Rattle.std.proofs.lemmas.Slice.Eq.{bytes_eq-Decides}
use Rattle.words.specs.Operations.{operation}
use Rattle.words.specs.declared.reason.Reason.TheVariants.{UnknownOperation}
use Rattle.words.proofs.Listed.{one, two, three, four, five_up}
use Rattle.words.proofs.operation.read_operation.Goals as goal

pub returns-in_default-2 : goal.returns-in_default-2
returns-in_default-2 c = let long : length c.args.words.now ≡ 1 = search rules in rw (one _ long) (search (rules, bytes_eq-Decides))

pub returns-in_default-3 : goal.returns-in_default-3
returns-in_default-3 c = let long : length c.args.words.now ≡ 2 = search rules in rw (two _ long) (search (rules, bytes_eq-Decides))

pub returns-in_default-4 : goal.returns-in_default-4
returns-in_default-4 c = let long : length c.args.words.now ≡ 3 = search rules in rw (three _ long) (search (rules, bytes_eq-Decides))

pub returns-in_default-5 : goal.returns-in_default-5
returns-in_default-5 c = let long : length c.args.words.now ≡ 4 = search rules in rw (four _ long) (search (rules, bytes_eq-Decides))

pub returns-in_default-6 : goal.returns-in_default-6
returns-in_default-6 c = let long : 5 ≤ length c.args.words.now = search rules in five_up (λ ws. Err UnknownOperation ≡ operation ws) (λ a b c d e more. refl) _ long
