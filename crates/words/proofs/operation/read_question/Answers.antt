use Rattle.std.proofs.Common.{◌≡◌, length, rules}
use Rattle.std.proofs.lemmas.Slice.Eq.{bytes_eq-Decides}
use Rattle.words.proofs.Listed.{one, two, four}
use Rattle.words.proofs.operation.read_question.Goals as goal

pub returns-in_default-2 : goal.returns-in_default-2
returns-in_default-2 c = let long : length c.args.words.now ≡ 1 = search rules in rw (one _ long) (search (rules, bytes_eq-Decides))

pub returns-in_default-3 : goal.returns-in_default-3
returns-in_default-3 c = let long : length c.args.words.now ≡ 2 = search rules in rw (two _ long) (search (rules, bytes_eq-Decides))

pub returns-in_default-5 : goal.returns-in_default-5
returns-in_default-5 c = let long : length c.args.words.now ≡ 4 = search rules in rw (four _ long) (search (rules, bytes_eq-Decides))
