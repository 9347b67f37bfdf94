use Rattle.std.proofs.Common.{◌≡◌, length, rules}
use Rattle.std.proofs.lemmas.Slice.Eq.{bytes_eq-Decides}
use Rattle.words.proofs.Listed.{one}
use Rattle.script.proofs.script.read_kind.Goals as goal

pub returns-in_default-2 : goal.returns-in_default-2
returns-in_default-2 c = let long : length c.args.words.now ≡ 1 = search rules in rw (one _ long) (search (rules, bytes_eq-Decides))
