use Rattle.std.proofs.Common.{◌≤◌, length, rules}
use Rattle.std.proofs.lemmas.Slice.Eq.{bytes_eq-Decides}
use Rattle.words.proofs.Listed.{one_up}
use Rattle.script.proofs.script.read_setting.Goals as goal

pub returns-in_default : goal.returns-in_default
returns-in_default c = let long : 1 ≤ length c.args.words.now = search rules in rw (one_up _ long) (search (rules, bytes_eq-Decides))
