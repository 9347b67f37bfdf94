use Rattle.std.proofs.Common.{◌≡◌, ◌≤◌, length, rules}
use Rattle.std.proofs.lemmas.Slice.Eq.{bytes_eq-Decides}
use Rattle.words.proofs.Listed.{none, one, two_up}
use Rattle.script.proofs.command.read_call.Goals as goal
use Rattle.script.proofs.command.read_call.Goals.{then-words-lt2+in-dates-1, else-words-lt2+in-dates-1, in_default-via-then-words-lt1, in_default-via-else-words-lt1+then-words-lt2+in_default, in_default-via-else-words-lt1+else-words-lt2+in_default}

pub returns-in-dates : goal.returns-in-dates
returns-in-dates g c =
    elim c.in-dates-1.branch [
      | then-words-lt2+in-dates-1 w ↦ let long : length c.args.words.now ≡ 1 = search rules in rw (one _ long) (search rules)
      | else-words-lt2+in-dates-1 w ↦ let long : 2 ≤ length c.args.words.now = search rules in rw (two_up _ long) (search (rules, bytes_eq-Decides))
    ]

pub returns-in_default : goal.returns-in_default
returns-in_default g c =
    elim c.in_default.branch [
      | in_default-via-then-words-lt1 w ↦ let long : length c.args.words.now ≡ 0 = search rules in rw (none _ long) (search rules)
      | in_default-via-else-words-lt1+then-words-lt2+in_default w ↦ let long : length c.args.words.now ≡ 1 = search rules in rw (one _ long) (search (rules, bytes_eq-Decides))
      | in_default-via-else-words-lt1+else-words-lt2+in_default w ↦ let long : 2 ≤ length c.args.words.now = search rules in rw (two_up _ long) (search (rules, bytes_eq-Decides))
    ]
