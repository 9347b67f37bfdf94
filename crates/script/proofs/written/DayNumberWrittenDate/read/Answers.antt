use Rattle.std.proofs.Common.{Some, Ok, ap, ◌∙◌, w32, SFits, rules}
use Rattle.std.proofs.lemmas.Int.{to_z-of_z}
use Rattle.std.specs.Option.{option_map}
use Rattle.dates.specs.Day.{numbered}
use Rattle.script.proofs.written.DayNumberWrittenDate.read.Goals as goal

pub returns : goal.returns
returns c =
    let number = c.in_ok-read_number.field-0 in
    let fits : SFits w32 number = search rules in
    ap (λ day. Some (Ok day)) (c.new.ensures.whole ∙ ap numbered (to_z-of_z w32 number fits)) ∙ ap (option_map (λ n. Ok (numbered n))) c.in_ok-read_number.ensures
