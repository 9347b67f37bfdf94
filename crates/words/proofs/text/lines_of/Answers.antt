use Rattle.std.proofs.Common.{◌≡◌, IfOk, vec_items, subst, lit<}
use Rattle.std.proofs.lemmas.Iterator.Consumers.{map_from_collect}
use Rattle.std.proofs.lemmas.Iterator.Splits.{YieldsList-from_str_split}
use Rattle.words.specs.Text.{spelled}
use Rattle.words.proofs.Lines.{pieces_are_lines}
use Rattle.words.proofs.text.lines_of.Goals as goal

pub returns : goal.returns
returns c =
    subst (λ ls. IfOk c.collect.result (λ v. spelled (vec_items v) ≡ ls)) (pieces_are_lines c.args.text.now)
    (map_from_collect _ c.collect.ensures.ran (YieldsList-from_str_split 10 c.args.text.now (lit< tt) c.split.ensures.text c.split.ensures.has_more c.split.ensures.pattern))
