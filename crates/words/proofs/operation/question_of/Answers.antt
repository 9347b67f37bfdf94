use Rattle.std.proofs.Common.{rules}
use Rattle.words.proofs.Raw.{made_of}
use Rattle.words.proofs.operation.question_of.Goals as goal

pub returns : goal.returns
returns c = made_of (λ code place index. record { code = code; place = place; index = index }) c.map.result c.args.code.now c.args.place.now c.args.index.now c.raw_numbers.result c.raw_numbers.ensures (search rules)
