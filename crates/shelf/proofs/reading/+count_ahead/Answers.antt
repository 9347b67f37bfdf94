use Rattle.std.proofs.Common.{arith}
use Rattle.std.proofs.lemmas.List.{get_or_read}
use Rattle.slots.specs.Slots.{blank}
use Rattle.shelf.proofs.Readings.{counts_leaf, counts_none, counts_left, counts_right}
use Rattle.shelf.proofs.reading.+count_ahead.Goals as goal

pub returns-in_default : goal.returns-in_default
returns-in_default g t c = record { counts = counts_leaf g.S.Summary.model g.D.Date.model c.args.place.date c.args.place.number c.args.shelf.now c.args.link c.args.depth c.in_default.ensures.lookup.3 }

pub returns-then-depth-eq0 : goal.returns-then-depth-eq0
returns-then-depth-eq0 g t c = record { counts = counts_none g.S.Summary.model g.D.Date.model c.args.place.date c.args.place.number c.args.shelf.now c.args.link c.args.depth _ c.in-Some.ensures.lookup.3.0 c.if-depth-eq0.true }

pub returns-then-has_ahead : goal.returns-then-has_ahead
returns-then-has_ahead g t c =
    let node = get_or_read c.args.shelf.now c.args.link c.in-Some.node.now c.in-Some.ensures.lookup.3.0 c.in-Some.ensures.lookup.1 (blank g.S.Summary.model) in
    record { counts = counts_right g.S.Summary.model g.D.Date.model c.args.place.date c.args.place.number c.args.shelf.now c.args.link c.args.depth c.in-Some.ensures.lookup.3.0 (omega arith) c.in-Some.node.now node c.count_at.result c.count_ahead-rest.result c.count_over.result c.count_at.ensures c.count_over.ensures (cc) c.count_ahead-rest.ensures.counts }

pub returns-else-has_ahead : goal.returns-else-has_ahead
returns-else-has_ahead g t c =
    let node = get_or_read c.args.shelf.now c.args.link c.in-Some.node.now c.in-Some.ensures.lookup.3.0 c.in-Some.ensures.lookup.1 (blank g.S.Summary.model) in
    record { counts = counts_left g.S.Summary.model g.D.Date.model c.args.place.date c.args.place.number c.args.shelf.now c.args.link c.args.depth c.in-Some.ensures.lookup.3.0 (omega arith) c.in-Some.node.now node c.count_ahead.result (cc) c.count_ahead.ensures.counts }
