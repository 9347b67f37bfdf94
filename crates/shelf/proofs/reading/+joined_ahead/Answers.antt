use Rattle.std.proofs.Common.{arith}
use Rattle.std.proofs.lemmas.List.{get_or_read}
use Rattle.slots.specs.Slots.{blank}
use Rattle.shelf.proofs.Readings.{joins_leaf, joins_none, joins_left, joins_right}
use Rattle.shelf.proofs.reading.+joined_ahead.Goals as goal

pub returns-in_default : goal.returns-in_default
returns-in_default g t c = record { joins = joins_leaf g.W.Summary.Summary.model g.met.W.Summary.Summary.lawful (g.W.Watch.summed c.args.watch.now) (g.met.W.Watch.rules c.args.watch.now).light g.D.Date.model c.args.place.date c.args.place.number c.args.shelf.now c.args.link c.args.depth c.unit.result c.unit.ensures c.in_default.ensures.lookup.3 }

pub returns-then-depth-eq0 : goal.returns-then-depth-eq0
returns-then-depth-eq0 g t c = record { joins = joins_none g.W.Summary.Summary.model g.met.W.Summary.Summary.lawful (g.W.Watch.summed c.args.watch.now) (g.met.W.Watch.rules c.args.watch.now).light g.D.Date.model c.args.place.date c.args.place.number c.args.shelf.now c.args.link c.args.depth _ c.in-Some.ensures.lookup.3.0 c.if-depth-eq0.true }

pub returns-then-has_ahead : goal.returns-then-has_ahead
returns-then-has_ahead g t c =
    let node = get_or_read c.args.shelf.now c.args.link c.in-Some.node.now c.in-Some.ensures.lookup.3.0 c.in-Some.ensures.lookup.1 (blank g.W.Summary.Summary.model) in
    record { joins = joins_right g.W.Summary.Summary.model g.met.W.Summary.Summary.lawful (g.W.Watch.summed c.args.watch.now) (g.met.W.Watch.rules c.args.watch.now).light g.D.Date.model c.args.place.date c.args.place.number c.args.shelf.now c.args.link c.args.depth c.in-Some.ensures.lookup.3.0 (omega arith) c.in-Some.node.now node c.joined_at.result c.contribution.result c.joined_ahead-rest.result c.joined_over.result c.joined_at.ensures (cc) c.joined_over.ensures (cc) c.joined_ahead-rest.ensures.joins }

pub returns-else-has_ahead : goal.returns-else-has_ahead
returns-else-has_ahead g t c =
    let node = get_or_read c.args.shelf.now c.args.link c.in-Some.node.now c.in-Some.ensures.lookup.3.0 c.in-Some.ensures.lookup.1 (blank g.W.Summary.Summary.model) in
    record { joins = joins_left g.W.Summary.Summary.model g.met.W.Summary.Summary.lawful (g.W.Watch.summed c.args.watch.now) (g.met.W.Watch.rules c.args.watch.now).light g.D.Date.model c.args.place.date c.args.place.number c.args.shelf.now c.args.link c.args.depth c.in-Some.ensures.lookup.3.0 (omega arith) c.in-Some.node.now node c.joined_ahead.result (cc) c.joined_ahead.ensures.joins }
