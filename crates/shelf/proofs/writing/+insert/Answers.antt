use Rattle.std.proofs.Common.{sym, ◌∙◌, arith}
use Rattle.std.proofs.lemmas.List.{get_or_read}
use Rattle.slots.specs.Slots.{blank}
use Rattle.slots.proofs.Chains.{then_kept}
use Rattle.shelf.proofs.Insertions.{insert_leaf, insert_none, insert_left, insert_right}
use Rattle.shelf.proofs.writing.+insert.Goals as goal

pub returns-in_default-clause-inserts : goal.returns-in_default-clause-inserts
returns-in_default-clause-inserts g t c = insert_leaf g.W.Summary.Summary.model (g.W.Watch.summed c.args.watch.now) g.D.Date.model g.met.D.Date.lawful c.args.date.now c.args.shelf.now c.args.link c.args.n c.args.depth _ _ c.in_default.ensures.lookup.3 c.put.ensures.makes

pub returns-then-depth-eq0-clause-inserts : goal.returns-then-depth-eq0-clause-inserts
returns-then-depth-eq0-clause-inserts g t c = insert_none g.W.Summary.Summary.model (g.W.Watch.summed c.args.watch.now) g.D.Date.model g.met.D.Date.lawful c.args.date.now c.args.shelf.now c.args.link c.args.n c.args.depth c.in-Some.ensures.lookup.3.0 c.if-depth-eq0.true

pub returns-then-has_ahead : goal.returns-then-has_ahead
returns-then-has_ahead g t c =
    let node = get_or_read c.args.shelf.now c.args.link c.in-Some.node.now c.in-Some.ensures.lookup.3.0 c.in-Some.ensures.lookup.1 (blank g.W.Summary.Summary.model) in
    record { kept = then_kept g.W.Summary.Summary.model c.args.shelf.now c.insert-right.new.shelf c.rebalance.new.shelf c.insert-right.ensures.kept c.rebalance.ensures.kept; inserts = insert_right g.W.Summary.Summary.model (g.W.Watch.summed c.args.watch.now) g.D.Date.model g.met.D.Date.lawful c.args.date.now c.args.shelf.now c.args.link c.args.n c.args.depth c.insert-right.new.shelf c.rebalance.new.shelf c.insert-right.result c.rebalance.result c.in-Some.ensures.lookup.3.0 (omega arith) (omega arith) c.in-Some.node.now node c.parts-parts.result c.parts-parts.ensures c.insert-right.ensures.kept (sym (rw c.behind.ensures at c.has_ahead.ensures) ∙ c.if-has_ahead.true) c.insert-right.ensures.inserts c.rebalance.ensures.makes }

pub returns-else-has_ahead : goal.returns-else-has_ahead
returns-else-has_ahead g t c =
    let node = get_or_read c.args.shelf.now c.args.link c.in-Some.node.now c.in-Some.ensures.lookup.3.0 c.in-Some.ensures.lookup.1 (blank g.W.Summary.Summary.model) in
    record { kept = then_kept g.W.Summary.Summary.model c.args.shelf.now c.insert-left.new.shelf c.rebalance-else-has_ahead.new.shelf c.insert-left.ensures.kept c.rebalance-else-has_ahead.ensures.kept; inserts = insert_left g.W.Summary.Summary.model (g.W.Watch.summed c.args.watch.now) g.D.Date.model g.met.D.Date.lawful c.args.date.now c.args.shelf.now c.args.link c.args.n c.args.depth c.insert-left.new.shelf c.rebalance-else-has_ahead.new.shelf c.insert-left.result c.rebalance-else-has_ahead.result c.in-Some.ensures.lookup.3.0 (omega arith) (omega arith) c.in-Some.node.now node c.parts-parts.result c.parts-parts.ensures c.insert-left.ensures.kept (sym (rw c.behind.ensures at c.has_ahead.ensures) ∙ c.if-has_ahead.false) c.insert-left.ensures.inserts c.rebalance-else-has_ahead.ensures.makes }
