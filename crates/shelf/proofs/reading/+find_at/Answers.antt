use Rattle.std.proofs.Common.{◌≤◌, arith}
use Rattle.std.proofs.lemmas.List.{get_or_read}
use Rattle.slots.specs.Slots.{blank}
use Rattle.shelf.proofs.Finding.{selects_leaf, selects_none, selects_left, selects_past, selects_here, selects_after}
use Rattle.shelf.proofs.reading.+find_at.Goals as goal

pub returns-in_err-node : goal.returns-in_err-node
returns-in_err-node g t c = record { selects = rw c.from_residual.ensures (selects_leaf g.S.Summary.model c.args.shelf.now c.args.link c.args.k c.args.depth c.in_err-node.ensures.lookup.3) }

pub returns-in_err-depth : goal.returns-in_err-depth
returns-in_err-depth g t c = record { selects = selects_none g.S.Summary.model c.args.shelf.now c.args.link c.args.k c.args.depth _ c.in_ok-node.ensures.lookup.3.0 (let none : 1 ≤ c.args.depth → ⊥ = c.in_err-depth.ensures in omega arith) }

pub returns-then-k-before : goal.returns-then-k-before
returns-then-k-before g t c =
    let node = get_or_read c.args.shelf.now c.args.link c.in_ok-node.node.now c.in_ok-node.ensures.lookup.3.0 c.in_ok-node.ensures.lookup.1 (blank g.S.Summary.model) in
    record { selects = selects_left g.S.Summary.model c.args.shelf.now c.args.link c.args.k c.args.depth c.in_ok-node.ensures.lookup.3.0 (omega arith) c.in_ok-node.node.now node c.count_at-before.result c.count_at-before.ensures _ c.if-k-before.true (rw c.in_ok-depth.ensures.1 at c.find_at.ensures.selects) }

pub returns-then-not-node : goal.returns-then-not-node
returns-then-not-node g t c =
    let node = get_or_read c.args.shelf.now c.args.link c.in_ok-node.node.now c.in_ok-node.ensures.lookup.3.0 c.in_ok-node.ensures.lookup.1 (blank g.S.Summary.model) in
    record { selects = selects_past g.S.Summary.model c.args.shelf.now c.args.link c.args.k c.args.depth c.in_ok-node.ensures.lookup.3.0 (omega arith) c.in_ok-node.node.now node c.count_at-before.result c.count_at-before.ensures _ c.if-k-before.false c.if-not-node.true (rw c.in_ok-depth.ensures.1 at c.find_at-then-not-node.ensures.selects) }

pub returns-then-k-before-2 : goal.returns-then-k-before-2
returns-then-k-before-2 g t c =
    let node = get_or_read c.args.shelf.now c.args.link c.in_ok-node.node.now c.in_ok-node.ensures.lookup.3.0 c.in_ok-node.ensures.lookup.1 (blank g.S.Summary.model) in
    record { selects = selects_here g.S.Summary.model c.args.shelf.now c.args.link c.args.k c.args.depth c.in_ok-node.ensures.lookup.3.0 (omega arith) c.in_ok-node.node.now node c.count_at-before.result c.count_at-before.ensures c.if-k-before-2.true c.if-not-node.false }

pub returns-else-k-before-2 : goal.returns-else-k-before-2
returns-else-k-before-2 g t c =
    let node = get_or_read c.args.shelf.now c.args.link c.in_ok-node.node.now c.in_ok-node.ensures.lookup.3.0 c.in_ok-node.ensures.lookup.1 (blank g.S.Summary.model) in
    record { selects = selects_after g.S.Summary.model c.args.shelf.now c.args.link c.args.k c.args.depth c.in_ok-node.ensures.lookup.3.0 (omega arith) c.in_ok-node.node.now node c.count_at-before.result c.count_at-before.ensures _ (omega arith) c.if-not-node.false (rw c.in_ok-depth.ensures.1 at c.find_at-else-k-before-2.ensures.selects) }
