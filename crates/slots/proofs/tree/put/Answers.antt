use Rattle.slots.proofs.Chains.{put_forms}
use Rattle.slots.proofs.tree.put.Goals as goal

pub returns-clause-makes : goal.returns-clause-makes
returns-clause-makes g c es a b tied ha hb inside once few =
    let new = c.figures_over-figures.ensures es a b tied ha hb few in
    put_forms g.W.Summary.Summary.model (g.W.Watch.summed c.args.watch.now) es c.args.shelf.now _ c.args.parts.top a b c.if-parts-shelf.false new.0 new.1 new.2 ha hb once
