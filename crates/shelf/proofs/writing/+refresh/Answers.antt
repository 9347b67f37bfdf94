use Rattle.std.proofs.Common.{sym, ◌∙◌, arith}
use Rattle.std.proofs.lemmas.List.{get_or_read}
use Rattle.slots.specs.Slots.{blank}
use Rattle.slots.proofs.Chains.{then_kept}
use Rattle.shelf.proofs.Refreshing.{refresh_leaf, refresh_none, refresh_here, refresh_left, refresh_right}
use Rattle.shelf.proofs.writing.+refresh.Goals as goal
use Rattle.shelf.proofs.writing.+refresh.Goals.{then-from-place, then-has_ahead, else-has_ahead, else-from-place}

pub returns-in_default-clause-refreshes : goal.returns-in_default-clause-refreshes
returns-in_default-clause-refreshes g t c = refresh_leaf g.W.Summary.Summary.model (g.W.Watch.summed c.args.watch.now) g.D.Date.model g.met.D.Date.lawful c.args.place.date c.args.shelf.now c.args.link c.args.place.number c.args.depth c.in_default.ensures.lookup.3

pub returns-then-depth-eq0-clause-refreshes : goal.returns-then-depth-eq0-clause-refreshes
returns-then-depth-eq0-clause-refreshes g t c = refresh_none g.W.Summary.Summary.model (g.W.Watch.summed c.args.watch.now) g.D.Date.model g.met.D.Date.lawful c.args.place.date c.args.shelf.now c.args.link c.args.place.number c.args.depth c.in-Some.ensures.lookup.3.0 c.if-depth-eq0.true

pub returns : goal.returns
returns g t c =
    let node = get_or_read c.args.shelf.now c.args.link c.in-Some.node.now c.in-Some.ensures.lookup.3.0 c.in-Some.ensures.lookup.1 (blank g.W.Summary.Summary.model) in
    elim c.if-from-place.branch [
      | then-from-place w ↦
          let test = sym w.has_ahead.ensures in
          record {
            kept = then_kept g.W.Summary.Summary.model c.args.shelf.now w.refresh.new.shelf c.put.new.shelf w.refresh.ensures.kept (rw w.shelf-is at c.put.ensures.kept);
            refreshes =
                elim w.if-has_ahead.branch [
                  | then-has_ahead v ↦ refresh_right g.W.Summary.Summary.model (g.W.Watch.summed c.args.watch.now) g.D.Date.model g.met.D.Date.lawful c.args.place.date c.args.shelf.now c.args.link c.args.place.number c.args.depth c.put.new.shelf c.put.result c.in-Some.ensures.lookup.3.0 c.in-Some.node.now node c.parts-parts.result c.parts-parts.ensures w.refresh.new.shelf w.refresh.ensures.kept (omega arith) (λ e. absurd (omega arith)) (test ∙ v.if-has_ahead.true) (rw v.side-is at w.refresh.ensures.refreshes) (rw w.shelf-is at c.put.ensures.makes)
                  | else-has_ahead v ↦ refresh_left g.W.Summary.Summary.model (g.W.Watch.summed c.args.watch.now) g.D.Date.model g.met.D.Date.lawful c.args.place.date c.args.shelf.now c.args.link c.args.place.number c.args.depth c.put.new.shelf c.put.result c.in-Some.ensures.lookup.3.0 c.in-Some.node.now node c.parts-parts.result c.parts-parts.ensures w.refresh.new.shelf w.refresh.ensures.kept (omega arith) (λ e. absurd (omega arith)) (test ∙ v.if-has_ahead.false) (rw v.side-is at w.refresh.ensures.refreshes) (rw w.shelf-is at c.put.ensures.makes)
                ];
          }
      | else-from-place w ↦ record {
        kept = rw w.shelf-is at c.put.ensures.kept;
        refreshes = refresh_here g.W.Summary.Summary.model (g.W.Watch.summed c.args.watch.now) g.D.Date.model g.met.D.Date.lawful c.args.place.date c.args.shelf.now c.args.link c.args.place.number c.args.depth c.put.new.shelf c.put.result c.in-Some.ensures.lookup.3.0 c.in-Some.node.now node c.parts-parts.result c.parts-parts.ensures (omega arith) (rw w.shelf-is at c.put.ensures.makes);
      }
    ]
