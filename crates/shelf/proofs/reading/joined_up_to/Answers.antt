use Rattle.shelf.proofs.Queries.{joined_up_to}
use Rattle.shelf.proofs.reading.joined_up_to.Goals as goal

pub returns : goal.returns
returns g c = record {
  joined = λ n sound.
      joined_up_to g.W.Summary.Summary.model (g.W.Watch.summed c.args.watch.now) g.D.Date.model g.met.D.Date.lawful c.args.shelf.now c.args.root n sound
      g.met.W.Summary.Summary.lawful (g.met.W.Watch.rules c.args.watch.now).light c.args.date.now _ (rw (c.behind.ensures, c.most_levels.ensures.is) at c.joined_ahead.ensures.joins);
}
