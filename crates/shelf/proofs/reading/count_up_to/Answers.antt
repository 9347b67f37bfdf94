use Rattle.shelf.proofs.Queries.{counted_up_to}
use Rattle.shelf.proofs.reading.count_up_to.Goals as goal

pub returns : goal.returns
returns g c = record {
  counted = λ summed n sound. counted_up_to g.S.Summary.model summed g.D.Date.model g.met.D.Date.lawful c.args.shelf.now c.args.root n sound c.args.date.now _ (rw (c.behind.ensures, c.most_levels.ensures.is) at c.count_ahead.ensures.counts);
}
