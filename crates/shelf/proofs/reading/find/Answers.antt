use Rattle.shelf.proofs.Queries.{found}
use Rattle.shelf.proofs.reading.find.Goals as goal

pub returns : goal.returns
returns g c = record {
  found = λ summed n sound. found g.S.Summary.model summed g.D.Date.model g.met.D.Date.lawful c.args.shelf.now c.args.root n sound c.args.k _ (rw c.most_levels.ensures.is at c.find_at.ensures.selects);
}
