-- The entries dated no later are those in front of the place.
use Rattle.book.proofs.Placing.{up_to_place}
use Rattle.book.proofs.entries.Entries.up_to.Goals as goal

pub returns : goal.returns
returns g c =
    rw (c.place.ensures, c.deref.ensures.value, ← c.self.view_is) (up_to_place g.D.Date.model g.met.D.Date.lawful c.args.date.now _ c.self.invariant.sorted)
