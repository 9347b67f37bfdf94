use Rattle.std.proofs.Common.{ap}
use Rattle.std.proofs.lemmas.List.{get_or_read}
use Rattle.slots.specs.Slots.{blank, placement}
use Rattle.shelf.proofs.Sounds.{renoted}
use Rattle.shelf.proofs.writing.set_note.Goals as goal

pub returns-clause-sound : goal.returns-clause-sound
returns-clause-sound g c summed root n sound =
    let within = c.in-Some.ensures.lookup.3.0 in
    let read = get_or_read c.args.shelf.now c.args.i c.in-Some.node.now within c.in-Some.ensures.lookup.1 (blank g.S.Summary.model) in
    renoted g.S.Summary.model summed g.D.Date.model g.met.D.Date.lawful c.args.shelf.now root n sound c.args.i _ within (ap placement read) (ap (λ s. s.date) read) (ap (λ s. s.standing) read) (ap (λ s. s.operation) read)
