use Rattle.std.proofs.Common.{sym, ap, ◌∙◌, arith}
use Rattle.std.proofs.lemmas.List.{get_or_read}
use Rattle.slots.specs.Slots.{blank}
use Rattle.shelf.proofs.Sounds.{inside}
use Rattle.shelf.proofs.Queries.{counted_before}
use Rattle.shelf.proofs.reading.count_before.Goals as goal

pub returns-in_default-clause-counted : goal.returns-in_default-clause-counted
returns-in_default-clause-counted g c summed n sound lt =
    let past = c.in_default.ensures.lookup.3 in
    let within = inside g.S.Summary.model summed g.D.Date.model g.met.D.Date.lawful c.args.shelf.now c.args.root n sound c.args.i lt in
    absurd (omega arith)

pub returns-in_default-from_bytes-clause-counted : goal.returns-in_default-from_bytes-clause-counted
returns-in_default-from_bytes-clause-counted g c summed n sound lt =
    let was = sound.dated c.args.i lt in
    let read = get_or_read c.args.shelf.now c.args.i c.in-Some.node.now c.in-Some.ensures.lookup.3.0 c.in-Some.ensures.lookup.1 (blank g.S.Summary.model) in
    absurd (c.in_default-from_bytes.not-Ok was.date (c.from_bytes.ensures ∙ ap (λ s. g.D.Date.model.given s.date) read ∙ was.given))

pub returns-clause-counted : goal.returns-clause-counted
returns-clause-counted g c summed n sound lt =
    let read = get_or_read c.args.shelf.now c.args.i c.in-Some.node.now c.in-Some.ensures.lookup.3.0 c.in-Some.ensures.lookup.1 (blank g.S.Summary.model) in
    counted_before g.S.Summary.model summed g.D.Date.model g.met.D.Date.lawful c.args.shelf.now c.args.root n sound c.args.i _ _
    (sym (ap (λ s. g.D.Date.model.given s.date) read) ∙ sym c.from_bytes.ensures ∙ c.in-Ok.is) (rw (c.of.ensures, c.most_levels.ensures.is) at c.count_ahead.ensures.counts)
