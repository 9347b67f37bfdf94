use Rattle.std.proofs.Common.{sym, ap, ◌∙◌, subst, arith}
use Rattle.std.proofs.lemmas.List.{get_or_read}
use Rattle.slots.specs.Slots.{blank, entry, placement}
use Rattle.slots.proofs.Chains.{all_kept}
use Rattle.shelf.specs.Changes.{Entered, voided}
use Rattle.shelf.proofs.Sounds.{entered_after, voids}
use Rattle.shelf.proofs.writing.void.Goals as goal

-- the bytes of the entry are no date, so the shelf was not sound
pub returns-in_default-from_bytes : goal.returns-in_default-from_bytes
returns-in_default-from_bytes g c =
    let model = g.W.Summary.Summary.model in
    let shelf = c.args.shelf.now in
    let i = c.args.i in
    let within = c.in-Some.ensures.lookup.3.0 in
    let read = get_or_read shelf i c.in-Some.node.now within c.in-Some.ensures.lookup.1 (blank model) in
    record {
      voids = record {
        refused = λ past. absurd (omega arith);
        entered = λ _. subst (Entered model shelf _ i) (ap (λ s. voided (entry s)) read) (entered_after model shelf i _ _ within (all_kept model _));
        settled = λ n sound lt.
            let was = sound.dated i lt in
            absurd (c.in_default-from_bytes.not-Ok was.date (c.from_bytes.ensures ∙ ap (λ s. g.D.Date.model.given s.date) read ∙ was.given));
      };
    }

pub returns : goal.returns
returns g c =
    let model = g.W.Summary.Summary.model in
    let dates = g.D.Date.model in
    let shelf = c.args.shelf.now in
    let i = c.args.i in
    let within = c.in-Some.ensures.lookup.3.0 in
    let read = get_or_read shelf i c.in-Some.node.now within c.in-Some.ensures.lookup.1 (blank model) in
    let told = ap (λ s. s.date) read in
    record {
      voids = record {
        refused = λ past. absurd (omega arith);
        entered = λ _. subst (Entered model shelf _ i) (ap (λ s. voided (entry s)) read) (entered_after model shelf i _ _ within c.refresh.ensures.kept);
        settled = λ n sound lt.
            voids model (g.W.Watch.summed c.args.watch.now) dates g.met.D.Date.lawful shelf c.args.root n sound i _ within (ap placement read) told lt _
            (ap dates.given (sym told) ∙ sym c.from_bytes.ensures ∙ c.in-Ok.is) _ c.refresh.ensures.kept (rw (c.of.ensures, c.most_levels.ensures.is) at c.refresh.ensures.refreshes);
      };
    }
