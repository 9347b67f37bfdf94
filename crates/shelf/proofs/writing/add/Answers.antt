use Rattle.std.proofs.Common.{true, refl, ap, ◌∙◌, subst}
use Rattle.shelf.specs.Changes.{Entered, newly}
use Rattle.shelf.proofs.Sounds.{added, entered_after, room}
use Rattle.shelf.proofs.writing.add.Goals as goal

pub returns : goal.returns
returns g c =
    let model = g.W.Summary.Summary.model in
    let dates = g.D.Date.model in
    let law = g.met.D.Date.lawful in
    let shelf = c.args.shelf.now in
    let n = c.args.n in
    let date = c.args.date.now in
    let within = c.if-n-shelf.false in
    let few = c.if-n-ge-MOST_ENTRIES.false in
    record {
      adds = record {
        refused = λ full. absurd (room model shelf n few within full);
        accepted = λ _. record {
          top = c.insert.result;
          is = refl;
          entered = subst (Entered model shelf c.insert.new.shelf n) (ap (λ s. record { date = c.to_bytes.result; operation = c.args.operation; standing = true; note = s.note }) c.blank.ensures ∙ ap (λ bytes. newly bytes c.args.operation) c.to_bytes.ensures) (entered_after model shelf n _ _ within c.insert.ensures.kept);
          settled = λ sound.
              added model (g.W.Watch.summed c.args.watch.now) dates law shelf c.args.root n sound _ date _ _ few within (ap dates.given c.to_bytes.ensures ∙ law.back date) c.insert.ensures.kept (rw c.most_levels.ensures.is at c.insert.ensures.inserts);
        };
      };
    }
