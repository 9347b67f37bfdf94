use Rattle.std.proofs.Common.{Some, sym, ap, ◌∙◌, arith, w64}
use Rattle.std.proofs.lemmas.Int.{to_z-of_z}
use Rattle.slots.specs.Slots.{entries}
use Rattle.shelf.specs.Reading.{standing_up_to}
use Rattle.shelf.proofs.Following.{figure_reads}
use Rattle.shelf.proofs.Queries.{few_up_to}
use Rattle.shelf.proofs.reading.figure_up_to.Goals as goal

pub returns : goal.returns
returns g c = record {
  read = λ n sound.
      let model = g.W.Summary.Summary.model in
      let dates = g.D.Date.model in
      let watch = c.args.watch.now in
      let es = entries model c.args.shelf.now in
      let few = few_up_to dates g.met.D.Date.lawful c.args.date.now es n in
      let most = sound.few in
      figure_reads g.W.Machine.Machine.model model g.met.W.Summary.Summary.lawful (g.W.Watch.question watch) (g.W.Watch.summed watch) (g.W.Watch.figure watch) (g.met.W.Watch.rules watch) es (standing_up_to dates es n c.args.date.now) (omega arith)
      ∙ ap (λ s. Some (g.W.Watch.figure watch s)) (sym (c.joined_up_to.ensures.joined n sound))
      ∙ ap Some (sym (to_z-of_z w64 c.figure.result (record { sfits = c.figure.type_inv }) ∙ c.figure.ensures));
}
