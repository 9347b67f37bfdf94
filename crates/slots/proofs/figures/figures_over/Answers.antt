use Rattle.std.proofs.Common.{◌≡◌, ap, ◌∙◌, arith}
use Rattle.std.proofs.lemmas.List.{get_or_default}
use Rattle.slots.specs.Slots.{blank, entry, contribution}
use Rattle.slots.specs.Chain.{standing, own}
use Rattle.slots.proofs.Chains.{figures_of}
use Rattle.slots.proofs.Measures.{count_fits, levels_small, count_small, tree_light, own_light}
use Rattle.slots.proofs.figures.figures_over.Goals as goal

pub returns : goal.returns
returns g c es a b tied ha hb few =
    let model = g.W.Summary.Summary.model in
    let summed = g.W.Watch.summed c.args.watch.now in
    let law = g.met.W.Summary.Summary.lawful in
    let shelf = c.args.shelf.now in
    let here = ap entry (get_or_default shelf c.args.parts.top c.index-shelf-parts.result (blank model) c.requires) ∙ tied c.args.parts.top in
    let at_a = figures_of model summed es shelf c.args.parts.left a ha in
    let at_b = figures_of model summed es shelf c.args.parts.right b hb in
    let light = own_light model law summed (g.met.W.Watch.rules c.args.watch.now).light es in
    let same = ap (contribution model summed) here in
    let contribution_i : ◌≡◌ {A = g.row.W-Summary.Denot} c.contribution.result (contribution model summed (es c.args.parts.top)) = cc in
    let weight_a = ap model.weight (c.figures_at-left.ensures.joined ∙ at_a.2) in
    let weight_b = ap model.weight (c.figures_at-right.ensures.joined ∙ at_b.2) in
    let weight_i = ap model.weight contribution_i in
    let light_a = tree_light model law (own model summed es) light a (omega arith) in
    let light_b = tree_light model law (own model summed es) light b (omega arith) in
    let light_i = light c.args.parts.top in
    let low_a = levels_small a in
    let low_b = levels_small b in
    let few_a = count_small (standing es) a in
    let few_b = count_small (standing es) b in
    let stands = ap (λ e. e.standing) here in
    let deep = c.level_over.ensures in
    let counts = c.count_over.ensures ∙ count_fits _ _ _ (omega arith) (omega arith) in
    let joins = c.joined_over.ensures (omega arith) in
    (omega arith, cc, cc)
