-- An entry that is accepted keeps book order.
use Rattle.std.proofs.Common.{◌≡◌, rules, sym, subst}
use Rattle.book.specs.Answers.{coming}
use Rattle.book.specs.Order.{InBookOrder, placed}
use Rattle.book.proofs.Placing.{ordered_placed}
use Rattle.book.proofs.entries.Entries.enter.Goals as goal

ordered : (g : _) (c : goal.In_ok-insert g) → InBookOrder g.D.Date.model c.insert.new.self.items
ordered g c =
    let dates = g.D.Date.model in
    let old = c.self.inside.entries.items in
    let is : c.insert.new.self.items ≡ placed dates (coming old c.args.date c.args.operation) old = search rules in
    subst (InBookOrder dates) (sym is) (ordered_placed dates g.met.D.Date.lawful old c.args.date c.args.operation c.self.invariant)

pub invariant_of-self-2 : goal.invariant_of-self-2
invariant_of-self-2 = ordered

pub returns-clause-ordered : goal.returns-clause-ordered
returns-clause-ordered g c = λ _. ordered g c
