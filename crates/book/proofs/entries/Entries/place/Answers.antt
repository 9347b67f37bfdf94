-- The entries divide into those dated no later and those that are later, and so the place is found by halving.
use Rattle.std.proofs.Common.{◌≡◌, ◌-◌, not, length, take, drop, sym, ap, ◌∙◌, arith, rules}
use Rattle.std.proofs.lemmas.List.{take_all, length-drop}
use Rattle.std.proofs.lemmas.List.Sorted.{IsPartitionPoint-from_clause}
use Rattle.book.specs.Order.{later, place, Sorted}
use Rattle.book.proofs.Placing.{no_later, parted, place_from, place_is, sorted_drop}
use Rattle.book.proofs.entries.Entries.place.Goals as goal

pub returns : goal.returns
returns g c =
    let dates = g.D.Date.model in
    let date = c.args.date.now in
    let xs = c.deref.result.now in
    let from = c.searched_from-from.result in
    let ordered : Sorted dates xs = rw c.deref.ensures.value c.self.invariant.sorted in
    let behind : take (length xs - from) (drop from xs) ≡ drop from xs = take_all _ (drop from xs) (omega (arith, length-drop from xs)) in
    let sorted : Sorted dates (take (length xs - from) (drop from xs)) = rw behind (sorted_drop dates g.met.D.Date.lawful from xs ordered) in
    let divides = parted dates g.met.D.Date.lawful date _ sorted in
    let says = no_later dates g.met.D.Date.lawful date in
    let point = IsPartitionPoint-from_clause (λ entry. not (later dates date entry)) _ _ c.partition_point.ensures.partitioned divides (λ a r q k. search (rules, says)) in
    let found = place_is dates date _ _ c.partition_point.ensures.bound point ∙ ap (place dates date) behind in
    let same : c.args.self.now ≡ xs = sym (c.self.view_is) ∙ sym c.deref.ensures.value in
    let front = place_from dates g.met.D.Date.lawful date from xs ordered (rw (← same) c.searched_from-from.ensures.bound) (rw (← same) c.searched_from-from.ensures.front) in
    rw same (omega (arith, found, front))
