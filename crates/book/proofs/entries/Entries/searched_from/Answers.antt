-- The entry at which the stretch begins is dated no later, where it is not the first.
use Rattle.std.proofs.Common.{◌≡◌, ◌-◌, ◌≤◌, false, length, ◌∙◌, subst, arith, rules}
use Rattle.std.proofs.lemmas.List.{get_or_default}
use Rattle.book.specs.Order.{later}
use Rattle.book.proofs.Placing.{no_later}
use Rattle.book.proofs.entries.Entries.searched_from.Goals.{then-loop-reach-test+else-gt, else-loop-reach-test}
use Rattle.book.proofs.entries.Entries.searched_from.Goals as goal

pub returns-clause-front : goal.returns-clause-front
returns-clause-front g c =
    let dates = g.D.Date.model in
    let date = c.args.date.now in
    let xs = c.as_slice-entries.result.now in
    let some_reach : 1 ≤ c.loop-reach.reach = c.loop-reach.invariant in
    let says = no_later dates g.met.D.Date.lawful date in
    rw (← c.self.view_is, ← c.as_slice-entries.ensures.value, c.saturating_sub.ensures)
    (elim c.loop-reach-test.branch [
      | then-loop-reach-test+else-gt w ↦ λ d some.
          let here = w.index-entries-entries.is ∙ get_or_default xs (length xs - c.loop-reach.reach) _ d (omega (arith, w.loop-reach-test.true, some_reach)) in
          let fails : later dates date w.index-entries-entries.result ≡ false = search (rules, says) in
          (omega (arith, w.loop-reach-test.true, some_reach), subst (λ entry. later dates date entry ≡ false) here fails)
      | else-loop-reach-test w ↦ λ d some. absurd (omega (arith, some))
    ])
