use Rattle.avl.proofs.Balances.{insert_balances}
use Rattle.avl.proofs.Placings.{insert_places}
use Rattle.avl.proofs.claims.insertion_keeps_balance_and_order.Goals as goal

pub returns : goal.returns
returns c = record { places = insert_places; balances = insert_balances }
