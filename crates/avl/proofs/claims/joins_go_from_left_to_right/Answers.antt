use Rattle.avl.proofs.Joins.{tree_joins_as_list, front_joins_as_list}
use Rattle.avl.proofs.claims.joins_go_from_left_to_right.Goals as goal

pub returns : goal.returns
returns g c =
    let model = g.S.Summed.model in
    let law = g.S.Summed.lawful in
    record { whole = tree_joins_as_list model law; front = front_joins_as_list model law }
