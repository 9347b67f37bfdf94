use Rattle.avl.proofs.BookTrees.{insert_keeps_book}
use Rattle.avl.proofs.Orders.{order_stands, order_is_one, order_grows, order_front}
use Rattle.avl.proofs.claims.book_order_is_one_list.Goals as goal

pub returns : goal.returns
returns g c =
    let o = g.D.Dated.order in
    record {
      stands = order_stands o;
      one = order_is_one o;
      grows = order_grows o;
      prefix = order_front o;
      inserts = insert_keeps_book o;
    }
