-- `book_teach::list_taught` meets its contract: an order has no more lines than there are levels. Assumes nothing.
use Rattle.std.proofs.Common.{arith}
use Rattle.order.proofs.Spots.{passed-short}
use Rattle.book_teach.proofs.list_taught.Goals as goal

pub level_lines-lines-requires : goal.level_lines-lines-requires
level_lines-lines-requires c =
    omega (arith, passed-short _ c.args.order.gone_over.sound)
