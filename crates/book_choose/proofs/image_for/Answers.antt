-- `book_choose::image_for`: an order that was gone over is short. Assumes nothing.
use Rattle.std.proofs.Common.{arith}
use Rattle.order.proofs.Spots.{passed-short}
use Rattle.book_choose.proofs.image_for.Goals as goal

pub level_lines-lines-requires : goal.level_lines-lines-requires
level_lines-lines-requires c = omega (arith, passed-short _ c.unwrap-order.result.gone_over.sound)
