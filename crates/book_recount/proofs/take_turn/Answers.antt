-- `book_recount::take_turn` meets its contract: the lines of an order have levels in the scratch once it is gone over. Assumes nothing.
use native.Mathlib.Omega.{arith}
use Rattle.order.proofs.Spots.{passed-short}
use Rattle.book_recount.proofs.take_turn.Goals as goal

pub level_lines-lines-requires : goal.level_lines-lines-requires
level_lines-lines-requires c = omega (arith, passed-short _ c.unwrap-order.result.gone_over.sound, c.requires.most_words_in_bounds.1)
