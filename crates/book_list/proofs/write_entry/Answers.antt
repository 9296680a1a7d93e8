-- `book_list::write_entry` meets its contract: the cut has few enough nodes for a word to say how many. Assumes nothing.
use native.Mathlib.Omega.{arith}
use Rattle.order.proofs.LineCuts.{line-short}
use Rattle.book_list.proofs.write_entry.Goals as goal

pub overflow_cast-out : goal.overflow_cast-out
overflow_cast-out c =
    omega (arith, c.put_cut-count.ensures.came, line-short _ _ c.args.d c.args.lines.now.order.gone_over.sound c.requires.line_in_bounds)
