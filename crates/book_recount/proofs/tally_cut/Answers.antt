-- `book_recount::tally_cut` meets its contract: the scratch has room for the cut. Assumes nothing.
use native.Mathlib.Omega.{arith}
use Rattle.order.proofs.LineCuts.{line-short}
use Rattle.book_recount.proofs.tally_cut.Goals as goal

pub put_cut-end-requires-clause-d_in_bounds : goal.put_cut-end-requires-clause-d_in_bounds
put_cut-end-requires-clause-d_in_bounds c =
    omega (arith, line-short _ _ c.args.d c.args.lines.now.order.gone_over.sound c.requires.line_in_bounds, c.requires.most_words_in_bounds)
