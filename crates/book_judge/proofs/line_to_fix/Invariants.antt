-- Before each turn of `book_judge::line_to_fix` the lines left are those of a row of trees, and the line to fix is the one among them, or the one found before,
-- which is judged; each turn leaves fewer lines. Assumes nothing.
use Prim.Native.Nat.{◌-◌}
use Rattle.book.specs.Decoding.{book_in}
use Rattle.book_judging.specs.Seeking.{JudgedAt}
use Rattle.book_judging.proofs.Descents.{Down}
use Rattle.book_judge.proofs.line_to_fix.Given as goal

abbrev pub invariant-loop-places : goal.invariant-loop-places
invariant-loop-places l =
    let book = book_in l.book in
    let words = l.lines.order.words.now in
    record { down : Down book words l.found.answer.line l.from l.to; judged : JudgedAt book words l.found.answer.line l.found }

abbrev pub decreases-loop-places : goal.decreases-loop-places
decreases-loop-places l = l.to - l.from
