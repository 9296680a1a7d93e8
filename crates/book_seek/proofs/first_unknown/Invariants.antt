-- What the loops of `book_seek::first_unknown` keep: the first unknown line of the range is that of the lines left, and the entries left decide what
-- the search for the part finds. Assumes nothing.
use mathlib.Core.Path.{◌≡◌}
use Rattle.section.proofs.Searches.{Searched}
use Rattle.book.specs.Decoding.{book_in}
use Rattle.book_judging.specs.Seeking.{unknown_within}
use Rattle.book_seek.proofs.first_unknown.Given as goal

abbrev pub invariant-loop-left : goal.invariant-loop-left
invariant-loop-left l = Searched l.book l.key l.part.at l.part.many l.last l.at l.left

abbrev pub invariant-lines : goal.invariant-lines
invariant-lines l =
    let book = book_in l.book in
    let words = l.lines.order.words.now in
    unknown_within book words l.from l.to ≡ unknown_within book words l.line l.to
