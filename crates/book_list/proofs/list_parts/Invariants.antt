-- Before each turn of `list_parts` the parts of the lines gone over are listed, and there is room for those left. Assumes nothing.
use Rattle.book_list.proofs.Listing.{Listing}
use Rattle.book_list.proofs.list_parts.Given as goal

abbrev pub invariant-loop-line : goal.invariant-loop-line
invariant-loop-line l =
    Listing l.low l.k.k l.times l.lines.order.words.now l.initial.out l.out l.entry l.line l.size.used l.size.many
