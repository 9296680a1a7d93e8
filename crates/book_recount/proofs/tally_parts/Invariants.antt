-- Before each turn of `tally_parts` the parts of the lines gone over are tallied; the scratch is as long as at first. Assumes nothing.
use Rattle.section_tally.specs.Tallying.{listed}
use Rattle.book_recount.proofs.Turns.{Turning}
use Rattle.book_recount.proofs.tally_parts.Given as goal

abbrev pub invariant-loop-line : goal.invariant-loop-line
invariant-loop-line l =
    let es = listed l.entries.starts.now l.entries.book.now in
    Turning l.low l.k.k l.lines.order.words.now es l.turn.number l.turn.by l.initial.counts l.initial.marks l.counts l.marks l.line
