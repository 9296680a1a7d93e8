-- Before each turn the spans of the lines behind are those of the row that their words spell, and the first of them and how many leaves begin there are known.
use Rattle.order.specs.Spans.{FirstSpan}
use Rattle.order.proofs.Spanning.{Back}
use Rattle.order_spans.proofs.measure.Given as goal

abbrev pub invariant-loop-line : goal.invariant-loop-line
invariant-loop-line l = Back l.order l.fn.spans l.spans l.line × FirstSpan l.order l.spans l.line l.first.end l.first.depth l.run
