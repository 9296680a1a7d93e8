-- Before each turn the spans from `end` on are those of the trees that are left.
use Rattle.std.proofs.Common.{◌-◌}
use Rattle.order.proofs.Spanning.{Over}
use Rattle.order_spans.proofs.over_children.Given as goal

abbrev pub invariant-loop : goal.invariant-loop
invariant-loop l = Over l.order l.spans l.from l.children l.end l.depth (l.children - l.counter)
