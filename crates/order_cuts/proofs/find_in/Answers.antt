-- `order_cuts::find_in` meets its contract: the order's length says which lines there are. Assumes nothing.
use mathlib.Core.Path.{sym}
use Rattle.order.proofs.Lines.{place_none, place-past, place_at_lem}
use Rattle.order_cuts.proofs.find_in.Goals as goal
use Rattle.order_cuts.proofs.find_in.Goals.{then-line-eq0-via-then-line-eq0, then-line-eq0-via-else-line-eq0+then-order-line}

pub returns-then-line-eq0 : goal.returns-then-line-eq0
returns-then-line-eq0 c =
    let sound = c.args.order.now.gone_over.sound in
    elim c.then-line-eq0.branch [
      | then-line-eq0-via-then-line-eq0 w ↦ sym (place_none _ _ sound w.if-line-eq0.true)
      | then-line-eq0-via-else-line-eq0+then-order-line w ↦ sym (place-past _ _ sound w.if-order-line.true)
    ]

pub returns : goal.returns
returns c = sym (place_at_lem _ _ c.args.order.now.gone_over.sound c.if-line-eq0.false c.if-order-line.false)
