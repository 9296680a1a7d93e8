-- `desk_call::call`: by what its form is read as. Assumes nothing.
use Rattle.std.proofs.Common.{refl, sym, ◌∙◌}
use Rattle.std.proofs.lemmas.List.{length-take-le}
use Rattle.desk_call.proofs.Forms.{read-room, call_refused, call_asked}
use Rattle.desk_call.proofs.call.Goals as goal

pub returns-then-number-ne-DONE : goal.returns-then-number-ne-DONE
returns-then-number-ne-DONE c = call_refused _ _ _ _ _ _ refl c.read-number.ensures c.if-number-ne-DONE.true

pub slice_bounds-order-end : goal.slice_bounds-order-end
slice_bounds-order-end c = read-room _ _ _ _ refl c.read-number.ensures c.if-number-ne-DONE.false

pub slice_bounds-ask-end : goal.slice_bounds-ask-end
slice_bounds-ask-end c = sym (length-take-le _ _ (read-room _ _ _ _ refl c.read-number.ensures c.if-number-ne-DONE.false))

pub returns : goal.returns
returns c = c.ask.ensures ∙ call_asked _ _ _ _ _ _ refl c.read-number.ensures c.if-number-ne-DONE.false
