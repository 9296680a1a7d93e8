-- No level is greater than the order is deep.
use Rattle.std.proofs.Common.{arith}
use borrow.Author.Tests.{ltb-true}
use Rattle.order.proofs.LineSpans.{spans-room}
use Rattle.form_write.proofs.Written.{some_words, shallow}
use Rattle.form_write.proofs.is_shallow.Goals as goal

pub bounds-order-1 : goal.bounds-order-1
bounds-order-1 c = let p = c.args.order.now.gone_over in omega (arith, some_words _ p.sound, spans-room _ _ p)

pub returns : goal.returns
returns c e = shallow _ _ c.args.order.now.gone_over (ltb-true _ _ e)
