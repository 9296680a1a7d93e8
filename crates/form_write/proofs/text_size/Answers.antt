-- Seven bytes for each line of an order less than ten deep, and those of the lines' levels otherwise.
use Rattle.form_write.proofs.Written.{text-short}
use Rattle.form_write.proofs.text_size.Goals as goal

pub returns-then-is_shallow : goal.returns-then-is_shallow
returns-then-is_shallow c = text-short _ c.args.lines.now.order.gone_over.sound (c.is_shallow.ensures c.if-is_shallow.true)
