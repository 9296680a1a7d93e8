use Rattle.form.proofs.LineBytes.{one_byte, two_bytes}
use Rattle.form_write_line.proofs.level_size.Goals as goal

pub returns-then-level-lt10 : goal.returns-then-level-lt10
returns-then-level-lt10 c = one_byte _ c.if-level-lt10.true

pub returns-else-level-lt10 : goal.returns-else-level-lt10
returns-else-level-lt10 c = two_bytes _ c.if-level-lt10.false
