-- The level's digit, and the code behind it.
use Rattle.form.proofs.LineBytes.{short-line}
use Rattle.form_write_line.proofs.put_short_line.Goals as goal

pub returns : goal.returns
returns c = short-line _ _ _ _ c.requires.0 c.requires.1 c.put_code.ensures
