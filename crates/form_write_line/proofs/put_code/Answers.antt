-- Six stores.
use Rattle.form.proofs.LineBytes.{six_stores}
use Rattle.form_write_line.proofs.put_code.Goals as goal

pub returns : goal.returns
returns c =
    let code = c.from-code.ensures in
    six_stores _ _ _ _ _ _ c.requires (rw code at c.digit_of.ensures) (rw code at c.digit_of-2.ensures) (rw code at c.digit_of-3.ensures) (rw code at c.digit_of-4.ensures)
