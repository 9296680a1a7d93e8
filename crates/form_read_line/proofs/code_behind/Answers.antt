-- The six bytes behind the level decide. Assumes nothing.
use Rattle.std.proofs.Common.{sym, ◌∙◌, arith}
use Rattle.form.proofs.Spelling.{code-short, code-bad, code-good, of_code}
use Rattle.form_read_line.proofs.code_behind.Goals as goal

pub returns-in_default : goal.returns-in_default
returns-in_default c = code-short _ _ 0 c.args.bytes.now (omega arith)

pub returns-then-not-is_code : goal.returns-then-not-is_code
returns-then-not-is_code c = code-bad _ _ 0 c.args.bytes.now (omega arith) (sym c.is_code.ensures ∙ c.if-not-is_code.true)

pub value_of-requires : goal.value_of-requires
value_of-requires c = let q = of_code _ _ _ _ _ _ (sym c.is_code.ensures ∙ c.if-not-is_code.false) in (q.first, q.second, q.third, q.fourth)

pub returns : goal.returns
returns c = rw (c.from.ensures, c.value_of.ensures) (code-good _ _ 0 c.args.bytes.now (omega arith) (sym c.is_code.ensures ∙ c.if-not-is_code.false))
