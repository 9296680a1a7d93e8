-- The level, and the code behind it.
use Rattle.std.proofs.Common.{arith}
use Rattle.form.proofs.LineBytes.{line-size, line-over, part-size}
use Rattle.form_write_line.proofs.put_line.Goals as goal

pub put_level-size-requires : goal.put_level-size-requires
put_level-size-requires c = let a = c.args in omega (arith, line-size (record { level = a.level; code = a.code }))

pub put_code-requires : goal.put_code-requires
put_code-requires c =
    let a = c.args in
    let p = c.put_level-size in
    omega (arith, line-size (record { level = a.level; code = a.code }), part-size p.result p.new.out)

pub returns-clause-took : goal.returns-clause-took
returns-clause-took c = let a = c.args in omega (arith, line-size (record { level = a.level; code = a.code }))

pub returns-clause-wrote : goal.returns-clause-wrote
returns-clause-wrote c =
    let p = c.put_level-size in
    line-over _ _ _ _ _ _ c.requires p.ensures.took p.ensures.wrote c.put_code.ensures
