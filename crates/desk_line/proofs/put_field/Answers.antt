-- A space, and the digits behind it.
use Rattle.std.proofs.Common.{arith, length-set, set}
use Rattle.form.specs.Text.{space}
use Rattle.form.proofs.LineBytes.{part-size}
use Rattle.desk_line.proofs.Decimals.{decimal-size, below-limit}
use Rattle.desk_line.proofs.Printed.{field-bytes, put_field}
use Rattle.desk_line.proofs.put_field.Goals as goal

pub bounds-out-0 : goal.bounds-out-0
bounds-out-0 c = omega (arith, field-bytes c.args.n)

pub slice_bounds-put_digits-count : goal.slice_bounds-put_digits-count
slice_bounds-put_digits-count c = simp length-set (omega (arith, field-bytes c.args.n))

pub slice_bounds-put_digits-start : goal.slice_bounds-put_digits-start
slice_bounds-put_digits-start c = simp length-set (omega (arith, field-bytes c.args.n))

pub put_digits-requires : goal.put_digits-requires
put_digits-requires c =
    let a = c.args in
    omega (arith, field-bytes a.n, part-size 1 (set a.out.now 0 space), length-set a.out.now 0 space)

pub overflow_add-result : goal.overflow_add-result
overflow_add-result c = omega (arith, decimal-size c.args.n)

pub returns-clause-took : goal.returns-clause-took
returns-clause-took c = omega (arith, field-bytes c.args.n)

pub returns-clause-wrote : goal.returns-clause-wrote
returns-clause-wrote c =
    (put_field _ _ c.args.out.now _ c.requires (below-limit c.args.n (omega (arith, c.ranges.n))) c.digits_in-many.ensures c.put_digits.ensures).is
