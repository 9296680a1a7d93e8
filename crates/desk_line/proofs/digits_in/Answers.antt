use Rattle.std.proofs.Common.{arith}
use Rattle.desk_line.proofs.Decimals.{below-limit, length-log}
use Rattle.desk_line.proofs.digits_in.Goals as goal

pub returns : goal.returns
returns c =
    let p = c.ilog10.ensures in
    let n = c.args.n in
    length-log _ n (omega (arith, p.power_le, c.max.ensures)) (omega (arith, p.next_power_gt, c.max.ensures)) (below-limit n (omega (arith, c.ranges.n)))
