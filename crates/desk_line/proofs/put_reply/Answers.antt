-- Each turn writes the next number behind those before, and LF stands behind all.
use Rattle.std.proofs.Common.{refl}
use Rattle.desk_line.proofs.Printed.{numbered_none, number_room, numbered_more, numbered_all}
use Rattle.desk_line.proofs.put_reply.Goals as goal

pub loop-n-init : goal.loop-n-init
loop-n-init c = numbered_none _ _ _ c.requires

pub put_field-end-requires : goal.put_field-end-requires
put_field-end-requires c = number_room _ _ _ _ _ _ c.requires c.loop-n.invariant c.loop-n-test.true _

pub loop-n-preserved : goal.loop-n-preserved
loop-n-preserved c =
    let p = c.put_field-end.ensures in
    numbered_more _ _ _ _ _ _ c.requires c.loop-n.invariant c.loop-n-test.true c.loop-n-test.true _ _ p.took p.wrote

pub returns-clause-took : goal.returns-clause-took
returns-clause-took c =
    (numbered_all _ _ _ _ _ _ c.requires c.loop-n.invariant c.args.used c.args.answer (rw (c.from.ensures, c.from-2.ensures) refl) c.loop-n-test.false c.loop-n.auto.n-index-end).bytes

pub returns-clause-wrote : goal.returns-clause-wrote
returns-clause-wrote c =
    (numbered_all _ _ _ _ _ _ c.requires c.loop-n.invariant c.args.used c.args.answer (rw (c.from.ensures, c.from-2.ensures) refl) c.loop-n-test.false c.loop-n.auto.n-index-end).is
