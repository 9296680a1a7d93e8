-- `words::copy` meets its contract: after the last turn all words stand in front. Assumes nothing.
use Rattle.std.proofs.Common.{refl, arith}
use Rattle.words.proofs.Fronts.{fronted_none, fronted_turn, fronted_done}
use Rattle.words.proofs.copy.Goals as goal

pub loop-i-init : goal.loop-i-init
loop-i-init c = fronted_none c.args.words.now c.args.out.now

pub loop-i-preserved : goal.loop-i-preserved
loop-i-preserved c =
    let more = c.loop-i-test.true in
    fronted_turn c.args.words.now c.args.out.now c.loop-i.out c.loop-i.i _ c.loop-i.invariant more (omega (arith, c.requires, more)) refl

pub returns : goal.returns
returns c = fronted_done c.args.words.now c.args.out.now c.loop-i.out c.loop-i.i c.loop-i.invariant c.loop-i.auto.i-end (omega (arith, c.loop-i-test.false))
