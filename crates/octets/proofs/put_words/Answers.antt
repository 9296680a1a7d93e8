-- `octets::put_words` meets its contract: a turn writes the bytes of one word more. Assumes nothing.
use Rattle.std.proofs.Common.{refl, arith}
use Rattle.octets.specs.Octets.{bytes_of}
use Rattle.octets.proofs.Bytes.{bytes-turn}
use Rattle.octets.proofs.put_words.Goals as goal

pub loop-i-init : goal.loop-i-init
unfolding bytes_of
loop-i-init c = (c.requires, refl)

pub loop-i-preserved : goal.loop-i-preserved
loop-i-preserved c = bytes-turn c.args.words.now c.loop-i.out c.put_word.new.out c.loop-i.i (omega arith) c.loop-i.invariant.0 c.loop-i.invariant.1 c.put_word.ensures
