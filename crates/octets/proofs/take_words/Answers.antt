-- `octets::take_words` meets its contract: each word is that of its two bytes, and there are as many. Assumes nothing.
use Rattle.std.proofs.Common.{◌≡◌, ◌+◌, ◌*◌, ◌<◌, ◌≢◌, length, get_or-set_other, get_or-set_same, sym, ◌∙◌, arith, below_more}
use Rattle.std.proofs.lemmas.Grind.{same_number_lists}
use Rattle.octets.specs.Octets.{words_of}
use Rattle.octets.proofs.Bytes.{words_long, word_is}
use Rattle.octets.proofs.take_words.Goals as goal

pub loop-i-preserved : goal.loop-i-preserved
loop-i-preserved c =
    let bytes = c.args.bytes.now in
    let i = c.loop-i.i in
    let here : i < length c.loop-i.out = omega arith in
    let at : 2 * i + 1 < length bytes = omega (arith, c.requires) in
    below_more _ _
    (λ k h. let other : k ≢ i = omega arith in rw get_or-set_other (c.loop-i.invariant k h))
    (rw get_or-set_same (c.word_at.ensures ∙ sym (word_is bytes i at)))

pub returns : goal.returns
returns c =
    let long : length (words_of c.args.bytes.now) ≡ length c.args.out.now = words_long c.args.bytes.now _ c.requires in
    same_number_lists c.loop-i.out (words_of c.args.bytes.now) (omega arith) (λ k h. c.loop-i.invariant k (omega arith))
