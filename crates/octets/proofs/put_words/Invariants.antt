-- What a turn of `octets::put_words` keeps: the first bytes are those of the words that are done, and there are two for each word.
use Rattle.std.proofs.Common.{◌≡◌, ◌*◌, length, take}
use Rattle.octets.specs.Octets.{bytes_of}
use Rattle.octets.proofs.put_words.Given as goal

abbrev pub invariant-loop-i : goal.invariant-loop-i
invariant-loop-i l = (length l.out ≡ 2 * length l.words) × (take (2 * l.i) l.out ≡ bytes_of (take l.i l.words))
