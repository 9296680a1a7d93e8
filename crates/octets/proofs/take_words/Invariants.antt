-- What a turn of `octets::take_words` keeps: the first words are those of the bytes.
use Rattle.std.proofs.Common.{◌≡◌, ℕ, ◌<◌, get_or}
use Rattle.octets.specs.Octets.{words_of}
use Rattle.octets.proofs.take_words.Given as goal

abbrev pub invariant-loop-i : goal.invariant-loop-i
invariant-loop-i l = (k : ℕ) → k < l.i → get_or l.out k 0 ≡ get_or (words_of l.bytes) k 0
