-- What a turn of `words::compare` keeps: what is left decides the place, and is as much shorter as the slices as there were turns.
use Rattle.std.proofs.Common.{◌≡◌, ◌+◌, length}
use Rattle.std.specs.Iterator.Adapters.{enumerate_source, enumerate_count, zip_first, zip_second}
use Rattle.std.specs.Slice.Iter.{iter_rest}
use Rattle.words.specs.Compare.{signed_of, signed_from}
use Rattle.words.proofs.compare.Given as goal

abbrev pub invariant-loop-i : goal.invariant-loop-i
invariant-loop-i l =
    let n = enumerate_count l.i-iterator in
    let xs = iter_rest (zip_first (enumerate_source l.i-iterator)) in
    let ys = iter_rest (zip_second (enumerate_source l.i-iterator)) in record {
      decided : signed_of l.a l.b ≡ signed_from n xs ys;
      first : n + length xs ≡ length l.a;
      second : n + length ys ≡ length l.b;
    }
