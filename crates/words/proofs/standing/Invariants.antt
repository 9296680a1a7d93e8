-- What a turn of `words::standing` keeps: what is left decides how the whole slices stand, and is as much longer or shorter as these are.
use Rattle.std.proofs.Common.{◌≡◌, ◌+◌, length}
use Rattle.std.specs.Iterator.Adapters.{zip_first, zip_second}
use Rattle.std.specs.Slice.Iter.{iter_rest}
use Rattle.words.specs.Compare.{compare_of}
use Rattle.words.proofs.standing.Given as goal

abbrev pub invariant-loop-x : goal.invariant-loop-x
invariant-loop-x l = record {
  decided : compare_of l.a l.b ≡ compare_of (iter_rest (zip_first l.x-iterator)) (iter_rest (zip_second l.x-iterator));
  as_long : length l.a + length (iter_rest (zip_second l.x-iterator)) ≡ length l.b + length (iter_rest (zip_first l.x-iterator));
}
