-- What a turn of `section_tally::same_counts` keeps: the places and the counts that are left, as many, are compared as the whole is.
use Rattle.std.proofs.Common.{◌≡◌, length}
use Rattle.std.specs.Iterator.Adapters.{zip_first, zip_second}
use Rattle.std.specs.Slice.Iter.{iter_rest}
use Rattle.section_tally.specs.Tallying.{listed, same_counts}
use Rattle.section_tally.proofs.same_counts.Given as goal

abbrev pub invariant-loop-at : goal.invariant-loop-at
invariant-loop-at l =
    let starts = iter_rest (zip_first l.at-iterator) in
    let counts = iter_rest (zip_second l.at-iterator) in record {
      compared : same_counts (listed l.starts l.book) l.counts ≡ same_counts (listed starts l.book) counts;
      as_many : length counts ≡ length starts;
    }
