-- What a turn of `section_tally::index` keeps: the places before it are written, the others are those of the entries left, and these lie within the book.
use Rattle.std.proofs.Common.{◌≡◌, ℕ, ◌+◌, ◌-◌, ◌<◌, ◌≤◌, length, get_or, drop}
use Rattle.section.specs.Entries.{span}
use Rattle.section_tally.specs.Tallying.{starts_of}
use Rattle.section_tally.proofs.index.Given as goal

abbrev pub invariant-loop-start : goal.invariant-loop-start
invariant-loop-start l =
    let i = l.start-index in
    let all = starts_of l.from l.n (drop l.from l.book) in record {
      fits : l.at + span (l.n - i) (drop l.at l.book) ≤ length l.book;
      left : drop i all ≡ starts_of l.at (l.n - i) (drop l.at l.book);
      written : (k : ℕ) → k < i → get_or l.start-items k 0 ≡ get_or all k 0;
    }
