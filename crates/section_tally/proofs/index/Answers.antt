-- `section_tally::index` meets its contract: the place of each entry is where the one before it ends. Assumes nothing.
use Rattle.std.proofs.Common.{◌≡◌, ℕ, ◌+◌, ◌-◌, ◌*◌, ◌<◌, ◌≤◌, ◌≢◌, List, length, get_or, set, drop, get_or-set_other, get_or-set_same, below_more, length-take, refl, sym, arith}
use Rattle.std.proofs.lemmas.Grind.{same_number_lists}
use Rattle.section.specs.Entries.{span}
use Rattle.section.proofs.Words.{span-at}
use Rattle.section_tally.specs.Tallying.{starts_of}
use Rattle.section_tally.proofs.Starts.{length-starts, next_place, next-places}
use Rattle.section_tally.proofs.index.Goals as goal

-- An entry of those left, which lie within the book, and those behind it lie within it.
room : (book : List ℕ) (at left end : ℕ) → at + span left (drop at book) ≤ length book → 0 < left → end ≡ at + 2 + 2 * get_or book at 0 → end + span (left - 1) (drop end book) ≤ length book
room book at left end fits more ends = omega (arith, span-at book at left end more ends)

-- The places so far, and that of the next entry.
one_more : (all items : List ℕ) (i at : ℕ) → i < length items → get_or all i 0 ≡ at → ((k : ℕ) → k < i → get_or items k 0 ≡ get_or all k 0)
    → (k : ℕ) → k < i + 1 → get_or (set items i at) k 0 ≡ get_or all k 0
one_more all items i at h is before =
    below_more _ _ (λ k l. let other : k ≢ i = omega arith in rw get_or-set_other (before k l)) (rw get_or-set_same (sym is))

pub past-at-requires : goal.past-at-requires
past-at-requires c = let m = length-take c.args.n c.args.starts.now in omega (arith, room c.args.book.now c.loop-start.at _ _ c.loop-start.invariant.fits (omega arith) refl)

pub loop-start-preserved : goal.loop-start-preserved
loop-start-preserved c =
    let x = c.args in
    let i = c.loop-start.start-index in
    let all = starts_of x.from x.n (drop x.from x.book.now) in
    let m = length-take x.n x.starts.now in
    let some : 0 < x.n - i = omega arith in
    let left : x.n - i - 1 ≡ x.n - (i + 1) = omega arith in
    let s = c.loop-start.invariant in
    let end = c.past-at.result in record {
      fits = rw (← left) (room x.book.now c.loop-start.at (x.n - i) end s.fits some c.past-at.ensures);
      left = rw (← left) (next-places x.book.now c.loop-start.at (x.n - i) end some c.past-at.ensures all i s.left);
      written = one_more all c.loop-start.start-items i c.loop-start.at (omega arith) (next_place x.book.now c.loop-start.at (x.n - i) end some c.past-at.ensures all i s.left) s.written;
    }

pub returns : goal.returns
returns c =
    let x = c.args in
    let all = starts_of x.from x.n (drop x.from x.book.now) in
    let m = length-take x.n x.starts.now in
    let long : length all ≡ x.n = length-starts x.from x.n (drop x.from x.book.now) in
    let same : c.loop-start.start-items ≡ all = same_number_lists c.loop-start.start-items all (omega arith) (λ k h. c.loop-start.invariant.written k (omega arith)) in
    rw (same, long)
