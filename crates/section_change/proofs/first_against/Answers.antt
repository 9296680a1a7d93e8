-- `section_change::first_against` meets its contract: the entry at `at` is the first of those left. Assumes nothing.
use Rattle.std.specs.declared.cmp.Ordering.TheVariants.{Greater}
use Rattle.std.proofs.Common.{◌≡◌, ℕ, ◌+◌, ◌*◌, ◌<◌, ◌≤◌, List, length, get_or, drop, refl, arith}
use Rattle.section.specs.Entries.{entries, span}
use Rattle.section.proofs.Words.{span-at, entries_at}
use Rattle.section_change.specs.Editing.{first_against}
use Rattle.section_change.proofs.first_against.Goals as goal

-- The entry at `at` lies within the book.
room : (book : List ℕ) (at left end : ℕ) → at + span left (drop at book) ≤ length book → 0 < left → end ≡ at + 2 + 2 * get_or book at 0 → end ≤ length book
room book at left end fits some ends = omega (arith, span-at book at left end some ends)

-- With none left the answer is that of none.
none_left : (book key : List ℕ) (at left : ℕ) → left ≡ 0 → Greater ≡ first_against key (entries left (drop at book))
unfolding entries
none_left book key at left h = rw h

pub returns-then-left-eq0 : goal.returns-then-left-eq0
returns-then-left-eq0 c = none_left c.args.book.now c.args.key.now c.args.at c.args.left c.if-left-eq0.true

pub past-end-requires : goal.past-end-requires
past-end-requires c = room c.args.book.now c.args.at c.args.left _ c.requires (omega (arith, c.if-left-eq0.false)) refl

pub slice_bounds-standing-end : goal.slice_bounds-standing-end
slice_bounds-standing-end c = room c.args.book.now c.args.at c.args.left _ c.requires (omega (arith, c.if-left-eq0.false)) c.past-end.ensures

pub returns : goal.returns
returns c = rw (entries_at c.args.book.now c.args.at c.args.left c.past-end.result (omega (arith, c.if-left-eq0.false)) c.past-end.ensures) c.standing.ensures
