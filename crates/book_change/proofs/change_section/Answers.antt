-- `book_change::change_section` meets its contract. Assumes nothing.
use Prim.Native.Nat.{ℕ, ◌+◌, ◌-◌, ◌≤◌}
use mathlib.Core.Path.{◌≡◌}
use mathlib.Core.List.{List}
use native.Mathlib.Omega.{arith}
use lib.ListN.{length, take, drop}
use Rattle.words.proofs.Shifts.{tail_all}
use Rattle.book.specs.declared.Section.{Section}
use Rattle.book_change.specs.Changing.{SectionStands}
use Rattle.book_change.proofs.Standing.{stand_fits, stand_start, lives-ready, entries-ready, lacks_ready, end-then, many-then, words-then}
use Rattle.book_change.proofs.change_section.Goals as goal
use Rattle.book_change.proofs.change_section.Goals.{After-struct_known-1}

-- A section that stands in words.
module _ (ws : List ℕ) (s : Section) (at uses : ℕ) (h : SectionStands ws s at uses) where
  -- It starts within the used words, and these are within the slice.
  stands_in : (at ≤ uses) × (uses ≤ length ws)
  stands_in =
      let f = stand_start ws s at uses h in
      let g = stand_fits ws s at uses h in
      (omega (arith, h.end), omega (arith, h.end))

  -- What is lent is all from its start on.
  lent : take (length ws - at) (drop at ws) ≡ drop at ws
  lent = tail_all at ws (omega (arith, stands_in))

pub lives-live-requires : goal.lives-live-requires
lives-live-requires c =
    let x = c.args in
    let r = c.requires in
    lives-ready x.book.now x.other.now x.change x.section x.at x.uses x.from _ r.section_stands r.section_stands_2 r.ready c.slot-word.result c.slot-word.ensures

pub offset_bounds-book-at : goal.offset_bounds-book-at
offset_bounds-book-at c = let h = c.requires.section_stands in omega (arith, stands_in _ _ _ _ h, h.short)

pub slice_bounds-change_entries-count : goal.slice_bounds-change_entries-count
slice_bounds-change_entries-count c = omega (arith, stands_in _ _ _ _ c.requires.section_stands)

pub slice_bounds-change_entries-start : goal.slice_bounds-change_entries-start
slice_bounds-change_entries-start c = omega (arith, stands_in _ _ _ _ c.requires.section_stands)

pub overflow_sub-uses : goal.overflow_sub-uses
overflow_sub-uses c = (stands_in _ _ _ _ c.requires.section_stands).0

pub offset_bounds-other-from : goal.offset_bounds-other-from
offset_bounds-other-from c = let h = c.requires.section_stands_2 in omega (arith, stands_in _ _ _ _ h, h.short)

pub slice_bounds-change_entries-count-2 : goal.slice_bounds-change_entries-count-2
slice_bounds-change_entries-count-2 c = omega (arith, stands_in _ _ _ _ c.requires.section_stands_2)

pub slice_bounds-change_entries-start-2 : goal.slice_bounds-change_entries-start-2
slice_bounds-change_entries-start-2 c = omega (arith, stands_in _ _ _ _ c.requires.section_stands_2)

pub change_entries-size-requires-clause-laid : goal.change_entries-size-requires-clause-laid
change_entries-size-requires-clause-laid c =
    let x = c.args in
    let r = c.requires in
    (entries-ready x.book.now x.other.now x.change x.section x.at x.uses x.from _ r.section_stands r.section_stands_2 r.ready c.slot-word.result c.slot-word.ensures _ _ (lent _ _ _ _ r.section_stands) (lent _ _ _ _ r.section_stands_2)).0

pub change_entries-size-requires-clause-other_in_bounds :
    goal.change_entries-size-requires-clause-other_in_bounds
change_entries-size-requires-clause-other_in_bounds c =
    let x = c.args in
    let r = c.requires in
    (entries-ready x.book.now x.other.now x.change x.section x.at x.uses x.from _ r.section_stands r.section_stands_2 r.ready c.slot-word.result c.slot-word.ensures _ _ (lent _ _ _ _ r.section_stands) (lent _ _ _ _ r.section_stands_2)).1

pub change_entries-size-requires-clause-part_in_bounds :
    goal.change_entries-size-requires-clause-part_in_bounds
change_entries-size-requires-clause-part_in_bounds c =
    let x = c.args in
    let r = c.requires in
    (entries-ready x.book.now x.other.now x.change x.section x.at x.uses x.from _ r.section_stands r.section_stands_2 r.ready c.slot-word.result c.slot-word.ensures _ _ (lent _ _ _ _ r.section_stands) (lent _ _ _ _ r.section_stands_2)).2

pub change_entries-size-requires-clause-lacks : goal.change_entries-size-requires-clause-lacks
change_entries-size-requires-clause-lacks c =
    let x = c.args in
    let r = c.requires in
    lacks_ready x.book.now x.other.now x.change x.section x.at x.uses x.from _ r.section_stands r.section_stands_2 r.ready c.slot-word.result c.slot-word.ensures _ _ (lent _ _ _ _ r.section_stands) (lent _ _ _ _ r.section_stands_2) x.lacking r.lacks

pub returns-clause-came : goal.returns-clause-came
returns-clause-came c =
    let x = c.args in
    let r = c.requires in
    end-then x.book.now x.other.now x.change x.section x.at x.uses x.from _ r.section_stands r.section_stands_2 r.ready c.slot-word.result c.slot-word.ensures _ _ _ c.change_entries-size.result (lent _ _ _ _ r.section_stands) (lent _ _ _ _ r.section_stands_2) c.change_entries-size.ensures

-- The words used then are as many as the slice has at most.
few : (c : After-struct_known-1) → c.args.at + c.change_entries-size.result.used ≤ length c.args.book.now
few c =
    let x = c.args in
    let r = c.requires in
    omega (arith, r.ready.room, end-then x.book.now x.other.now x.change x.section x.at x.uses x.from _ r.section_stands r.section_stands_2 r.ready c.slot-word.result c.slot-word.ensures _ _ _ c.change_entries-size.result (lent _ _ _ _ r.section_stands) (lent _ _ _ _ r.section_stands_2) c.change_entries-size.ensures)

pub overflow_add-end : goal.overflow_add-end
overflow_add-end c = omega (arith, few c, c.requires.section_stands.short)

pub overflow_cast-book : goal.overflow_cast-book
overflow_cast-book c = omega (arith, few c, c.requires.section_stands.short)

pub overflow_cast-book-2 : goal.overflow_cast-book-2
overflow_cast-book-2 c =
    let x = c.args in
    let r = c.requires in
    omega (arith, returns-clause-came c, r.ready.room, r.section_stands.short, many-then x.book.now x.other.now x.change x.section x.at x.uses x.from _ r.section_stands r.section_stands_2 r.ready c.slot-word.result c.slot-word.ensures _ _ _ c.change_entries-size.result (lent _ _ _ _ r.section_stands) (lent _ _ _ _ r.section_stands_2) c.change_entries-size.ensures)

pub returns-clause-wrote : goal.returns-clause-wrote
returns-clause-wrote c =
    let x = c.args in
    let r = c.requires in
    words-then x.book.now x.other.now x.change x.section x.at x.uses x.from _ r.section_stands r.section_stands_2 r.ready c.slot-word.result c.slot-word.ensures _ _ c.change_entries-size.new.part c.change_entries-size.result (lent _ _ _ _ r.section_stands) (lent _ _ _ _ r.section_stands_2) c.change_entries-size.ensures c.lives-live.result c.lives-live.ensures
