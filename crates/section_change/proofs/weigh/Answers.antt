-- `section_change::weigh` meets its contract: at each turn what was weighed and what the entries left would do come to the whole. Assumes nothing.
use Rattle.std.specs.declared.cmp.Ordering.TheVariants.{Less, Equal, Greater}
use Prim.Native.Nat.{ℕ, zero, suc, ◌+◌, ◌*◌, ◌-◌, ◌<◌, ◌≤◌}
use mathlib.Core.Path.{◌≡◌, refl, sym}
use mathlib.Core.Bool.{Bool, true}
use mathlib.Core.List.{List}
use native.Mathlib.Omega.{arith}
use lib.Dec.{leb}
use lib.ListN.{length, get_or, take, drop, length-take, length-drop}
use borrow.Author.Tests.{le-leb, lt-leb}
use Rattle.words.proofs.Tests.{never}
use Rattle.words.specs.Base.{when◌then◌else◌}
use Rattle.words.proofs.Ordered.{compare_equal}
use Rattle.figures.specs.Limits.{greatest_count}
use Rattle.section.specs.Entries.{entries, span, Below}
use Rattle.section_change.specs.Editing.{weighed, first_against}
use Rattle.section.proofs.Words.{span-at, entries_at}
use Rattle.section_change.proofs.Weighing.{weighs_none, weighs_past, weighs_same, weighs_new, weighs_all}
use Rattle.section_change.proofs.Adding.{against_below}
use Rattle.section_change.proofs.weigh.Invariants.{State}
use Rattle.section_change.proofs.weigh.Goals as goal
use Rattle.section_change.proofs.weigh.Goals.{then-other-from, else-other-from}

-- Where the first entry left is lower there is one.
lower-some : (key ws : List ℕ) (left : ℕ) → first_against key (entries left ws) ≡ Less → 0 < left
unfolding entries
lower-some key ws zero h = never cc
lower-some key ws (suc left) h = omega arith

-- Where the first entry left is equal there is one.
equal-some : (key ws : List ℕ) (left : ℕ) → first_against key (entries left ws) ≡ Equal → 0 < left
unfolding entries
equal-some key ws zero h = never cc
equal-some key ws (suc left) h = omega arith

-- Two counts of a key, and whether a count was told to pass before and after they are put together.
module _ (m n : ℕ) (full full' : Bool) (fits : n ≤ greatest_count) where
  -- Together they pass.
  told_over : greatest_count - n < m → full' ≡ true → full' ≡ (when leb (m + n) greatest_count then full else true)
  unfolding when◌then◌else◌
  told_over h e = rw (lt-leb (m + n) greatest_count (omega arith)) e

  -- Together they do not.
  told_under : m ≤ greatest_count - n → full' ≡ full → full' ≡ (when leb (m + n) greatest_count then full else true)
  unfolding when◌then◌else◌
  told_under h e = rw (le-leb (m + n) greatest_count (omega arith)) e

-- The first of the other's entries left, whose words end at `end`.
module _ (book : List ℕ) (many : ℕ) (other : List ℕ) (more at left from rest lacking : ℕ) (full : Bool) (end : ℕ)
    (s : State book many other more at left from rest lacking full) (some : 0 < rest) (ends : end ≡ from + 2 + 2 * get_or other from 0) where
  -- It lies within the other's words, with those behind it.
  room : end + span (rest - 1) (drop end other) ≤ length other
  room = omega (arith, s.theirs, span-at other from rest end some ends)

  -- A lower entry of the book is passed.
  past-lower : (next : ℕ) → 0 < left → next ≡ at + 2 + 2 * get_or book at 0 → first_against (take (end - (from + 2)) (drop (from + 2) other)) (entries left (drop at book)) ≡ Less
      → State book many other more next (left - 1) from rest lacking full
  unfolding Below
  past-lower next l nexts h =
      let w = rw (entries_at book at left next l nexts) at s.weighs in
      let c = rw (entries_at book at left next l nexts) at h in
      record { mine = omega (arith, s.mine, span-at book at left next l nexts); theirs = s.theirs; few = s.few; weighs = weighs_past w (rw (entries_at other from rest end some ends) c) }

  -- Two entries of the same key are passed.
  past_equal : (next : ℕ) → 0 < left → next ≡ at + 2 + 2 * get_or book at 0 → first_against (take (end - (from + 2)) (drop (from + 2) other)) (entries left (drop at book)) ≡ Equal
      → (full' : Bool) → full' ≡ (when leb (get_or book (at + 1) 0 + get_or other (from + 1) 0) greatest_count then full else true)
      → State book many other more next (left - 1) end (rest - 1) lacking full'
  past_equal next l nexts h full' told =
      let w = rw (entries_at book at left next l nexts, entries_at other from rest end some ends) at s.weighs in
      let c = rw (entries_at book at left next l nexts) at h in
      record {
        mine = omega (arith, s.mine, span-at book at left next l nexts);
        theirs = room;
        few = omega (arith, s.few);
        weighs = rw told (weighs_same w (compare_equal _ _ c));
      }

  -- An entry of the other's that the book lacks is passed.
  past-higher : first_against (take (end - (from + 2)) (drop (from + 2) other)) (entries left (drop at book)) ≡ Greater
      → State book many other more at left end (rest - 1) (lacking + (end - from)) full
  past-higher h =
      let key = take (end - (from + 2)) (drop (from + 2) other) in
      let long : 2 + length key ≡ end - from = simp (length-take, length-drop) (omega (arith, room)) in
      let w = rw (entries_at other from rest end some ends) at s.weighs in
      record { mine = s.mine; theirs = room; few = omega (arith, s.few); weighs = rw (← long) (weighs_new w (against_below key _ h)) }

-- With none of the other's left all is weighed.
all-weighed : (book : List ℕ) (many : ℕ) (other : List ℕ) (more at left from rest lacking : ℕ) (full : Bool) → State book many other more at left from rest lacking full → rest ≤ 0
    → record { lacking = lacking; overfull = full } ≡ weighed (entries more other) (entries many book)
unfolding entries
all-weighed book many other more at left from zero lacking full s h = weighs_all s.weighs
all-weighed book many other more at left from (suc rest) lacking full s h = absurd (omega arith)

-- The book's first entry left lies within its words.
book-room : (book : List ℕ) (at left end : ℕ) → at + span left (drop at book) ≤ length book → 0 < left → end ≡ at + 2 + 2 * get_or book at 0 → end ≤ length book
book-room book at left end fits some ends = omega (arith, span-at book at left end some ends)

pub loop-rest-init : goal.loop-rest-init
loop-rest-init c =
    record {
      mine = omega (arith, c.requires.book_in_bounds.0);
      theirs = omega (arith, c.requires.other_in_bounds.0);
      few = omega arith;
      weighs = weighs_none (entries c.args.more c.args.other.now) (entries c.args.many c.args.book.now) c.requires.other_in_bounds.1.0 c.requires.book_in_bounds.1 c.requires.other_in_bounds.1.1;
    }

pub past-end-requires : goal.past-end-requires
past-end-requires c = omega (arith, room _ _ _ _ _ _ _ _ _ _ _ c.loop-rest.invariant c.loop-rest-test.true refl)

pub slice_bounds-first_against-end : goal.slice_bounds-first_against-end
slice_bounds-first_against-end c = omega (arith, room _ _ _ _ _ _ _ _ _ _ c.past-end.result c.loop-rest.invariant c.loop-rest-test.true c.past-end.ensures)

pub past-at-requires : goal.past-at-requires
past-at-requires c = book-room c.args.book.now c.loop-rest.at _ _ c.loop-rest.invariant.mine (lower-some _ _ _ (sym c.in-Less.ensures)) refl

pub overflow_sub-left : goal.overflow_sub-left
overflow_sub-left c = lower-some _ _ _ (sym c.in-Less.ensures)

pub loop-rest-smaller-in-Less : goal.loop-rest-smaller-in-Less
loop-rest-smaller-in-Less c = omega (arith, lower-some _ _ _ (sym c.in-Less.ensures))

pub loop-rest-preserved-in-Less : goal.loop-rest-preserved-in-Less
loop-rest-preserved-in-Less c =
    let lower = sym c.in-Less.ensures in
    past-lower _ _ _ _ _ _ _ _ _ _ c.past-end.result c.loop-rest.invariant c.loop-rest-test.true c.past-end.ensures c.past-at.result (lower-some _ _ _ lower) c.past-at.ensures lower

pub bounds-other-from : goal.bounds-other-from
bounds-other-from c = omega (arith, room _ _ _ _ _ _ _ _ _ _ c.past-end.result c.loop-rest.invariant c.loop-rest-test.true c.past-end.ensures, c.past-end.ensures)

pub bounds-book-at : goal.bounds-book-at
bounds-book-at c = omega (arith, book-room c.args.book.now c.loop-rest.at _ _ c.loop-rest.invariant.mine (equal-some _ _ _ (sym c.in-Equal.ensures)) refl)

pub past-at-requires-in-Equal : goal.past-at-requires-in-Equal
past-at-requires-in-Equal c = book-room c.args.book.now c.loop-rest.at _ _ c.loop-rest.invariant.mine (equal-some _ _ _ (sym c.in-Equal.ensures)) refl

pub overflow_sub-left-in-Equal : goal.overflow_sub-left-in-Equal
overflow_sub-left-in-Equal c = equal-some _ _ _ (sym c.in-Equal.ensures)

pub loop-rest-preserved-in-Equal : goal.loop-rest-preserved-in-Equal
loop-rest-preserved-in-Equal c =
    let equal = sym c.in-Equal.ensures in
    let fits : get_or c.args.other.now (c.loop-rest.from + 1) 0 ≤ greatest_count = omega (arith, c.type_inv.other (c.loop-rest.from + 1)) in
    past_equal _ _ _ _ _ _ _ _ _ _ c.past-end.result c.loop-rest.invariant c.loop-rest-test.true c.past-end.ensures c.past-at-in-Equal.result (equal-some _ _ _ equal) c.past-at-in-Equal.ensures equal c.if-other-from.overfull
    (elim c.if-other-from.branch [ then-other-from w ↦ told_over _ _ _ _ fits w.if-other-from.true w.overfull-is | else-other-from w ↦ told_under _ _ _ _ fits w.if-other-from.false w.overfull-is ])

pub loop-rest-preserved : goal.loop-rest-preserved
loop-rest-preserved c = past-higher _ _ _ _ _ _ _ _ _ _ c.past-end.result c.loop-rest.invariant c.loop-rest-test.true c.past-end.ensures (sym c.in-Greater.ensures)

pub returns : goal.returns
returns c = all-weighed _ _ _ _ _ _ _ _ _ _ c.loop-rest.invariant c.loop-rest-test.false
