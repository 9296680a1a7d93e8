-- `section_change::add_all` meets its contract: at each turn the entries passed, and the sum of those left and of the other's left, are the whole sum,
-- and the gap has room for what is still lacking. Assumes nothing.
use Rattle.std.specs.declared.cmp.Ordering.TheVariants.{Less, Equal}
use Rattle.std.proofs.Common.{true, ◌≡◌, ℕ, ◌+◌, ◌-◌, ◌<◌, ◌≤◌, List, length, length-take, length-drop, refl, sym, arith}
use Rattle.words.proofs.Tests.{never}
use Rattle.section.specs.Entries.{entries, span, section_words, Sorted}
use Rattle.section_change.specs.Editing.{first_against, add_all, fitting, lacking_words, Laid}
use Rattle.section_change.proofs.Adding.{against_some}
use Rattle.section_change.proofs.Entering.{Ready, ready_room, adds_start, adds_end, adds_within, adds_first, adds_inside, adds_lower, adds_fits, adds_raised, adds_equal, adds_room, adds_higher}
use Rattle.section_change.proofs.add_all.Goals as goal

module _ (ws : List ℕ) (many used : ℕ) (other : List ℕ) (more lacking : ℕ) where
  -- What the pass asks is what the caller has shown.
  ready : Laid ws many used × Sorted (entries many ws) → (span more other ≤ length other) × Sorted (entries more other)
      → (length (section_words (add_all (entries more other) (entries many ws))) + (used - span many ws) ≤ length ws) × (fitting (add_all (entries more other) (entries many ws)) ≡ true)
      → lacking ≡ lacking_words (entries more other) (entries many ws) → Ready ws many used other more lacking
  ready mine theirs room lacks = record { laid = mine.0; sorted = mine.1; inside = theirs.0; ascends = theirs.1; size = room.0; fits = room.1; lacks = lacks }

-- One is left where the first is lower,
some-lower : (key ws : List ℕ) (left : ℕ) → first_against key (entries left ws) ≡ Less → 0 < left
some-lower key ws left e = against_some _ _ _ Less e (λ h. never cc)

-- or equal.
some-equal : (key ws : List ℕ) (left : ℕ) → first_against key (entries left ws) ≡ Equal → 0 < left
some-equal key ws left e = against_some _ _ _ Equal e (λ h. never cc)

pub open_gap-requires : goal.open_gap-requires
open_gap-requires c = ready_room _ _ _ _ _ _ (ready _ _ _ _ _ _ c.requires.laid c.requires.other_in_bounds c.requires.book_in_bounds c.requires.lacking_value)

pub loop-rest-init : goal.loop-rest-init
loop-rest-init c = adds_start _ _ _ _ _ _ (ready _ _ _ _ _ _ c.requires.laid c.requires.other_in_bounds c.requires.book_in_bounds c.requires.lacking_value) _ c.open_gap.ensures

pub past-end-requires : goal.past-end-requires
past-end-requires c = omega (arith, adds_inside _ _ _ _ _ _ _ _ _ _ _ _ _ _ c.loop-rest.invariant _ c.loop-rest-test.true refl)

pub slice_bounds-first_against-end : goal.slice_bounds-first_against-end
slice_bounds-first_against-end c = omega (arith, adds_inside _ _ _ _ _ _ _ _ _ _ _ _ _ _ c.loop-rest.invariant c.past-end.result c.loop-rest-test.true c.past-end.ensures)

pub first_against-requires : goal.first_against-requires
first_against-requires c = omega (arith, adds_within _ _ _ _ _ _ _ _ _ _ _ _ _ _ c.loop-rest.invariant)

pub past-at-requires : goal.past-at-requires
past-at-requires c = adds_first _ _ _ _ _ _ _ _ _ _ _ _ _ _ c.loop-rest.invariant (some-lower _ _ _ (sym c.in-Less.ensures))

pub overflow_sub-left : goal.overflow_sub-left
overflow_sub-left c = some-lower _ _ _ (sym c.in-Less.ensures)

pub loop-rest-smaller-in-Less : goal.loop-rest-smaller-in-Less
loop-rest-smaller-in-Less c = omega (arith, some-lower _ _ _ (sym c.in-Less.ensures))

pub loop-rest-preserved-in-Less : goal.loop-rest-preserved-in-Less
loop-rest-preserved-in-Less c =
    let lower = sym c.in-Less.ensures in
    adds_lower _ _ _ _ _ _ _ _ _ _ _ _ _ _ c.loop-rest.invariant c.past-end.result c.loop-rest-test.true c.past-end.ensures lower (some-lower _ _ _ lower) c.past-at.result c.past-at.ensures

pub bounds-other-from : goal.bounds-other-from
bounds-other-from c = omega (arith, adds_inside _ _ _ _ _ _ _ _ _ _ _ _ _ _ c.loop-rest.invariant c.past-end.result c.loop-rest-test.true c.past-end.ensures, c.past-end.ensures)

pub raise-requires : goal.raise-requires
raise-requires c =
    let equal = sym c.in-Equal.ensures in
    adds_fits _ _ _ _ _ _ _ _ _ _ _ _ _ _ c.loop-rest.invariant c.past-end.result c.loop-rest-test.true c.past-end.ensures equal (some-equal _ _ _ equal)

pub past-at-requires-in-Equal : goal.past-at-requires-in-Equal
past-at-requires-in-Equal c =
    let some = some-equal _ _ _ (sym c.in-Equal.ensures) in
    let a = adds_raised _ _ _ _ _ _ _ _ _ _ _ _ _ _ c.loop-rest.invariant c.past-end.result c.loop-rest-test.true c.past-end.ensures c.raise.new.part c.raise.ensures some in
    omega (arith, a.0, a.1, adds_first _ _ _ _ _ _ _ _ _ _ _ _ _ _ c.loop-rest.invariant some)

pub overflow_sub-left-in-Equal : goal.overflow_sub-left-in-Equal
overflow_sub-left-in-Equal c = some-equal _ _ _ (sym c.in-Equal.ensures)

pub loop-rest-preserved-in-Equal : goal.loop-rest-preserved-in-Equal
loop-rest-preserved-in-Equal c =
    let equal = sym c.in-Equal.ensures in
    adds_equal _ _ _ _ _ _ _ _ _ _ _ _ _ _ c.loop-rest.invariant c.past-end.result c.loop-rest-test.true c.past-end.ensures c.raise.new.part c.raise.ensures equal (some-equal _ _ _ equal) c.past-at-in-Equal.result c.past-at-in-Equal.ensures

pub slice_bounds-enter_behind-end : goal.slice_bounds-enter_behind-end
slice_bounds-enter_behind-end c = omega (arith, adds_inside _ _ _ _ _ _ _ _ _ _ _ _ _ _ c.loop-rest.invariant c.past-end.result c.loop-rest-test.true c.past-end.ensures)

pub enter_behind-to-requires : goal.enter_behind-to-requires
enter_behind-to-requires c =
    let g = c.loop-rest.invariant.gap in
    let inside = adds_inside _ _ _ _ _ _ _ _ _ _ _ _ _ _ c.loop-rest.invariant c.past-end.result c.loop-rest-test.true c.past-end.ensures in
    let fits = adds_room _ _ _ _ _ _ _ _ _ _ _ _ _ _ c.loop-rest.invariant c.past-end.result c.loop-rest-test.true c.past-end.ensures (sym c.in-Greater.ensures) in
    (simp (length-take, length-drop) (omega arith), g.mid, g.high)

pub overflow_add-count : goal.overflow_add-count
overflow_add-count c = omega (arith, adds_within _ _ _ _ _ _ _ _ _ _ _ _ _ _ c.loop-rest.invariant, c.loop-rest.invariant.gap.long, c.well_formed)

pub loop-rest-preserved : goal.loop-rest-preserved
loop-rest-preserved c =
    adds_higher _ _ _ _ _ _ _ _ _ _ _ _ _ _ c.loop-rest.invariant c.past-end.result c.loop-rest-test.true c.past-end.ensures (sym c.in-Greater.ensures) c.enter_behind-to.new.book c.enter_behind-to.result c.enter_behind-to.ensures.0 c.enter_behind-to.ensures.1 c.enter_behind-to.auto.book

pub returns : goal.returns
returns c = adds_end _ _ _ _ _ _ _ _ _ _ _ _ _ _ c.loop-rest.invariant c.requires.laid.0 c.loop-rest-test.false
