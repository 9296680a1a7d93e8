-- `section_change::lower_all` meets its contract: what the pass has come to, with the entries left lowered by the other's left, is what all come to.
-- Assumes nothing.
use Rattle.std.specs.declared.cmp.Ordering.TheVariants.{Less, Equal}
use Rattle.std.proofs.Common.{rules, ◌≡◌, ℕ, ◌+◌, ◌*◌, ◌<◌, ◌≤◌, List, length, get_or, drop, refl, sym, arith}
use Rattle.words.proofs.Tests.{never}
use Rattle.section.specs.Entries.{entries, span}
use Rattle.section.proofs.Words.{span-at}
use Rattle.section_change.specs.Editing.{first_against}
use Rattle.section_change.proofs.Adding.{against_some}
use Rattle.section_change.proofs.Lowering.{lessened-most}
use Rattle.section_change.proofs.Turns.{lowers_start, lowers_end, lowers_within, lowers_first, lowers_lower, lowers_equal, lowers_higher}
use Rattle.section_change.proofs.lower_all.Goals as goal

-- The other's first entry of those left lies within it.
room : (other : List ℕ) (from rest end : ℕ) → from + span rest (drop from other) ≤ length other → 0 < rest → end ≡ from + 2 + 2 * get_or other from 0 → end ≤ length other
room other from rest end fits some ends = omega (arith, span-at other from rest end some ends)

-- One is left where the first is lower,
some-lower : (key ws : List ℕ) (left : ℕ) → first_against key (entries left ws) ≡ Less → 0 < left
some-lower key ws left e = against_some _ _ _ Less e (λ h. never cc)

-- or equal.
some-equal : (key ws : List ℕ) (left : ℕ) → first_against key (entries left ws) ≡ Equal → 0 < left
some-equal key ws left e = against_some _ _ _ Equal e (λ h. never cc)

pub loop-rest-init : goal.loop-rest-init
loop-rest-init c = lowers_start _ _ _ _ _ c.requires.laid.0 c.requires.laid.1 c.requires.other_in_bounds.0 c.requires.other_in_bounds.1

pub past-end-requires : goal.past-end-requires
past-end-requires c = room c.args.other.now c.loop-rest.from _ _ c.loop-rest.invariant.turn.inside c.loop-rest-test.true refl

pub slice_bounds-first_against-end : goal.slice_bounds-first_against-end
slice_bounds-first_against-end c = room c.args.other.now c.loop-rest.from _ _ c.loop-rest.invariant.turn.inside c.loop-rest-test.true c.past-end.ensures

pub first_against-requires : goal.first_against-requires
first_against-requires c = omega (arith, lowers_within _ _ _ _ _ _ _ _ _ _ _ _ _ c.loop-rest.invariant)

pub past-at-requires : goal.past-at-requires
past-at-requires c =
    omega (arith, lowers_within _ _ _ _ _ _ _ _ _ _ _ _ _ c.loop-rest.invariant, lowers_first _ _ _ _ _ _ _ _ _ _ _ _ _ c.loop-rest.invariant (some-lower _ _ _ (sym c.in-Less.ensures)))

pub overflow_sub-left : goal.overflow_sub-left
overflow_sub-left c = some-lower _ _ _ (sym c.in-Less.ensures)

pub loop-rest-smaller-in-Less : goal.loop-rest-smaller-in-Less
loop-rest-smaller-in-Less c = omega (arith, some-lower _ _ _ (sym c.in-Less.ensures))

pub loop-rest-preserved-in-Less : goal.loop-rest-preserved-in-Less
loop-rest-preserved-in-Less c =
    let lower = sym c.in-Less.ensures in
    lowers_lower _ _ _ _ _ _ _ _ _ _ _ _ _ c.loop-rest.invariant c.past-end.result c.loop-rest-test.true c.past-end.ensures lower (some-lower _ _ _ lower) c.past-at.result c.past-at.ensures

pub lessen-less-requires : goal.lessen-less-requires
lessen-less-requires c =
    let g = c.loop-rest.invariant.gap in
    let first = lowers_first _ _ _ _ _ _ _ _ _ _ _ _ _ c.loop-rest.invariant (some-equal _ _ _ (sym c.in-Equal.ensures)) in
    (g.low, g.mid, omega (arith, lowers_within _ _ _ _ _ _ _ _ _ _ _ _ _ c.loop-rest.invariant))

pub overflow_sub-count : goal.overflow_sub-count
overflow_sub-count c =
    omega (arith, lessened-most _ _ _ _ c.lessen-less.result c.lessen-less.ensures.1, lowers_first _ _ _ _ _ _ _ _ _ _ _ _ _ c.loop-rest.invariant (some-equal _ _ _ (sym c.in-Equal.ensures)))

pub overflow_sub-left-in-Equal : goal.overflow_sub-left-in-Equal
overflow_sub-left-in-Equal c = some-equal _ _ _ (sym c.in-Equal.ensures)

pub loop-rest-preserved-in-Equal : goal.loop-rest-preserved-in-Equal
loop-rest-preserved-in-Equal c =
    let equal = sym c.in-Equal.ensures in
    lowers_equal _ _ _ _ _ _ _ _ _ _ _ _ _ c.loop-rest.invariant c.past-end.result c.loop-rest-test.true c.past-end.ensures equal (some-equal _ _ _ equal) c.lessen-less.new.book c.lessen-less.result c.lessen-less.ensures.0 c.lessen-less.ensures.1 c.lessen-less.auto.book

pub loop-rest-preserved : goal.loop-rest-preserved
loop-rest-preserved c = lowers_higher _ _ _ _ _ _ _ _ _ _ _ _ _ c.loop-rest.invariant c.past-end.result c.loop-rest-test.true c.past-end.ensures (sym c.in-Greater.ensures)

pub returns : goal.returns
returns c =
    lowers_end _ _ _ _ _ _ _ _ _ _ _ _ _ c.loop-rest.invariant c.requires.laid.0 c.loop-rest-test.false c.close_gap.new.part c.close_gap.ensures (search rules)
