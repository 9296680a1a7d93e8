-- The leaves at the front of a row of trees: what a node comes to whose children are all among them, and how many there are once a node is put before the row.
-- Assumes nothing.
use Prim.Native.Nat.{ℕ, zero, suc, ◌≤◌, ◌<◌}
use mathlib.Core.Path.{◌≡◌, refl}
use native.Mathlib.Omega.{arith}
use Rattle.order.specs.Trees.{node, Forest, bare, cons, count, depth, depth_f}
use Rattle.order.specs.Reading.{first_trees, later_trees}
use Rattle.order.specs.Spans.{lines, lines_f, leaves_f}

-- There are no more leaves than trees.
pub leaves-few : (f : Forest) → leaves_f f ≤ count f
unfolding leaves_f count
leaves-few bare = omega arith
leaves-few (cons (node c bare) f) = omega (arith, leaves-few f)
leaves-few (cons (node c (cons t g)) f) = omega arith

-- There are no more leaves than lines.
pub leaves-short : (f : Forest) → leaves_f f ≤ lines_f f
unfolding leaves_f lines_f lines
leaves-short bare = omega arith
leaves-short (cons (node c bare) f) = omega (arith, leaves-short f)
leaves-short (cons (node c (cons t g)) f) = omega arith

-- Trees that are all leaves have a line each.
pub leaves_lines : (n : ℕ) (f : Forest) → n ≤ leaves_f f → lines_f (first_trees n f) ≡ n
unfolding leaves_f first_trees lines_f lines
leaves_lines zero f h = refl
leaves_lines (suc n) bare h = absurd (omega arith)
leaves_lines (suc n) (cons (node c bare) f) h = omega (arith, leaves_lines n f (omega arith))
leaves_lines (suc n) (cons (node c (cons t g)) f) h = absurd (omega arith)

-- A node over leaves alone is one deep.
pub leaves-deep : (n : ℕ) (f : Forest) → n ≤ leaves_f f → 0 < n → depth_f (first_trees n f) ≡ 1
unfolding leaves_f first_trees depth_f depth
leaves-deep zero f h more = absurd (omega arith)
leaves-deep (suc n) bare h more = absurd (omega arith)
leaves-deep (suc zero) (cons (node c bare) f) h more = omega arith
leaves-deep (suc (suc n)) (cons (node c bare) f) h more = omega (arith, leaves-deep (suc n) f (omega arith) (omega arith))
leaves-deep (suc n) (cons (node c (cons t g)) f) h more = absurd (omega arith)

-- A leaf before a row is one more.
pub leaf_more : (c : ℕ) (f : Forest) → leaves_f (cons (node c (first_trees 0 f)) (later_trees 0 f)) ≡ suc (leaves_f f)
unfolding leaves_f first_trees later_trees
leaf_more c f = refl

-- A node with children before a row is none.
pub leaf_none : (c n : ℕ) (f : Forest) → 0 < n → n ≤ count f → leaves_f (cons (node c (first_trees n f)) (later_trees n f)) ≡ 0
unfolding leaves_f first_trees count
leaf_none c zero f more h = absurd (omega arith)
leaf_none c (suc n) bare more h = absurd (omega arith)
leaf_none c (suc n) (cons t f) more h = refl
