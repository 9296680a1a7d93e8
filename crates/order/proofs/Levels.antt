-- The levels of an order's lines: how many they are, and how great. Assumes nothing.
use mathlib.Core.Path.{◌≡◌, refl, ap}
use mathlib.Core.List.{List, [], ◌∷◌, ◌++◌}
use Prim.Native.Nat.{ℕ, zero, suc, ◌+◌, ◌≤◌, ◌<◌, max}
use native.Mathlib.Omega.{arith}
use lib.ListN.{length, get_or, length-append}
use Rattle.order.specs.Trees.{Tree, node, Forest, bare, cons, depth, depth_f, subtrees, subtrees_f}
use Rattle.order.specs.Reading.{order, by_order, order_of}
use Rattle.order.specs.Levels.{tree_levels, row_levels, levels_in}

-- A tree has a level for each of its lines.
mutual
  unfolding tree_levels subtrees

  pub levels_count : (t : Tree) (l : ℕ) → length (tree_levels t l) ≡ length (subtrees t)
  levels_count (node c f) l = ap suc (row-levels_count f (suc l))

  row-levels_count : (f : Forest) (l : ℕ) → length (row_levels f l) ≡ length (subtrees_f f)
  row-levels_count bare l = refl
  row-levels_count (cons t f) l =
      omega (arith, levels_count t l, row-levels_count f l, length-append (tree_levels t l) (row_levels f l), length-append (subtrees t) (subtrees_f f))

-- The greatest of some levels.
unfoldable greatest : List ℕ → ℕ
greatest [] = 0
greatest (x ∷ xs) = max x (greatest xs)

-- The greatest of two lists is the greater of theirs.
greatest-append : (xs ys : List ℕ) → greatest (xs ++ ys) ≡ max (greatest xs) (greatest ys)
unfolding greatest
greatest-append [] ys = omega arith
greatest-append (x ∷ xs) ys = omega (arith, greatest-append xs ys)

-- None is greater.
none-greater : (ls : List ℕ) (i : ℕ) → i < length ls → get_or ls i 0 ≤ greatest ls
unfolding greatest
none-greater [] i h = absurd (omega arith)
none-greater (l ∷ ls) zero h = omega arith
none-greater (l ∷ ls) (suc i) h = omega (arith, none-greater ls i (omega arith))

-- The greatest level of a tree's lines is that of its own line, and its depth more.
mutual
  unfolding greatest tree_levels depth

  greatest-tree : (t : Tree) (l : ℕ) → greatest (tree_levels t l) ≡ l + depth t
  greatest-tree (node c f) l = greatest-row f l

  greatest-row : (f : Forest) (l : ℕ) → max l (greatest (row_levels f (suc l))) ≡ l + depth_f f
  greatest-row bare l = omega arith
  greatest-row (cons t f) l = omega (arith, greatest-append (tree_levels t (suc l)) (row_levels f (suc l)), greatest-tree t (suc l), greatest-row f l)

-- No line of a tree lies deeper than the tree is deep.
pub level-within : (t : Tree) (i : ℕ) → i < length (subtrees t) → get_or (tree_levels t 0) i 0 ≤ depth t
level-within t i h = omega (arith, none-greater (tree_levels t 0) i (omega (arith, levels_count t 0)), greatest-tree t 0)

-- The levels of an order's lines are those of its tree.
pub levels_of_lem : (s : List ℕ) (t : Tree) → order_of s ≡ order t → levels_in s ≡ tree_levels t 0
unfolding levels_in by_order
levels_of_lem s t e = rw e
