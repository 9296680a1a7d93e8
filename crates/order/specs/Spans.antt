-- Inner: no promise rests on these definitions.
-- Orders gone over from the last node to the first: where the subtree of each line ends and how deep it is, and the row of trees that words
-- spell. Assumes nothing: these are definitions.
use Rattle.std.specs.Prelude.{List, [], ◌∷◌, ◌++◌, Bool, true, false, ◌≡◌, ℕ, zero, suc, ◌+◌, ◌*◌, ◌-◌, ◌/◌, ◌≤◌, ◌<◌, leb, length, take, drop, get_or, set, None, Option, Some}
use Rattle.order.specs.declared.Popped.{Popped}
use Rattle.order.specs.declared.Spanned.{Spanned}
use Rattle.words.specs.Base.{when◌then◌else◌}
use Rattle.figures.specs.Limits.{most_words}
use Rattle.figures.specs.Nodes.{sound_node}
use Rattle.figures.specs.Numbers.{done}
use Rattle.order.specs.Trees.{Tree, node, Forest, bare, cons, count, depth, depth_f, subtrees, subtrees_f}
use Rattle.order.specs.Reading.{first_trees, later_trees, TreeFound, missing, found, by_order, order_of, cause_of}

-- ---- what the scratch says of an order's lines

-- How many lines a tree has, and a row of trees.
unfoldable mutual
  pub lines : Tree → ℕ
  lines (node c f) = suc (lines_f f)

  pub lines_f : Forest → ℕ
  lines_f bare = 0
  lines_f (cons t f) = lines t + lines_f f

-- What the scratch says of subtrees on lines from i on, counted from 0: of each, the line past it, and how deep it is.
unfoldable pub spans_from : ℕ → List Tree → List ℕ
spans_from i [] = []
spans_from i (s ∷ ss) = (i + lines s) ∷ depth s ∷ spans_from (suc i) ss

-- The spans of an order's lines; none of what is no order.
unfoldable pub spans_in : List ℕ → List ℕ
spans_in os = by_order (order_of os) (λ n. []) (λ t. spans_from 0 (subtrees t))

-- What callers know of an order that was gone over: it is one, and the spans of its lines stand at the front of the scratch.
pub record GoneOver (os ss : List ℕ) : Type 0 where
  pub sound : cause_of os ≡ done
  pub spans : take (length os) ss ≡ spans_in os

-- ---- the row of trees that words spell

-- A row of trees, or a fault.
pub data Rowed : Type 0 where
  faulty : Rowed
  rowed : Forest → Rowed

-- A node before a row takes as many of its trees as it has children.
unfoldable pub node_before : Bool → ℕ → ℕ → Rowed → Rowed
node_before false c n r = faulty
node_before true c n faulty = faulty
node_before true c n (rowed f) = when leb n (count f) then rowed (cons (node c (first_trees n f)) (later_trees n f)) else faulty

-- The row of trees that words spell, from their last node on.
unfoldable pub row_of : List ℕ → Rowed
row_of [] = rowed bare
row_of (c ∷ []) = faulty
row_of (c ∷ n ∷ ws) = node_before (sound_node c n) c n (row_of ws)

-- How many of a row's first trees are leaves.
unfoldable pub leaves_f : Forest → ℕ
leaves_f bare = 0
leaves_f (cons (node c bare) f) = suc (leaves_f f)
leaves_f (cons (node c (cons t g)) f) = 0

-- So many of the first trees of a row are leaves.
abbrev pub LeavesAre : ℕ → Rowed → Type 0
LeavesAre n faulty = ⊥
LeavesAre n (rowed f) = n ≡ leaves_f f

-- What words come to that are a tree or not: its depth, or none.
unfoldable pub measured_of : TreeFound → Option ℕ
measured_of missing = None
measured_of (found t) = Some (depth t)

-- ---- by spans

-- Words that can be gone over in a scratch: no more than an order may have, two a line, and no more than the scratch has.
abbrev pub Measurable : List ℕ → List ℕ → Type 0
Measurable os ss = (length os ≤ most_words) × (2 * (length os / 2) ≡ length os) × (length os ≤ length ss)

-- The words are the spans of a row's subtrees, which stand on lines from i on.
abbrev pub SpansAre : ℕ → List ℕ → Rowed → Type 0
SpansAre i ss faulty = ⊥
SpansAre i ss (rowed f) = ss ≡ spans_from i (subtrees_f f)

-- What is known of the first of the lines from i on that were gone over: its span, where there is such a line, and how many leaves begin there.
pub record FirstSpan (os ss : List ℕ) (i first top run : ℕ) : Type 0 where
  pub ends : i < length os / 2 → first ≡ get_or ss (2 * i) 0
  pub deep : i < length os / 2 → top ≡ get_or ss (2 * i + 1) 0
  pub leaves : LeavesAre run (row_of (drop (2 * i) os))

-- What a node comes to whose children are the first n trees of a row, which stands on lines from i on.
unfoldable pub spanned_by : ℕ → ℕ → Rowed → Option Spanned
spanned_by i n faulty = None
spanned_by i n (rowed f) = when leb n (count f) then Some (record { end = i + lines_f (first_trees n f); depth = depth_f (first_trees n f) }) else None

-- ---- by a stack of depths

-- The depths of a row's trees as a stack: that of the first tree is the last word.
unfoldable pub stack_of : Forest → List ℕ
stack_of bare = []
stack_of (cons t f) = stack_of f ++ (depth t ∷ [])

-- What is known of a row of trees: how many they are, how deep each is, and how many of the first are leaves. The first is `top` deep: with
-- that put behind the first `many` words of the stack, the words from word 1 on are the depths of all.
pub record StackIs (many top run : ℕ) (ss : List ℕ) (f : Forest) : Type 0 where
  pub counted : many ≡ count f
  pub depths : drop 1 (take many ss ++ (top ∷ [])) ≡ stack_of f
  pub leaves : run ≡ leaves_f f

-- What a node comes to that takes the first n trees of a row as its children: it lacks one; or there are so many trees then, itself the
-- first, and it is so deep.
unfoldable pub popped_by : ℕ → Forest → Option Popped
popped_by n f = when leb n (count f) then Some (record { many = count f + 1 - n; depth = depth_f (first_trees n f) }) else None

-- ---- the levels of lines by their spans

-- A row of n trees begins on line i of those that the scratch tells of, and ends within `many` lines.
pub record RowAt (ss : List ℕ) (i n many : ℕ) : Type 0 where
  pub row : Forest
  pub after : List ℕ
  pub trees : count row ≡ n
  pub here : drop (2 * i) ss ≡ spans_from i (subtrees_f row) ++ after
  pub ends : i + lines_f row ≤ many

-- The levels once the first lines of n trees have level l, the first of which begins on line i and each other one where the one before it ends.
unfoldable pub hopped : ℕ → ℕ → ℕ → List ℕ → List ℕ → List ℕ
hopped zero i l ss ls = ls
hopped (suc n) i l ss ls = hopped n (get_or ss (2 * i) 0) l ss (set ls i l)
