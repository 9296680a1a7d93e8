-- Inner: no promise rests on these definitions.
-- The levels of an order's lines, which its text has and by which its cuts are written. Assumes nothing: these are definitions.
use Rattle.std.specs.Prelude.{List, [], ◌∷◌, ◌++◌, ◌≡◌, ℕ, suc, ◌/◌, length, take}
use Rattle.order.specs.Trees.{Tree, node, Forest, bare, cons}
use Rattle.order.specs.Reading.{by_order, order_of}

-- The levels of a tree's lines in preorder, where its own line has level l: "The depth of a node is its distance from the top".
unfoldable mutual
  pub tree_levels : Tree → ℕ → List ℕ
  tree_levels (node c f) l = l ∷ row_levels f (suc l)

  pub row_levels : Forest → ℕ → List ℕ
  row_levels bare l = []
  row_levels (cons t f) l = tree_levels t l ++ row_levels f l

-- The levels of an order's lines; none of what is no order.
unfoldable pub levels_in : List ℕ → List ℕ
levels_in os = by_order (order_of os) (λ n. []) (λ t. tree_levels t 0)

-- The levels of an order's lines stand at the front of a scratch.
abbrev pub LinesLevelled : List ℕ → List ℕ → Type 0
LinesLevelled os ls = take (length os / 2) ls ≡ levels_in os
