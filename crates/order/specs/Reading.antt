-- Words read as an order (01, "Orders", and "Within an order" under "Order of checks"). Assumes nothing: these are definitions.
use Rattle.std.specs.Prelude.{List, [], ◌∷◌, Bool, true, false, ℕ, zero, suc, ◌+◌, ◌%◌, leb, ltb, eqb, length}
use Rattle.words.specs.Base.{when◌then◌else◌}
use Rattle.figures.specs.Limits.{most_words, greatest_depth}
use Rattle.figures.specs.Nodes.{sound_node}
use Rattle.figures.specs.Numbers.{done, no_order, too_large}
use Rattle.order.specs.Trees.{Tree, node, Forest, bare, cons, depth}

-- What reading words gives: some trees in a row and the words past them, or a fault.
pub data Reading : Type 0 where
  broken : Reading
  read : Forest → List ℕ → Reading

-- The first n trees of a row.
unfoldable pub first_trees : ℕ → Forest → Forest
first_trees zero f = bare
first_trees (suc n) bare = bare
first_trees (suc n) (cons t f) = cons t (first_trees n f)

-- The trees of a row past the first n.
unfoldable pub later_trees : ℕ → Forest → Forest
later_trees zero f = f
later_trees (suc n) bare = bare
later_trees (suc n) (cons t f) = later_trees n f

-- A node that was read, sound or not, put over the first n trees that follow it.
unfoldable pub node_over : Bool → ℕ → ℕ → Reading → Reading
node_over false c n r = broken
node_over true c n broken = broken
node_over true c n (read f ws) = read (cons (node c (first_trees n f)) (later_trees n f)) ws

-- The first m trees that the words spell, and the words past them. A node with n children is read with n trees more, which are then
-- put under it.
unfoldable pub read_trees : List ℕ → ℕ → Reading
read_trees [] zero = read bare []
read_trees [] (suc m) = broken
read_trees (c ∷ []) zero = read bare (c ∷ [])
read_trees (c ∷ []) (suc m) = broken
read_trees (c ∷ n ∷ ws) zero = read bare (c ∷ n ∷ ws)
read_trees (c ∷ n ∷ ws) (suc m) = node_over (sound_node c n) c n (read_trees ws (n + m))

-- A tree that may be missing.
pub data TreeFound : Type 0 where
  missing : TreeFound
  found : Tree → TreeFound

-- What follows a tree that is there, and what stands where there is none.
unfoldable pub by_found : {A : Type 0} → TreeFound → A → (Tree → A) → A
by_found missing a f = a
by_found (found t) a f = f t

-- "holds exactly one tree": a tree was read, and no word is left.
unfoldable pub only : Reading → TreeFound
only broken = missing
only (read bare ws) = missing
only (read (cons t f) []) = found t
only (read (cons t f) (w ∷ ws)) = missing

-- The tree that words are, if they are exactly one.
unfoldable pub tree_of : List ℕ → TreeFound
tree_of ws = only (read_trees ws 1)

-- An order is a tree, or refused by a number.
pub data Order : Type 0 where
  refused : ℕ → Order
  order : Tree → Order

-- What follows a refusal, and what follows a tree.
unfoldable pub by_order {ℓ} : {A : Type ℓ} → Order → (ℕ → A) → (Tree → A) → A
by_order (refused n) f g = f n
by_order (order t) f g = g t

-- "the other causes of 1, depth"
unfoldable pub within_depth : TreeFound → Order
within_depth missing = refused no_order
within_depth (found t) = when leb (depth t) greatest_depth then order t else refused too_large

-- "Within an order: empty or odd length, over 128 words, the other causes of 1, depth."
unfoldable pub order_of : List ℕ → Order
order_of ws =
    when eqb (length ws) 0 then refused no_order else
    when eqb (length ws % 2) 1 then refused no_order else
    when ltb most_words (length ws) then refused too_large else
    within_depth (tree_of ws)

-- The number of an order: 0, or the first cause of 1 or 2.
unfoldable pub cause_of : List ℕ → ℕ
cause_of ws = by_order (order_of ws) (λ n. n) (λ t. done)
