-- How many nodes the cuts of an order's subtrees have together: at depth d a node stands in the cut of its own line and in those of at most d
-- lines above it. Assumes nothing.
use Prim.Native.Nat.{ℕ, zero, suc, ◌+◌, ◌*◌, ◌≤◌}
use mathlib.Core.Path.{◌≡◌, refl}
use mathlib.Core.List.{List, [], ◌∷◌, ◌++◌}
use native.Mathlib.Omega.{arith}
use native.Mathlib.Nat.{suc-mul}
use lib.ListN.{length, length-append}
use Rattle.order.specs.Trees.{Tree, Forest, node, bare, cons, cut, cut_f, subtrees, subtrees_f}

-- The nodes of the cuts at d of some trees, all together.
unfoldable pub cut_nodes : ℕ → List Tree → ℕ
cut_nodes d [] = 0
cut_nodes d (s ∷ ss) = length (subtrees (cut s d)) + cut_nodes d ss

-- Those of two lists of trees add up.
cut-nodes_append : (d : ℕ) (xs ys : List Tree) → cut_nodes d (xs ++ ys) ≡ cut_nodes d xs + cut_nodes d ys
unfolding cut_nodes
cut-nodes_append d [] ys = omega arith
cut-nodes_append d (x ∷ xs) ys = omega (arith, cut-nodes_append d xs ys)

-- One level deeper, the cuts of all subtrees have a node more for each node that is not among the first d levels.
mutual
  unfolding cut subtrees cut_nodes

  deeper : (t : Tree) (d : ℕ) → cut_nodes (suc d) (subtrees t) + length (subtrees (cut t d)) ≤ length (subtrees t) + cut_nodes d (subtrees t)
  deeper (node c f) d = omega (arith, deeper_f f d)

  deeper_f : (f : Forest) (d : ℕ) → cut_nodes (suc d) (subtrees_f f) + length (subtrees_f (cut_f f d)) ≤ length (subtrees_f f) + cut_nodes d (subtrees_f f)
  deeper_f bare d = omega arith
  deeper_f (cons t f) d =
      omega (
        arith,
        deeper t d,
        deeper_f f d,
        length-append (subtrees t) (subtrees_f f),
        length-append (subtrees (cut t d)) (subtrees_f (cut_f f d)),
        cut-nodes_append (suc d) (subtrees t) (subtrees_f f),
        cut-nodes_append d (subtrees t) (subtrees_f f),
      )

-- A cut at 0 is one node.
one_each : (ss : List Tree) → cut_nodes 0 ss ≡ length ss
unfolding cut_nodes
one_each [] = refl
one_each (s ∷ ss) = omega (arith, one-node s, one_each ss)
  where
    one-node : (s : Tree) → length (subtrees (cut s 0)) ≡ 1
    one-node (node c f) = unfold cut subtrees in refl

-- The cuts at d of all subtrees have at most d + 1 times as many nodes as the tree.
shares : (t : Tree) (d : ℕ) → cut_nodes d (subtrees t) ≤ suc d * length (subtrees t)
shares t zero = omega (arith, one_each (subtrees t))
shares t (suc d) = omega (arith, deeper t d, shares t d, suc-mul (suc d) (length (subtrees t)))

-- The cuts one level deeper have at most d + 2 times as many, together with the tree cut at d.
pub top-shares : (t : Tree) (d : ℕ) → cut_nodes (suc d) (subtrees t) + length (subtrees (cut t d)) ≤ suc (suc d) * length (subtrees t)
top-shares t d = omega (arith, deeper t d, shares t d, suc-mul (suc d) (length (subtrees t)))
