-- Document 000 in its own words: a tree as a mapping from a tree domain (section II), and r, l and p (section III). The parts of 01 are
-- shown to be these in proofs/Paper.antt. Document 001 counts k from one lower: its 0-root is the r of index 1 here, and 001's counting is
-- used nowhere. Assumes nothing: these are definitions.
use Rattle.std.specs.Prelude.{ℕ, zero, suc, ◌-◌, ◌≤◌, ◌<◌, ◌≡◌, List, [], ◌∷◌, length, Option, None, Some}
use Rattle.order.specs.Trees.{Tree, node, Forest, bare, cons, depth}
use Rattle.order.specs.Reading.{by_found, TreeFound, missing, found}

-- A position, x ∈ ℕ*: the numbers of the children on the way down, counted from 1; the empty list is the top, λ.
abbrev pub Position : Type 0
Position = List ℕ

-- The i-th tree of a row, counted from 1.
unfoldable pub child_of : ℕ → Forest → TreeFound
child_of i bare = missing
child_of zero (cons t f) = missing
child_of (suc zero) (cons t f) = found t
child_of (suc (suc i)) (cons t f) = child_of (suc i) f

-- The children of the top.
abbrev pub children_of_top : Tree → Forest
children_of_top (node c f) = f

-- The label of the top.
abbrev pub code : Tree → ℕ
code (node c f) = c

-- t/x, "the subtree of t rooted at x": missing where x is not in dom(t).
unfoldable pub rooted_at : Position → Tree → TreeFound
rooted_at [] t = found t
rooted_at (i ∷ x) t = by_found (child_of i (children_of_top t)) missing (rooted_at x)

-- t(x): none where x is not in dom(t).
unfoldable pub label_at : Position → Tree → Option ℕ
label_at x t = by_found (rooted_at x t) None (λ s. Some (code s))

-- s ∈ ST(t): "the set of subtrees of t, {t/x | x ∈ dom(t)}".
pub record Subtree (t s : Tree) : Type 0 where
  pub position : Position
  pub is : rooted_at position t ≡ found s

-- A subtree that stands strictly below the top: t/x for a position x other than λ.
pub record StrictlyBelow (t s : Tree) : Type 0 where
  pub position : Position
  pub not_top : position ≡ [] → ⊥
  pub is : rooted_at position t ≡ found s

-- x ∈ dom(t).
pub record InDomain (t : Tree) (x : Position) : Type 0 where
  pub subtree : Tree
  pub is : rooted_at x t ≡ found subtree

-- "the depth of t as max{depth(x) | x ∈ dom(t)}", where "depth(x) = |x|".
pub record IsDepth (t : Tree) (d : ℕ) : Type 0 where
  pub position : Position
  pub there : InDomain t position
  pub reached : length position ≡ d
  pub most : (x : Position) → InDomain t x → length x ≤ d

-- u is r of index n of t: "t if depth(t) ≤ n-1", and otherwise the tree of depth n-1 whose domain is the positions of dom(t) of length
-- at most n-1, and whose labels are those of t. (The document writes it for n = k-1, and uses it for n = k in p.)
pub record IsR (n : ℕ) (t u : Tree) : Type 0 where
  pub shallow : depth t ≤ n - 1 → u ≡ t
  pub deep : n - 1 < depth t → depth u ≡ n - 1
  pub domain : n - 1 < depth t → (x : Position) → InDomain u x → InDomain t x × (length x ≤ n - 1)
  pub whole : n - 1 < depth t → (x : Position) → InDomain t x → length x ≤ n - 1 → InDomain u x
  pub labels : n - 1 < depth t → (x : Position) → InDomain u x → label_at x u ≡ label_at x t

-- s is in l of index n of t: "{t' ∈ ST(t) | depth(t') ≤ n-1}". (The document writes it for n = k-1.)
pub record IsL (n : ℕ) (t s : Tree) : Type 0 where
  pub subtree : Subtree t s
  pub shallow : depth s ≤ n - 1

-- u is in p of index k of t: none "if depth(t) < k-1", and otherwise "{r_k(t') | t' ∈ ST(t); depth(t') ≥ k-1}".
pub record IsP (k : ℕ) (t u : Tree) : Type 0 where
  pub some_middle : k - 1 ≤ depth t
  pub uncut : Tree
  pub subtree : Subtree t uncut
  pub deep : k - 1 ≤ depth uncut
  pub is : IsR k uncut u
