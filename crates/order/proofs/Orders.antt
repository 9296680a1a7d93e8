-- Words and trees: reading and writing undo each other, the causes of 1 and 2 follow each other in their order, and a good tree within
-- the limits is an order. Assumes nothing.
use mathlib.Core.Path.{◌≡◌, refl, ap, sym, subst, ◌∙◌}
use mathlib.Core.List.{List, [], ◌∷◌, ◌++◌, append-nil}
use Prim.Native.Nat.{ℕ, ◌*◌, ◌%◌, ◌≤◌, ◌<◌}
use native.Mathlib.Omega.{arith}
use borrow.Author.Tests.{ne_eqb, eq-eqb, le-ltb, lt-ltb, le-leb, lt-leb}
use lib.ListN.{length, length-append}
use Rattle.words.specs.Base.{when◌then◌else◌}
use Rattle.figures.specs.Limits.{least_code, greatest_code, most_nodes, most_words, greatest_depth}
use Rattle.figures.specs.Numbers.{done, no_order, too_large}
use Rattle.order.specs.Trees.{Tree, node, Forest, bare, cons, count, words, words_f, depth, Good, GoodF, subtrees, subtrees_f}
use Rattle.order.specs.Reading.{Reading, broken, read, read_trees, TreeFound, missing, found, only, tree_of, order, by_order, within_depth, order_of, cause_of}
use Rattle.order.proofs.Reading.{Sound, sound, complete, reads_none}

-- ---- words and trees

-- What words are read as, if anything, is a good tree whose words they are.
abbrev pub IsTree : List ℕ → TreeFound → Type 0
IsTree s missing = Unit {0}
IsTree s (found t) = (s ≡ words t) × Good t

-- `IsTree` holds of what was read, by cases.
is-tree_of : (s : List ℕ) (p : Reading) → Sound 1 s p → IsTree s (only p)
unfolding only count words_f GoodF
is-tree_of s broken g = tt
is-tree_of s (read bare r) g = tt
is-tree_of s (read (cons t bare) []) g = (g.0 ∙ append-nil (words t ++ []) ∙ append-nil (words t), g.2.0)
is-tree_of s (read (cons t bare) (x ∷ r)) g = tt
is-tree_of s (read (cons t (cons u f)) []) g = absurd (omega (arith, g.1))
is-tree_of s (read (cons t (cons u f)) (x ∷ r)) g = absurd (omega (arith, g.1))

-- `IsTree` holds of any words.
is-tree : (s : List ℕ) → IsTree s (tree_of s)
unfolding tree_of
is-tree s = is-tree_of s (read_trees s 1) (sound s 1)

-- Reading the words of a good tree gives the tree.
pub words-read : (t : Tree) → Good t → tree_of (words t) ≡ found t
unfolding tree_of only
words-read t g = rw (sym (append-nil (words t))) (rw (complete t g 0 [], reads_none []) refl)

-- And back: words that are read as a tree are its words, and the tree is good.
pub read-words : (s : List ℕ) (t : Tree) → tree_of s ≡ found t → (s ≡ words t) × Good t
read-words s t e = subst (IsTree s) e (is-tree s)

-- A tree has two words for each line.
mutual
  unfolding words subtrees

  pub size : (t : Tree) → length (words t) ≡ length (subtrees t) * 2
  size (node c f) = omega (arith, size_f f)

  size_f : (f : Forest) → length (words_f f) ≡ length (subtrees_f f) * 2
  size_f bare = refl
  size_f (cons t f) = omega (arith, size t, size_f f, length-append (words t) (words_f f), length-append (subtrees t) (subtrees_f f))

-- ---- the causes, in their order

-- The length is no cause: some words, an even number of them, and no more than an order has.
pub record Sized (s : List ℕ) : Type 0 where
  pub some : length s ≡ 0 → ⊥
  pub even : length s % 2 ≡ 1 → ⊥
  pub short : length s ≤ most_words

module _ (s : List ℕ) where
  -- No words: 1.
  pub cause_empty : length s ≡ 0 → cause_of s ≡ no_order
  unfolding cause_of by_order order_of when◌then◌else◌
  cause_empty e = rw (eq-eqb _ _ e)

  -- An odd number of words: 1.
  pub cause_odd : (length s ≡ 0 → ⊥) → length s % 2 ≡ 1 → cause_of s ≡ no_order
  unfolding cause_of by_order order_of when◌then◌else◌
  cause_odd a e = rw (ne_eqb _ _ a, eq-eqb _ _ e)

  -- More words than an order has: 2, whatever they are.
  pub cause_long : (length s ≡ 0 → ⊥) → (length s % 2 ≡ 1 → ⊥) → most_words < length s → cause_of s ≡ too_large
  unfolding cause_of by_order order_of when◌then◌else◌
  cause_long a b l = rw (ne_eqb _ _ a, ne_eqb _ _ b, lt-ltb _ _ l)

  -- Past the length the tree decides.
  sized-order : Sized s → order_of s ≡ within_depth (tree_of s)
  unfolding order_of when◌then◌else◌
  sized-order z = rw (ne_eqb _ _ z.some, ne_eqb _ _ z.even, le-ltb _ _ z.short)

-- A tree that is found, and how deep it is.
pub record FoundDeep (x : TreeFound) (h : ℕ) : Type 0 where
  pub tree : Tree
  pub is : x ≡ found tree
  pub deep : depth tree ≡ h

module _ (s : List ℕ) (z : Sized s) where
  -- Words that are not exactly one good tree: 1.
  pub cause_missing : tree_of s ≡ missing → cause_of s ≡ no_order
  unfolding cause_of by_order within_depth
  cause_missing e = rw (sized-order s z, e)

  -- A tree that is too deep: 2.
  pub cause_deep : (h : ℕ) → FoundDeep (tree_of s) h → greatest_depth < h → cause_of s ≡ too_large
  unfolding cause_of by_order within_depth when◌then◌else◌
  cause_deep h f l = rw (sized-order s z, f.is, f.deep, lt-leb _ _ l)

  -- No cause is left.
  pub cause_none : (h : ℕ) → FoundDeep (tree_of s) h → h ≤ greatest_depth → cause_of s ≡ done
  unfolding cause_of by_order within_depth when◌then◌else◌
  cause_none h f l = rw (sized-order s z, f.is, f.deep, le-leb _ _ l)

-- ---- the words of a tree

-- A tree has a first line.
pub some-lines : (t : Tree) → 1 ≤ length (subtrees t)
unfolding subtrees
some-lines (node c f) = omega arith

-- It has the two words of its node.
pub two_words : (t : Tree) → 2 ≤ length (words t)
unfolding words
two_words (node c f) = omega arith

-- The length of a tree's words is a cause only if they are too many.
pub tree-sized : (s : List ℕ) (t : Tree) → s ≡ words t → length s ≤ most_words → Sized s
tree-sized s t e l =
    let n : length s ≡ length (subtrees t) * 2 = ap length e ∙ size t in
    let m : 1 ≤ length (subtrees t) = some-lines t in
    record { some = λ h. omega arith; even = λ h. omega arith; short = l }

-- A good tree of at most 64 nodes and a depth of at most 12 is an order.
pub tree-passes : (t : Tree) → Good t → length (subtrees t) ≤ most_nodes → depth t ≤ greatest_depth → order_of (words t) ≡ order t
unfolding within_depth when◌then◌else◌
tree-passes t g n d =
    sized-order (words t) (tree-sized (words t) t refl (omega (arith, size t)))
    ∙ rw (words-read t g, le-leb _ _ d)

-- A single node is an order: document 000 decides, and not the automata of 001, which accept no tree of one node.
pub single-node : (c : ℕ) → least_code ≤ c → c ≤ greatest_code → order_of (c ∷ 0 ∷ []) ≡ order (node c bare)
unfolding words count subtrees depth Good
single-node c l g = tree-passes (node c bare) ((l, g, omega arith), tt) (omega arith) (omega arith)
