-- One list of words is at most one tree (01, "Orders": an order is its words), so that trees are told apart by their words. Assumes
-- nothing.
use Prim.Native.Nat.{ℕ}
use mathlib.Core.Path.{◌≡◌, refl, ap, ap₂}
use mathlib.Core.Bool.{true}
use mathlib.Core.List.{List, [], ◌++◌, append_assoc}
use native.Mathlib.Omega.{arith}
use Rattle.words.proofs.Tests.{same-words, words_same}
use Rattle.order.specs.Trees.{Tree, Forest, node, bare, cons, count, words, words_f}
use Rattle.order.specs.Parts.{same_tree}

-- No tree's words begin another's, whatever follows them; of rows with equally many trees the same holds.
mutual
  unfolding words count

  words-prefix : (t u : Tree) (r s : List ℕ) → words t ++ r ≡ words u ++ s → (t ≡ u) × (r ≡ s)
  words-prefix (node c f) (node d g) r s e =
      let top : c ≡ d = cc in
      let h = rows_prefix f g r s (cc) (cc) in
      (ap₂ node top h.0, h.1)

  rows_prefix : (f g : Forest) (r s : List ℕ) → count f ≡ count g → words_f f ++ r ≡ words_f g ++ s → (f ≡ g) × (r ≡ s)
  rows_prefix bare bare r s n e = (refl, e)
  rows_prefix bare (cons u g) r s n e = absurd (omega arith)
  rows_prefix (cons t f) bare r s n e = absurd (omega arith)
  rows_prefix (cons t f) (cons u g) r s n e =
      let h = words-prefix t u (words_f f ++ r) (words_f g ++ s) (simp append_assoc at e) in
      let k = rows_prefix f g r s (omega arith) h.1 in
      (ap₂ cons h.0 k.0, k.1)

-- Trees with the same words are one.
pub words-unique : (t u : Tree) → words t ≡ words u → t ≡ u
words-unique t u e = (words-prefix t u [] [] (ap (λ (l : List ℕ). l ++ []) e)).0

-- The test passes for a tree and itself.
pub same-tree : (t : Tree) → same_tree t t ≡ true
unfolding same_tree
same-tree t = same-words (words t)

-- It passes only for the same tree.
pub tree-same : (t u : Tree) → same_tree t u ≡ true → t ≡ u
unfolding same_tree
tree-same t u e = words-unique t u (words_same (words t) (words u) e)
