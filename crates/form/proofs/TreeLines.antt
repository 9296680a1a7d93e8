-- The lines of a tree: they have the tree's words, there is one for each node, and each has its node's code. Assumes nothing.
use mathlib.Core.Path.{◌≡◌, refl, ap, sym, ◌∙◌}
use mathlib.Core.List.{List, [], ◌∷◌, ◌++◌, append_assoc, append-nil, map, map-append}
use Prim.Native.Nat.{ℕ, suc, ◌≤◌, ◌<◌}
use native.Mathlib.Omega.{arith}
use lib.ListN.{length, length-append}
use borrow.Author.Tests.{lt-leb, le-leb, eq-eqb, ne_eqb}
use Rattle.words.specs.Base.{when◌then◌else◌}
use Rattle.order.specs.Trees.{Tree, Forest, node, bare, cons, count, words, words_f, subtrees, subtrees_f}
use Rattle.form.specs.Text.{Line, lines_of, lines_f}
use Rattle.form.specs.Reading.{children, words_of_lines}
use Rattle.form.specs.Faults.{NoDeeper, no_more, back_up}

-- ---- the words of lines

-- Lines that lie deeper than the children are passed over.
mutual
  unfolding lines_of children when◌then◌else◌

  skip : (t : Tree) (l m : ℕ) (r : List Line) → suc l < m → children l (lines_of t m ++ r) ≡ children l r
  skip (node c f) l m r h = rw (lt-leb m l (omega arith), ne_eqb m (suc l) (λ z. omega arith)) (skip_f f l (suc m) r (omega arith))

  skip_f : (f : Forest) (l m : ℕ) (r : List Line) → suc l < m → children l (lines_f f m ++ r) ≡ children l r
  skip_f bare l m r h = refl
  skip_f (cons t f) l m r h = rw (append_assoc (lines_of t m) (lines_f f m) r) (skip t l m (lines_f f m ++ r) h ∙ skip_f f l m r h)

-- Behind the subtree of a line no more of its children come.
pub no_child : (l : ℕ) (r : List Line) → NoDeeper l r → children l r ≡ 0
unfolding children when◌then◌else◌
no_child l [] o = refl
no_child l (x ∷ r) (back_up h) = rw (le-leb x.level l h)

-- A line has as many children as its node has trees under it.
kids : (f : Forest) (l : ℕ) (r : List Line) → NoDeeper l r → children l (lines_f f (suc l) ++ r) ≡ count f
unfolding lines_of children count when◌then◌else◌
kids bare l r o = no_child l r o
kids (cons (node c g) f) l r o =
    rw (append_assoc (lines_f g (suc (suc l))) (lines_f f (suc l)) r, lt-leb (suc l) l (omega arith), eq-eqb (suc l) (suc l) refl)
    (ap suc (skip_f g l (suc (suc l)) (lines_f f (suc l) ++ r) (omega arith) ∙ kids f l r o))

-- What is low enough for a level is so for the next deeper one.
pub deeper : (l : ℕ) (r : List Line) → NoDeeper l r → NoDeeper (suc l) r
deeper l [] o = no_more
deeper l (x ∷ r) (back_up h) = let k : x.level ≤ suc l = omega arith in back_up k

-- The trees of a row at level l, put before what is low enough, are low enough.
pub row_low : (f : Forest) (l : ℕ) (r : List Line) → NoDeeper l r → NoDeeper l (lines_f f l ++ r)
unfolding lines_of
row_low bare l r o = o
row_low (cons (node c g) f) l r o = let k : l ≤ l = omega arith in back_up k

-- The lines of a tree have the tree's words, whatever follows that is no deeper than its top; those of a row have the row's words.
mutual
  unfolding lines_of words words_of_lines

  tree-words : (t : Tree) (l : ℕ) (r : List Line) → NoDeeper l r → words_of_lines (lines_of t l ++ r) ≡ words t ++ words_of_lines r
  tree-words (node c f) l r o = rw (kids f l r o, row_words f (suc l) r (deeper l r o))

  row_words : (f : Forest) (l : ℕ) (r : List Line) → NoDeeper l r → words_of_lines (lines_f f l ++ r) ≡ words_f f ++ words_of_lines r
  row_words bare l r o = refl
  row_words (cons t f) l r o =
      rw (append_assoc (lines_of t l) (lines_f f l) r, append_assoc (words t) (words_f f) (words_of_lines r), tree-words t l (lines_f f l ++ r) (row_low f l r o), row_words f l r o)

-- The lines of a tree, from whatever level on, have the tree's words.
pub lines-words : (t : Tree) (l : ℕ) → words_of_lines (lines_of t l) ≡ words t
unfolding words_of_lines
lines-words t l = ap words_of_lines (sym (append-nil (lines_of t l))) ∙ tree-words t l [] no_more ∙ append-nil (words t)

-- ---- their number

-- A tree has a line for each of its nodes, and so has a row.
mutual
  unfolding lines_of subtrees

  pub lines-count : (t : Tree) (l : ℕ) → length (lines_of t l) ≡ length (subtrees t)
  lines-count (node c f) l = ap suc (row_count f (suc l))

  pub row_count : (f : Forest) (l : ℕ) → length (lines_f f l) ≡ length (subtrees_f f)
  row_count bare l = refl
  row_count (cons t f) l = omega (arith, lines-count t l, row_count f l, length-append (lines_of t l) (lines_f f l), length-append (subtrees t) (subtrees_f f))

-- ---- which line is which

-- The codes of lines, in their order.
abbrev pub codes : List Line → List ℕ
codes xs = map (λ (x : Line). x.code) xs

-- The code at the top of a tree.
unfoldable pub top_code : Tree → ℕ
top_code (node c f) = c

-- Each line has the code at the top of the subtree of the same line: a form and its order count lines alike.
mutual
  unfolding lines_of subtrees top_code

  pub lines-subtrees : (t : Tree) (l : ℕ) → codes (lines_of t l) ≡ map top_code (subtrees t)
  lines-subtrees (node c f) l = ap (λ (r : List ℕ). c ∷ r) (row-subtrees f (suc l))

  row-subtrees : (f : Forest) (l : ℕ) → codes (lines_f f l) ≡ map top_code (subtrees_f f)
  row-subtrees bare l = refl
  row-subtrees (cons t f) l =
      map-append (λ (x : Line). x.code) (lines_of t l) (lines_f f l)
      ∙ ap (λ (r : List ℕ). r ++ codes (lines_f f l)) (lines-subtrees t l)
      ∙ ap (λ (r : List ℕ). map top_code (subtrees t) ++ r) (row-subtrees f l)
      ∙ sym (map-append top_code (subtrees t) (subtrees_f f))
