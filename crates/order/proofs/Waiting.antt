-- Trees of an order that are still to be gone over, line after line, each with the level of its top: their words, subtrees and levels, and what they are once
-- the first of them is opened, so that its children wait in its place. Assumes nothing.
use Prim.Native.Nat.{ℕ, zero, suc, ◌+◌, ◌*◌, ◌<◌}
use mathlib.Core.Path.{◌≡◌, refl, ap, sym, ◌∙◌}
use mathlib.Core.List.{List, [], ◌∷◌, ◌++◌, append_assoc, append-nil}
use native.Mathlib.Omega.{arith}
use lib.ListN.{length, drop, length-drop}
use lib.Seq.{drop-drop}
use Rattle.order.specs.Trees.{Tree, node, Forest, bare, cons, count, words, words_f, subtrees, subtrees_f}
use Rattle.order.specs.Levels.{tree_levels, row_levels}

-- Trees one after the other, each with a level.
pub data Waiting : Type 0 where
  all_done : Waiting
  waits : Tree → ℕ → Waiting → Waiting

-- A row of trees of one level, and the others behind it.
unfoldable pub opened : Forest → ℕ → Waiting → Waiting
opened bare l w = w
opened (cons t f) l w = waits t l (opened f l w)

-- Their words.
unfoldable pub words_w : Waiting → List ℕ
words_w all_done = []
words_w (waits t l w) = words t ++ words_w w

-- Their subtrees, one for each line.
unfoldable pub subtrees_w : Waiting → List Tree
subtrees_w all_done = []
subtrees_w (waits t l w) = subtrees t ++ subtrees_w w

-- The levels of their lines.
unfoldable pub levels_w : Waiting → List ℕ
levels_w all_done = []
levels_w (waits t l w) = tree_levels t l ++ levels_w w

-- The words of an opened row are its words, and those of the others.
opened-words : (f : Forest) (l : ℕ) (w : Waiting) → words_w (opened f l w) ≡ words_f f ++ words_w w
unfolding opened words_w words_f
opened-words bare l w = refl
opened-words (cons t f) l w = ap (λ (r : List ℕ). words t ++ r) (opened-words f l w) ∙ sym (append_assoc (words t) (words_f f) (words_w w))

-- So are its subtrees,
pub opened-subtrees : (f : Forest) (l : ℕ) (w : Waiting) → subtrees_w (opened f l w) ≡ subtrees_f f ++ subtrees_w w
unfolding opened subtrees_w subtrees_f
opened-subtrees bare l w = refl
opened-subtrees (cons t f) l w = ap (λ (r : List Tree). subtrees t ++ r) (opened-subtrees f l w) ∙ sym (append_assoc (subtrees t) (subtrees_f f) (subtrees_w w))

-- and its levels.
opened-levels : (f : Forest) (l : ℕ) (w : Waiting) → levels_w (opened f l w) ≡ row_levels f l ++ levels_w w
unfolding opened levels_w row_levels
opened-levels bare l w = refl
opened-levels (cons t f) l w = ap (λ (r : List ℕ). tree_levels t l ++ r) (opened-levels f l w) ∙ sym (append_assoc (tree_levels t l) (row_levels f l) (levels_w w))

-- The first of them opened: its own line, and the line's children before the others.
module _ (c : ℕ) (f : Forest) (l : ℕ) (w : Waiting) where
  -- Its two words come first.
  pub open_words : words_w (waits (node c f) l w) ≡ c ∷ count f ∷ words_w (opened f (suc l) w)
  unfolding words_w words
  open_words = ap (λ (r : List ℕ). c ∷ count f ∷ r) (sym (opened-words f (suc l) w))

  -- It is the first subtree.
  pub open_subtrees : subtrees_w (waits (node c f) l w) ≡ node c f ∷ subtrees_w (opened f (suc l) w)
  unfolding subtrees_w subtrees
  open_subtrees = ap (λ (r : List Tree). node c f ∷ r) (sym (opened-subtrees f (suc l) w))

  -- Its level is the first.
  pub open_levels : levels_w (waits (node c f) l w) ≡ l ∷ levels_w (opened f (suc l) w)
  unfolding levels_w tree_levels
  open_levels = ap (λ (r : List ℕ). l ∷ r) (sym (opened-levels f (suc l) w))

-- ---- from a line on

-- What waits from a line of a tree on, counted from 0: the node of the line, its row of children, its level, and the trees behind its subtree.
pub record WaitingAt (t : Tree) (i : ℕ) : Type 0 where
  pub code : ℕ
  pub row : Forest
  pub level : ℕ
  pub others : Waiting
  pub words_are : drop (i * 2) (words t) ≡ words_w (waits (node code row) level others)
  pub subtrees-are : drop i (subtrees t) ≡ subtrees_w (waits (node code row) level others)
  pub levels_are : drop i (tree_levels t 0) ≡ levels_w (waits (node code row) level others)

-- Every line of a tree.
pub waiting_at : (t : Tree) (i : ℕ) → i < length (subtrees t) → WaitingAt t i
unfolding words_w subtrees_w levels_w
waiting_at (node c f) zero h = record {
  code = c;
  row = f;
  level = 0;
  others = all_done;
  words_are = sym (append-nil (words (node c f)));
  subtrees-are = sym (append-nil (subtrees (node c f)));
  levels_are = sym (append-nil (tree_levels (node c f) 0));
}
waiting_at t (suc i) h = next (waiting_at t i (omega arith))
  where
    next : WaitingAt t i → WaitingAt t (suc i)
    next w = go (opened w.row (suc w.level) w.others) refl
      where
        a : suc i * 2 ≡ i * 2 + 2
        a = omega arith

        b : suc i ≡ i + 1
        b = omega arith

        ts : drop (suc i) (subtrees t) ≡ subtrees_w (opened w.row (suc w.level) w.others)
        ts = ap (λ (n : ℕ). drop n (subtrees t)) b ∙ sym (drop-drop 1 i (subtrees t)) ∙ ap (drop 1) (w.subtrees-are ∙ open_subtrees w.code w.row w.level w.others)

        go : (v : Waiting) → opened w.row (suc w.level) w.others ≡ v → WaitingAt t (suc i)
        go all_done e = absurd (omega (arith, length-drop (suc i) (subtrees t), ap length ts, ap (λ (v : Waiting). length (subtrees_w v)) e))
        go (waits (node c f) l v) e = record {
          code = c;
          row = f;
          level = l;
          others = v;
          words_are = ap (λ (n : ℕ). drop n (words t)) a ∙ sym (drop-drop 2 (i * 2) (words t)) ∙ ap (drop 2) (w.words_are ∙ open_words w.code w.row w.level w.others) ∙ ap words_w e;
          subtrees-are = ts ∙ ap subtrees_w e;
          levels_are = ap (λ (n : ℕ). drop n (tree_levels t 0)) b ∙ sym (drop-drop 1 i (tree_levels t 0)) ∙ ap (drop 1) (w.levels_are ∙ open_levels w.code w.row w.level w.others) ∙ ap levels_w e;
        }
