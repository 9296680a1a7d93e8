-- The lines of an order's form: each stands in its text behind as many LF as there are lines before it, with the code at the top of the subtree of the
-- same line; its level is in tens, and so are two digits that are read as one; and the lines below it are those of what stands strictly below that subtree.
-- Assumes nothing.
use Prim.Native.Nat.{ℕ, zero, suc, ◌+◌, ◌-◌, ◌/◌, ◌%◌, ◌≤◌, ◌<◌}
use mathlib.Core.Path.{◌≡◌, refl, sym, ap, ap₂, ◌∙◌}
use mathlib.Core.List.{List, [], ◌∷◌, ◌++◌, append-nil, map}
use native.Mathlib.Decide.{dec_lt}
use native.Mathlib.Omega.{arith}
use lib.ListN.{length, get_or, take, drop, take-append-drop}
use lib.Seq.{length-take-le}
use Rattle.words.specs.Base.{◌exactly_when◌}
use Rattle.words.proofs.Tests.{never}
use Rattle.order.specs.Trees.{Tree, node, words, subtrees, below}
use Rattle.order.specs.Reading.{found, missing}
use Rattle.order.specs.Answers.{tree_at, tree_of_line}
use Rattle.order.specs.Paper.{StrictlyBelow}
use Rattle.order.proofs.Reading.{not_found}
use Rattle.order.proofs.Paper.{below-from, below-to}
use Rattle.order.proofs.Lines.{place-within}
use Rattle.order.proofs.Below.{below-line, line-below}
use Rattle.form.specs.Text.{Line, digit_0, digit, level_text, code_text, line_text, spell, lines_of, lines_f, text_of}
use Rattle.form.specs.Faults.{greatest_level, no_more}
use Rattle.form.proofs.LineBytes.{one-digit, two_digits, spell-append}
use Rattle.form.proofs.TreeLines.{codes, top_code, lines-subtrees, lines-count, row_count}
use Rattle.form.proofs.LinesBelow.{TreeFirst, tree-first, row-above}
use Rattle.desk_step.specs.Lines.{feeds}
use Rattle.desk_step.proofs.Lines.{no_feed, feeds-append, feeds-none, one-feed}
use Rattle.promises.specs.Forms.{LevelInTens, one_figure, two_figures, LineOfText, LinesBelow}

-- ---- levels

-- The text of a level up to 99 is the level in tens.
pub level-tens : (l : ℕ) → l ≤ greatest_level → LevelInTens l (level_text l)
level-tens l most = elim (dec_lt l 10) [
  | yes h ↦ one_figure (l % 10) (omega arith) (one-digit l h) (omega arith)
  | no h ↦ two_figures (l / 10 % 10) (l % 10) (omega arith) (omega arith) (omega arith) (two_digits l (omega arith)) (omega arith)
]

-- Bytes that are a level in tens are its text.
pub tens_level : (l : ℕ) (text : List ℕ) → LevelInTens l text → text ≡ level_text l
tens_level l text (one_figure a h e q) =
    let z : digit_0 + a ≡ digit l = omega arith in
    e ∙ ap (λ (b : ℕ). b ∷ []) z ∙ sym (one-digit l (omega arith))
tens_level l text (two_figures a b p h k e q) =
    let y : digit_0 + a ≡ digit (l / 10) = omega arith in
    let z : digit_0 + b ≡ digit l = omega arith in
    e ∙ ap₂ (λ (v w : ℕ). v ∷ w ∷ []) y z ∙ sym (two_digits l (omega arith))

-- A level in tens is at most 99.
pub tens_most : (l : ℕ) (text : List ℕ) → LevelInTens l text → l ≤ greatest_level
tens_most l text (one_figure a h e q) = omega arith
tens_most l text (two_figures a b p h k e q) = omega arith

-- ---- LF

-- A level has no LF.
level-feeds : (l : ℕ) → feeds (level_text l) ≡ 0
level-feeds l = elim (dec_lt l 10) [
  | yes h ↦ ap feeds (one-digit l h) ∙ no_feed (digit l) [] (λ e. omega arith) ∙ feeds-none
  | no h ↦ ap feeds (two_digits l (omega arith)) ∙ no_feed (digit (l / 10)) (digit l ∷ []) (λ e. omega arith) ∙ no_feed (digit l) [] (λ e. omega arith) ∙ feeds-none
]

-- What follows a level has one, at the end.
code-feeds : (c : ℕ) → feeds (code_text c) ≡ 1
unfolding code_text
code-feeds c =
    no_feed _ _ (λ e. omega arith) ∙ no_feed _ _ (λ e. omega arith) ∙ no_feed _ _ (λ e. omega arith) ∙ no_feed _ _ (λ e. omega arith)
    ∙ no_feed _ _ (λ e. omega arith) ∙ one-feed

-- Lines have one each.
pub spell-feeds : (xs : List Line) → feeds (spell xs) ≡ length xs
unfolding spell line_text
spell-feeds [] = feeds-none
spell-feeds (x ∷ xs) =
    omega (
      arith,
      feeds-append (level_text x.level ++ code_text x.code) (spell xs),
      feeds-append (level_text x.level) (code_text x.code),
      level-feeds x.level,
      code-feeds x.code,
      spell-feeds xs,
    )

-- ---- the line of a subtree

-- A line among lines, at a place counted from 0.
record Among (xs : List Line) (i c : ℕ) : Type 0 where
  before : List Line
  this : Line
  behind : List Line
  is : xs ≡ before ++ (this ∷ behind)
  place : length before ≡ i
  code : this.code ≡ c

-- With a line before the others it stands a place on.
one-before : (x : Line) {xs : List Line} {i c : ℕ} → Among xs i c → Among (x ∷ xs) (suc i) c
one-before x a = record {
  before = x ∷ a.before;
  this = a.this;
  behind = a.behind;
  is = ap (λ (l : List Line). x ∷ l) a.is;
  place = ap suc a.place;
  code = a.code;
}

-- Where the codes of lines are those at the tops of trees, the tree at a place has its line there.
line-among : (xs : List Line) (ts : List Tree) (i : ℕ) (s : Tree) → codes xs ≡ map top_code ts → tree_at ts i ≡ found s → Among xs i (top_code s)
unfolding tree_at
line-among xs [] i s e q = absurd (let z : missing ≡ found s = q in never cc)
line-among [] (t ∷ ts) i s e q = never cc
line-among (x ∷ xs) (t ∷ ts) zero s e q =
    let same : t ≡ s = cc in
    let c : x.code ≡ top_code t = cc in
    record { before = []; this = x; behind = xs; is = refl; place = refl; code = c ∙ ap top_code same }
line-among (x ∷ xs) (t ∷ ts) (suc i) s e q =
    let rest : codes xs ≡ map top_code ts = cc in
    one-before x (line-among xs ts i s rest q)

-- The code at the top of a tree is its first word.
top-first : (s : Tree) → top_code s ≡ get_or (words s) 0 0
unfolding top_code words
top-first (node c f) = refl

-- The subtree of a line of an order has that line in the order's form, with the code at its top.
pub line-of_subtree : (t : Tree) (line : ℕ) (s : Tree) → tree_of_line line (subtrees t) ≡ found s
    → (x : Line) × LineOfText (text_of t) line x × (x.code ≡ get_or (words s) 0 0)
unfolding tree_of_line text_of spell
line-of_subtree t zero s q = never cc
line-of_subtree t (suc i) s q =
    let a = line-among (lines_of t 0) (subtrees t) i s (lines-subtrees t 0) q in (
      a.this,
      record {
        before = a.before;
        behind = a.behind;
        text_is = ap spell a.is ∙ spell-append a.before (a.this ∷ a.behind);
        place = ap suc (sym a.place);
        feeds_before = ap suc (sym a.place ∙ sym (spell-feeds a.before));
      },
      a.code ∙ top-first s,
    )

-- ---- the lines below a line

-- As many lines of a form stand below a line as trees strictly below its subtree.
pub lines-below : (t s : Tree) (line : ℕ) → tree_of_line line (subtrees t) ≡ found s → LinesBelow (lines_of t 0) line (length (below s))
unfolding tree_of_line lines_of below
lines-below t s zero q = not_found q
lines-below t s (suc i) q = go s (tree-first t 0 [] no_more i s q)
  where
    -- The form has more lines than stand before this one.
    within : i < length (lines_of t 0)
    within = omega (arith, place-within (subtrees t) i s q, lines-count t 0)

    -- By the subtree's own lines.
    go : (u : Tree) → TreeFirst u (drop i (lines_of t 0 ++ [])) → LinesBelow (lines_of t 0) (suc i) (length (below u))
    go (node c f) T = record {
      before = take i (lines_of t 0);
      this = record { level = T.level; code = c };
      below = lines_f f (suc T.level);
      behind = T.rest;
      form_is = sym (take-append-drop i (lines_of t 0)) ∙ ap (λ (xs : List Line). take i (lines_of t 0) ++ xs) (sym (ap (drop i) (append-nil (lines_of t 0))) ∙ T.is);
      place = ap suc (sym (length-take-le i (lines_of t 0) (omega (arith, within))));
      many = sym (row_count f (suc T.level));
      deeper = row-above f T.level (suc T.level) (omega arith);
      ends = T.ends;
    }

-- The trees strictly below a line's subtree are those of the lines below it.
pub below-by_lines : (t s u : Tree) (line : ℕ) → tree_of_line line (subtrees t) ≡ found s
    → StrictlyBelow s u exactly_when (j : ℕ) × (line < j) × (j ≤ line + length (below s)) × (tree_of_line j (subtrees t) ≡ found u)
unfolding tree_of_line
below-by_lines t s u zero q = not_found q
below-by_lines t s u (suc i) q = (to, from)
  where
    -- Such a tree has its line,
    to : StrictlyBelow s u → (j : ℕ) × (suc i < j) × (j ≤ suc i + length (below s)) × (tree_of_line j (subtrees t) ≡ found u)
    to m = let r = below-line t s u i q (below-to m) in (suc (i + 1 + r.0), omega (arith, r.1), omega (arith, r.1), r.2)

    -- and such a line its tree.
    from : (j : ℕ) × (suc i < j) × (j ≤ suc i + length (below s)) × (tree_of_line j (subtrees t) ≡ found u) → StrictlyBelow s u
    from r = at r.0 r.1 r.2 r.3
      where
        -- By the line.
        at : (j : ℕ) → suc i < j → j ≤ suc i + length (below s) → tree_of_line j (subtrees t) ≡ found u → StrictlyBelow s u
        at zero h l e = absurd (omega arith)
        at (suc j) h l e =
            let place : j ≡ i + 1 + (j - (i + 1)) = omega arith in
            below-from s (line-below t s u i (j - (i + 1)) q (omega arith) (sym (ap (tree_at (subtrees t)) place) ∙ e))
