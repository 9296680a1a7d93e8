-- What is written is read back: the text of lines that pass is read as them, and the lines of a good tree within the limits pass. Assumes
-- nothing.
use mathlib.Core.Path.{◌≡◌, refl, ap, sym, subst, ◌∙◌}
use mathlib.Core.List.{List, [], ◌∷◌, ◌++◌, append-nil, reverse, reverse_aux, reverse_aux-append, reverse_aux-eq, reverse_aux-reverse_aux-nil}
use mathlib.Core.Bool.{true}
use Prim.Native.Nat.{ℕ, suc, ◌+◌, ◌-◌, ◌≤◌, ◌<◌}
use native.Mathlib.Omega.{arith}
use lib.ListN.{length, length-append}
use borrow.Author.Tests.{le-leb, eq-eqb, ne_eqb, lt-ltb, le-ltb}
use Rattle.words.specs.Base.{◌and◌, when◌then◌else◌}
use Rattle.figures.specs.Limits.{greatest_depth, most_nodes, most_children}
use Rattle.order.specs.Trees.{Tree, Forest, node, bare, cons, count, depth, depth_f, Good, GoodF, subtrees}
use Rattle.form.specs.Text.{Line, lines_of, lines_f, line_text, spell, text_of}
use Rattle.form.specs.Reading.{allowed, siblings, form, read_lines, form_of}
use Rattle.form.proofs.Tests.{AllPass}
use Rattle.form.proofs.Faults.{read_done, some_bytes}
use Rattle.form.proofs.TreeLines.{lines-count}
use Rattle.form.proofs.Digits.{read-spelt}
use Rattle.form.proofs.LineBytes.{line-size}

-- ---- lines behind others

-- Lines one after the other pass if the first part does, and the second does behind it.
legal-append : (xs ys before : List Line) → AllPass before xs → AllPass (reverse_aux xs before) ys → AllPass before (xs ++ ys)
legal-append [] ys before g h = h
legal-append (x ∷ xs) ys before g h = (g.0, g.1, legal-append xs ys (x ∷ before) g.2 h)

-- ---- siblings

-- Deeper lines are no siblings.
mutual
  unfolding lines_of siblings when◌then◌else◌

  past : (t : Tree) (l m : ℕ) (b : List Line) → l < m → siblings l (reverse_aux (lines_of t m) b) ≡ siblings l b
  past (node c f) l m b h = past_f f l (suc m) (record { level = m; code = c } ∷ b) (omega arith) ∙ rw (le-ltb m l (omega arith), ne_eqb m l (λ z. omega arith))

  past_f : (f : Forest) (l m : ℕ) (b : List Line) → l < m → siblings l (reverse_aux (lines_f f m) b) ≡ siblings l b
  past_f bare l m b h = refl
  past_f (cons t f) l m b h = ap (siblings l) (reverse_aux-append (lines_of t m) (lines_f f m) b) ∙ past_f f l m (reverse_aux (lines_of t m) b) h ∙ past t l m b h

-- A tree is one sibling more to what follows at its level.
pub one_more : (t : Tree) (l : ℕ) (b : List Line) → siblings l (reverse_aux (lines_of t l) b) ≡ suc (siblings l b)
unfolding lines_of siblings when◌then◌else◌
one_more (node c f) l b = past_f f l (suc l) (record { level = l; code = c } ∷ b) (omega arith) ∙ rw (le-ltb l l (omega arith), eq-eqb l l refl)

-- ---- levels

-- The last line is of level m or deeper.
data Top (m : ℕ) : List Line → Type 0 where
  top : {x : Line} {xs : List Line} → m ≤ x.level → Top m (x ∷ xs)

-- A last line that is deep enough is so for every lesser level.
weaker : {m k : ℕ} {b : List Line} → Top m b → k ≤ m → Top k b
weaker {m} {k} (top {x = x} h) e = let z : k ≤ x.level = omega arith in top z

-- The last line of a tree is no higher than its top, and that of a row no higher than the line before it.
mutual
  unfolding lines_of

  tops : (t : Tree) (m : ℕ) (b : List Line) → Top m (reverse_aux (lines_of t m) b)
  tops (node c f) m b = let z : m ≤ m = omega arith in tops_f f (suc m) m (record { level = m; code = c } ∷ b) (top z) (omega arith)

  tops_f : (f : Forest) (m k : ℕ) (b : List Line) → Top k b → k ≤ m → Top k (reverse_aux (lines_f f m) b)
  tops_f bare m k b o h = o
  tops_f (cons t f) m k b o h = subst (Top k) (sym (reverse_aux-append (lines_of t m) (lines_f f m) b)) (tops_f f m k (reverse_aux (lines_of t m) b) (weaker (tops t m b) h) h)

-- Behind such a line the next level is allowed.
allows : (m : ℕ) (b : List Line) → Top m b → allowed (suc m) b ≡ true
unfolding allowed ◌and◌
allows m [] x' = elim x' [ ]
allows m (x ∷ b) (top h) = rw (le-leb 1 (suc m) (omega arith), le-leb (suc m) (suc x.level) (omega arith))

-- ---- trees

-- The lines of a good tree that is not too deep pass where its top does, and so do those of a row.
mutual
  unfolding lines_of depth Good count siblings when◌then◌else◌

  legal : (t : Tree) (l : ℕ) (b : List Line) → Good t → l + depth t ≤ greatest_depth → allowed l b ≡ true → siblings l b < most_children → AllPass b (lines_of t l)
  legal (node c f) l b g d a s =
      let z : l ≤ l = omega arith in (
        g.0.1,
        record { option = g.0.0; follows = a; shallow = omega arith; child = s },
        legal_f f l (record { level = l; code = c } ∷ b) g.1 d (top z) (rw (lt-ltb l (suc l) (omega arith)) (omega (arith, g.0.2))),
      )

  legal_f : (f : Forest) (m : ℕ) (b : List Line) → GoodF f → m + depth_f f ≤ greatest_depth → Top m b → siblings (suc m) b + count f ≤ most_children → AllPass b (lines_f f (suc m))
  legal_f bare m b g d o s = tt
  legal_f (cons t f) m b g d o s =
      legal-append (lines_of t (suc m)) (lines_f f (suc m)) b
      (legal t (suc m) b g.0 (omega arith) (allows m b o) (omega arith))
      (legal_f f m (reverse_aux (lines_of t (suc m)) b) g.1 (omega arith) (weaker (tops t (suc m) b) (omega arith)) (rw (one_more t (suc m) b) (omega arith)))

-- The lines of a good tree within the limits pass.
tree-legal : (t : Tree) → Good t → depth t ≤ greatest_depth → AllPass [] (lines_of t 0)
unfolding allowed siblings
tree-legal t g d = legal t 0 [] g (omega arith) refl (omega arith)

-- Lines that are listed the last first, behind others, are in order again behind them.
in_order : (xs before : List Line) → reverse (reverse_aux xs before) ≡ reverse before ++ xs
in_order xs before = reverse_aux-reverse_aux-nil xs before ∙ reverse_aux-eq before xs

-- The text of some lines has bytes.
some-text : (xs : List Line) → 0 < length xs → 0 < length (spell xs)
unfolding spell
some-text [] h = absurd (omega arith)
some-text (x ∷ xs) h = omega (arith, length-append (line_text x) (spell xs), line-size x)

-- The text of one to 64 lines that pass is read as them.
pub read-form : (xs : List Line) → AllPass [] xs → 0 < length xs → length xs ≤ most_nodes → form_of (spell xs) ≡ form xs
read-form xs g o n =
    some_bytes (spell xs) (some-text xs o)
    ∙ ap (read_lines most_nodes []) (sym (append-nil (spell xs)))
    ∙ read-spelt most_nodes xs [] [] g n
    ∙ read_done (most_nodes - length xs) (reverse xs)
    ∙ ap form (in_order xs [])

-- A tree has a line.
some-line : (t : Tree) → 0 < length (lines_of t 0)
unfolding lines_of
some-line (node c f) = omega arith

-- The text of a good tree within the limits is read as the tree's lines.
pub form-of : (t : Tree) → Good t → depth t ≤ greatest_depth → length (subtrees t) ≤ most_nodes → form_of (text_of t) ≡ form (lines_of t 0)
unfolding text_of
form-of t g d n = read-form (lines_of t 0) (tree-legal t g d) (some-line t) (omega (arith, lines-count t 0))
