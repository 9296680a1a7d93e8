-- Lines that pass behind each other are the lines of one tree, and a form is the text of one good tree within the limits. Assumes nothing.
use mathlib.Core.Path.{◌≡◌, refl, ap, sym, subst, ◌∙◌}
use mathlib.Core.List.{List, [], ◌∷◌, ◌++◌, append_assoc, append-nil, reverse_aux, reverse, reverse-cons}
use Prim.Native.Nat.{ℕ, zero, suc, ◌+◌, ◌-◌, ◌≤◌, ◌<◌}
use native.Mathlib.Omega.{arith}
use lib.ListN.{length}
use borrow.Author.Tests.{eqb-true, lt-ltb}
use Rattle.words.proofs.Tests.{never}
use Rattle.words.specs.Base.{when◌then◌else◌, within}
use Rattle.figures.specs.Limits.{greatest_depth, most_nodes, most_children}
use Rattle.order.specs.Trees.{Tree, Forest, node, bare, cons, count, words, depth, depth_f, Good, GoodF, subtrees}
use Rattle.form.specs.Text.{Line, lines_of, lines_f, spell, text_of}
use Rattle.form.specs.Reading.{allowed, siblings, form, form_of, words_of_lines}
use Rattle.form.proofs.Tests.{AllPass}
use Rattle.form.proofs.Faults.{within_both}
use Rattle.form.proofs.TreeLines.{lines-words, lines-count}
use Rattle.form.proofs.Unique.{not_read, form-text}
use Rattle.form.proofs.RoundTrip.{one_more}

-- ---- a tree by a leaf more

-- The depth of the last line of a tree; of a row, one more than that of its last tree.
unfoldable mutual
  last : Tree → ℕ
  last (node c f) = last_f f

  last_f : Forest → ℕ
  last_f bare = 0
  last_f (cons t bare) = suc (last t)
  last_f (cons t (cons u f)) = last_f (cons u f)

-- A row with a tree more at its end.
unfoldable snoc : Forest → Tree → Forest
snoc bare u = cons u bare
snoc (cons t f) u = cons t (snoc f u)

-- A tree with a leaf of code k more, under the last node of depth m.
unfoldable mutual
  add : Tree → ℕ → ℕ → Tree
  add (node c f) zero k = node c (snoc f (node k bare))
  add (node c f) (suc m) k = node c (add_f f m k)

  add_f : Forest → ℕ → ℕ → Forest
  add_f bare m k = bare
  add_f (cons t bare) m k = cons (add t m k) bare
  add_f (cons t (cons u f)) m k = cons t (add_f (cons u f) m k)

-- The line of a level and a code.
abbrev line : ℕ → ℕ → Line
line l c = record { level = l; code = c }

-- A leaf at the end of a row is a line at the end of its lines.
snoc_lines : (f : Forest) (k l : ℕ) → lines_f (snoc f (node k bare)) l ≡ lines_f f l ++ (line l k ∷ [])
unfolding lines_of snoc
snoc_lines bare k l = refl
snoc_lines (cons t f) k l = rw (snoc_lines f k l) (sym (append_assoc (lines_of t l) (lines_f f l) (line l k ∷ [])))

-- A leaf more is a line more at the end, one deeper than the node that it stands under.
mutual
  unfolding lines_of add last

  add-lines : (t : Tree) (m k l : ℕ) → m ≤ last t → lines_of (add t m k) l ≡ lines_of t l ++ (line (l + suc m) k ∷ [])
  add-lines (node c f) zero k l h =
      let z : suc l ≡ l + 1 = omega arith in
      ap (λ (s : List Line). line l c ∷ s) (snoc_lines f k (suc l) ∙ ap (λ (n : ℕ). lines_f f (suc l) ++ (line n k ∷ [])) z)
  add-lines (node c f) (suc m) k l h =
      let z : suc l + suc m ≡ l + suc (suc m) = omega arith in
      ap (λ (s : List Line). line l c ∷ s) (add_f_lines f m k (suc l) h ∙ ap (λ (n : ℕ). lines_f f (suc l) ++ (line n k ∷ [])) z)

  add_f_lines : (f : Forest) (m k l : ℕ) → suc m ≤ last_f f → lines_f (add_f f m k) l ≡ lines_f f l ++ (line (l + suc m) k ∷ [])
  add_f_lines bare m k l h = absurd (omega arith)
  add_f_lines (cons t bare) m k l h = rw (append-nil (lines_of (add t m k) l), append-nil (lines_of t l)) (add-lines t m k l (omega arith))
  add_f_lines (cons t (cons u f)) m k l h = rw (add_f_lines (cons u f) m k l h) (sym (append_assoc (lines_of t l) (lines_f (cons u f) l) (line (l + suc m) k ∷ [])))

-- The last line of a row with a leaf at its end is the leaf's.
snoc_last : (f : Forest) (k : ℕ) → last_f (snoc f (node k bare)) ≡ 1
unfolding snoc last
snoc_last bare k = refl
snoc_last (cons t bare) k = refl
snoc_last (cons t (cons u f)) k = snoc_last (cons u f) k

-- A tree before others does not change which line is last.
more_last : (t : Tree) (f : Forest) (m k : ℕ) (u : Tree) → last_f (cons t (add_f (cons u f) m k)) ≡ last_f (add_f (cons u f) m k)
unfolding add last
more_last t bare m k u = refl
more_last t (cons v f) m k u = refl

-- The last line of a tree with a leaf more is the leaf's.
mutual
  unfolding add last

  add-last : (t : Tree) (m k : ℕ) → m ≤ last t → last (add t m k) ≡ suc m
  add-last (node c f) zero k h = snoc_last f k
  add-last (node c f) (suc m) k h = add_f_last f m k h

  add_f_last : (f : Forest) (m k : ℕ) → suc m ≤ last_f f → last_f (add_f f m k) ≡ suc (suc m)
  add_f_last bare m k h = absurd (omega arith)
  add_f_last (cons t bare) m k h = ap suc (add-last t m k (omega arith))
  add_f_last (cons t (cons u f)) m k h = more_last t f m k u ∙ add_f_last (cons u f) m k h

-- ---- the tree of lines

-- A tree with a leaf more for a line.
abbrev grown : Tree → Line → Tree
grown t x = add t (x.level - 1) x.code

module _ (t : Tree) (x : Line) (least : 1 ≤ x.level) (most : x.level ≤ suc (last t)) where
  -- Its lines are those of the tree, and the line.
  grown_lines : (before : List Line) → reverse before ≡ lines_of t 0 → reverse (x ∷ before) ≡ lines_of (grown t x) 0
  grown_lines before e =
      let z : x.level ≡ 0 + suc (x.level - 1) = omega arith in
      reverse-cons x before
      ∙ ap (λ (s : List Line). s ++ (x ∷ [])) e
      ∙ ap (λ (l : ℕ). lines_of t 0 ++ (line l x.code ∷ [])) z
      ∙ sym (add-lines t (x.level - 1) x.code 0 (omega arith))

  -- The line is its last.
  grown_last : last (grown t x) ≡ x.level
  grown_last =
      let z : suc (x.level - 1) ≡ x.level = omega arith in
      add-last t (x.level - 1) x.code (omega arith) ∙ z

-- The tree that the lines before are grows by a leaf for each line that passes.
grow : (xs before : List Line) (t : Tree) → reverse before ≡ lines_of t 0 → ((l : ℕ) → allowed l before ≡ within 1 (suc (last t)) l) → AllPass before xs → (u : Tree) × (reverse before ++ xs ≡ lines_of u 0)
unfolding allowed
grow [] before t e a g = (t, append-nil (reverse before) ∙ e)
grow (x ∷ xs) before t e a g =
    let f = g.1 in
    let w = within_both 1 (suc (last t)) x.level (sym (a x.level) ∙ f.follows) in
    let r = grow xs (x ∷ before) (grown t x) (grown_lines t x w.0 w.1 before e) (λ l. ap (λ (m : ℕ). within 1 (suc m) l) (sym (grown_last t x w.0 w.1))) g.2 in
    (r.0, sym (append_assoc (reverse before) (x ∷ []) xs) ∙ ap (λ (zs : List Line). zs ++ xs) (sym (reverse-cons x before)) ∙ r.1)

-- Lines that pass are the lines of a tree.
tree_of : (x : Line) (xs : List Line) → AllPass [] (x ∷ xs) → (t : Tree) × (x ∷ xs ≡ lines_of t 0)
unfolding allowed lines_of last
tree_of x xs g =
    let f = g.1 in
    let z : x.level ≡ 0 = eqb-true _ _ f.follows in
    grow xs (x ∷ []) (node x.code bare) (ap (λ (l : ℕ). line l x.code ∷ []) z) (λ l. ap (λ (m : ℕ). within 1 (suc m) l) z) g.2

-- ---- the limits

-- Of lines that pass, the first part does, and the second does behind it.
legal-split : (xs ys before : List Line) → AllPass before (xs ++ ys) → AllPass before xs × AllPass (reverse_aux xs before) ys
legal-split [] ys before g = (tt, g)
legal-split (x ∷ xs) ys before g =
    let r = legal-split xs ys (x ∷ before) g.2 in
    ((g.0, g.1, r.0), r.1)

-- A tree whose lines pass is good and not too deep, and so is a row.
mutual
  unfolding lines_of Good depth count siblings when◌then◌else◌

  good : (t : Tree) (l : ℕ) (b : List Line) → AllPass b (lines_of t l) → Good t × (l + depth t ≤ greatest_depth) × (siblings l b < most_children)
  good (node c f) l b g =
      let m = g.1 in
      let z : siblings (suc l) (line l c ∷ b) ≡ 0 = rw (lt-ltb l (suc l) (omega arith)) in
      let r = good_f f l (line l c ∷ b) m.shallow (omega arith) g.2 in
      (((m.option, g.0, omega (arith, r.2)), r.0), r.1, m.child)

  good_f : (f : Forest) (m : ℕ) (b : List Line) → m ≤ greatest_depth → siblings (suc m) b ≤ most_children → AllPass b (lines_f f (suc m)) → GoodF f × (m + depth_f f ≤ greatest_depth) × (siblings (suc m) b + count f ≤ most_children)
  good_f bare m b h s g = (tt, omega arith, omega arith)
  good_f (cons t f) m b h s g =
      let p = legal-split (lines_of t (suc m)) (lines_f f (suc m)) b g in
      let r = good t (suc m) b p.0 in
      let o : siblings (suc m) (reverse_aux (lines_of t (suc m)) b) ≡ suc (siblings (suc m) b) = one_more t (suc m) b in
      let q = good_f f m (reverse_aux (lines_of t (suc m)) b) h (omega (arith, r.2)) p.1 in
      ((r.0, q.0), omega (arith, r.1, q.1), omega (arith, q.2))

-- ---- forms

-- A form is the text of one good tree within the limits, and its lines and words are the tree's.
pub record Formed (s : List ℕ) (xs : List Line) : Type 0 where
  pub tree : Tree
  pub lines : xs ≡ lines_of tree 0
  pub text : text_of tree ≡ s
  pub spelt : words_of_lines xs ≡ words tree
  pub good-tree : Good tree
  pub deep : depth tree ≤ greatest_depth
  pub nodes : length (subtrees tree) ≤ most_nodes

-- `Formed` holds of any form.
pub formed : (s : List ℕ) (xs : List Line) → form_of s ≡ form xs → Formed s xs
unfolding text_of form_of spell
formed [] xs e = not_read e
formed (b ∷ bs) [] e = let o = form-text (b ∷ bs) [] e in never (cc o.0)
formed (b ∷ bs) (x ∷ xs) e =
    let o = form-text (b ∷ bs) (x ∷ xs) e in
    let t = tree_of x xs o.1 in
    let g = good t.0 0 [] (subst (AllPass []) t.1 o.1) in
    record {
      tree = t.0;
      lines = t.1;
      text = ap spell (sym t.1) ∙ o.0;
      spelt = ap words_of_lines t.1 ∙ lines-words t.0 0;
      good-tree = g.0;
      deep = omega (arith, g.1);
      nodes = omega (arith, o.2, ap length t.1, lines-count t.0 0);
    }
