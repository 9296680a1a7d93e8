-- A row of trees gone over by the spans of its subtrees: what is left after each child, and what all lines say of the tree that words are. Assumes nothing.
use Rattle.std.specs.Prelude.{None, Some, Option}
use Prim.Native.Nat.{ℕ, zero, suc, ◌+◌, ◌*◌, ◌-◌, ◌/◌, ◌≤◌, ◌<◌, max}
use mathlib.Core.Path.{◌≡◌, refl, sym, ap, ap₂, ◌∙◌}
use mathlib.Core.Bool.{Bool, true, false}
use mathlib.Core.List.{List, [], ◌∷◌, ◌++◌, append-nil}
use native.Mathlib.Omega.{arith}
use native.Mathlib.Nat.{zero-max, add-zero}
use borrow.Author.Tests.{le-leb, lt-leb, leb-true}
use lib.Dec.{leb}
use lib.ListN.{length, take, drop, get_or, set, length-set, length-append, length-drop, length-take, drop_of_length-le}
use lib.Seq.{drop-drop, drop-append_seam, get_or-drop, get_or-take, get_or-set_same, get_or-set_other, take-set-lt, drop-set-add}
use Rattle.order.specs.declared.Spanned.{Spanned}
use Rattle.words.proofs.Tests.{never}
use Rattle.words.specs.Base.{when◌then◌else◌}
use Rattle.figures.specs.Limits.{most_words}
use Rattle.figures.specs.Nodes.{sound_node}
use Rattle.figures.specs.Numbers.{done}
use Rattle.order.specs.Trees.{Tree, node, Forest, bare, cons, count, depth, depth_f, subtrees, subtrees_f}
use Rattle.order.specs.Reading.{first_trees, later_trees, TreeFound, missing, found, tree_of, order, by_order, order_of, cause_of}
use Rattle.order.specs.Spans.{lines, lines_f, spans_from, spans_in, GoneOver, Rowed, faulty, rowed, node_before, row_of, leaves_f, LeavesAre, SpansAre, FirstSpan, spanned_by, measured_of}
use Rattle.order.proofs.Orders.{FoundDeep, words-read}
use Rattle.order.proofs.Causes.{has-tree}
use Rattle.order.proofs.Leaves.{leaves-few, leaves-short, leaves_lines, leaves-deep, leaf_more, leaf_none}
use Rattle.order.proofs.Rowing.{node-words, leb_less, subtrees-split, tree-row, row-tree, row-missing, lacks_child, fault-missing}

-- ---- lines and spans

-- Two words for each tree.
pub spans-long : (i : ℕ) (ts : List Tree) → length (spans_from i ts) ≡ 2 * length ts
unfolding spans_from
spans-long i [] = refl
spans-long i (t ∷ ts) = omega (arith, spans-long (suc i) ts)

-- The words for two lists stand behind each other.
pub spans-append : (i : ℕ) (ts us : List Tree) → spans_from i (ts ++ us) ≡ spans_from i ts ++ spans_from (i + length ts) us
unfolding spans_from
spans-append i [] us = ap (λ (k : ℕ). spans_from k us) (sym (add-zero i))
spans-append i (t ∷ ts) us =
    let e : suc i + length ts ≡ i + suc (length ts) = omega arith in
    ap (λ (l : List ℕ). (i + lines t) ∷ depth t ∷ l) (spans-append (suc i) ts us ∙ ap (λ (k : ℕ). spans_from (suc i) ts ++ spans_from k us) e)

-- A tree has as many subtrees as lines.
mutual
  unfolding lines subtrees

  pub lines-subtrees : (t : Tree) → length (subtrees t) ≡ lines t
  lines-subtrees (node c f) = omega (arith, lines_f-subtrees f)

  pub lines_f-subtrees : (f : Forest) → length (subtrees_f f) ≡ lines_f f
  lines_f-subtrees bare = refl
  lines_f-subtrees (cons t f) = omega (arith, lines-subtrees t, lines_f-subtrees f, length-append (subtrees t) (subtrees_f f))

-- Every tree has a line.
pub some-line : (t : Tree) → 1 ≤ lines t
unfolding lines
some-line (node c f) = omega arith

-- A tree is less deep than it has lines.
mutual
  unfolding depth lines

  depth-lines : (t : Tree) → depth t < lines t
  depth-lines (node c f) = omega (arith, depth_f_lines f)

  depth_f_lines : (f : Forest) → depth_f f ≤ lines_f f
  depth_f_lines bare = omega arith
  depth_f_lines (cons t f) = omega (arith, depth-lines t, depth_f_lines f)

-- The first trees of a row have no more lines than all.
first-lines : (k : ℕ) (f : Forest) → lines_f (first_trees k f) ≤ lines_f f
unfolding lines_f first_trees
first-lines zero f = omega arith
first-lines (suc k) bare = omega arith
first-lines (suc k) (cons t f) = omega (arith, first-lines k f)

-- What the first tree of a row says, and what stands behind its words.
first-words : (i : ℕ) (t : Tree) (f : Forest) → (get_or (spans_from i (subtrees_f (cons t f))) 0 0 ≡ i + lines t) × (get_or (spans_from i (subtrees_f (cons t f))) 1 0 ≡ depth t)
unfolding subtrees_f subtrees spans_from
first-words i (node c g) f = (refl, refl)

behind-first : (i : ℕ) (t : Tree) (f : Forest) → drop (2 * lines t) (spans_from i (subtrees_f (cons t f))) ≡ spans_from (i + lines t) (subtrees_f f)
unfolding subtrees_f
behind-first i t f =
    let n : 2 * lines t ≡ length (spans_from i (subtrees t)) = omega (arith, spans-long i (subtrees t), lines-subtrees t) in
    rw (n, spans-append i (subtrees t) (subtrees_f f)) (drop-append_seam (spans_from i (subtrees t)) (spans_from (i + length (subtrees t)) (subtrees_f f)))
    ∙ ap (λ (k : ℕ). spans_from (i + k) (subtrees_f f)) (lines-subtrees t)

-- The lines left from i on are those of the row whose spans stand there, two words each.
lines_left : (os ss : List ℕ) (i : ℕ) (f : Forest) → length os ≤ length ss → drop (2 * i) (take (length os) ss) ≡ spans_from i (subtrees_f f) → length os - 2 * i ≡ 2 * lines_f f
lines_left os ss i f room e = omega (arith, simp (length-drop, length-take) at (ap length e), spans-long i (subtrees_f f), lines_f-subtrees f)

-- ---- the loop over a node's children

-- The deepest of three, whichever two are taken first.
max_again : (a b c d : ℕ) → max a (max (suc b) c) ≡ d → max (max a (suc b)) c ≡ d
max_again a b c d h = omega arith

-- The loop's place: the trees that are left, of which `left` are still to be taken.
pub record Over (os ss : List ℕ) (from children at depth left : ℕ) : Type 0 where
  pub row : Forest
  pub is : row_of (drop (2 * from) os) ≡ rowed row
  pub rest : Forest
  pub here : drop (2 * at) (take (length os) ss) ≡ spans_from at (subtrees_f rest)
  pub enough : leb children (count row) ≡ leb left (count rest)
  pub deep : left ≤ count rest → max depth (depth_f (first_trees left rest)) ≡ depth_f (first_trees children row)
  pub far : left ≤ count rest → at + lines_f (first_trees left rest) ≡ from + lines_f (first_trees children row)
  pub ends : at + lines_f rest ≡ length os / 2

module _ (os ss : List ℕ) (from children : ℕ) (even : 2 * (length os / 2) ≡ length os) (room : length os ≤ length ss) where
  -- Before the first child.
  over-start : 2 * from ≤ length os → SpansAre from (drop (2 * from) (take (length os) ss)) (row_of (drop (2 * from) os)) → Over os ss from children from 0 children
  over-start low are = go (row_of (drop (2 * from) os)) refl are
    where
      go : (r : Rowed) → row_of (drop (2 * from) os) ≡ r → SpansAre from (drop (2 * from) (take (length os) ss)) r → Over os ss from children from 0 children
      go faulty e h = absurd h
      go (rowed f) e h =
          record { row = f; is = e; rest = f; here = h; enough = refl; deep = λ l. zero-max _; far = λ l. refl; ends = omega (arith, lines_left os ss from f room h, even) }

  module _ (at depth₀ left : ℕ) (o : Over os ss from children at depth₀ left) where
    -- The next child, where a line is left.
    pub over-next : (end₁ deep₁ : ℕ) → at < length os / 2 → 0 < left → end₁ ≡ get_or ss (2 * at) 0 → deep₁ ≡ get_or ss (2 * at + 1) 0
        → Over os ss from children end₁ (max depth₀ (suc deep₁)) (left - 1)
    unfolding lines_f count depth_f first_trees
    over-next end₁ deep₁ low more el ed = go o.rest refl left refl
      where
        go : (g : Forest) → o.rest ≡ g → (l : ℕ) → left ≡ l → Over os ss from children end₁ (max depth₀ (suc deep₁)) (left - 1)
        go bare e l el' = absurd (omega (arith, o.ends, ap lines_f e))
        go (cons t f) e zero el' = absurd (omega arith)
        go (cons t f) e (suc l) el' =
            let here : drop (2 * at) (take (length os) ss) ≡ spans_from at (subtrees_f (cons t f)) = o.here ∙ ap (λ (g : Forest). spans_from at (subtrees_f g)) e in
            let w₀ : get_or (drop (2 * at) (take (length os) ss)) 0 0 ≡ get_or ss (2 * at) 0 = get_or-drop (2 * at) (take (length os) ss) 0 0 ∙ get_or-take (length os) ss (2 * at + 0) 0 (omega (arith, even)) ∙ ap (λ (k : ℕ). get_or ss k 0) (add-zero (2 * at)) in
            let w₁ : get_or (drop (2 * at) (take (length os) ss)) 1 0 ≡ get_or ss (2 * at + 1) 0 = get_or-drop (2 * at) (take (length os) ss) 1 0 ∙ get_or-take (length os) ss (2 * at + 1) 0 (omega (arith, even)) in
            let n : end₁ ≡ at + lines t = el ∙ sym w₀ ∙ ap (λ (ws : List ℕ). get_or ws 0 0) here ∙ (first-words at t f).0 in
            let d : deep₁ ≡ depth t = ed ∙ sym w₁ ∙ ap (λ (ws : List ℕ). get_or ws 1 0) here ∙ (first-words at t f).1 in
            let ends : at + (lines t + lines_f f) ≡ length os / 2 = rw (← ap lines_f e) o.ends in
            let two : 2 * end₁ ≡ 2 * at + 2 * lines t = omega (arith, n) in
            let here' : drop (2 * end₁) (take (length os) ss) ≡ spans_from end₁ (subtrees_f f) =
            rw two (sym (drop-drop (2 * lines t) (2 * at) (take (length os) ss)) ∙ ap (drop (2 * lines t)) here ∙ behind-first at t f) ∙ ap (λ (k : ℕ). spans_from k (subtrees_f f)) (sym n) in
            let le : left - 1 ≡ l = omega arith in
            let counts : count o.rest ≡ suc (count f) = ap count e in
            record {
              row = o.row;
              is = o.is;
              rest = f;
              here = here';
              enough = o.enough ∙ ap₂ leb (el') counts ∙ leb_less l (count f) ∙ ap (λ (n : ℕ). leb n (count f)) (sym le);
              deep = λ h. rw (le, d) (max_again depth₀ (depth t) (depth_f (first_trees l f)) _ (rw (el', e) at (o.deep (omega (arith, counts)))));
              far = λ h. rw le (omega (arith, n, ap (λ (g : Forest). lines_f (first_trees left g)) e, ap (λ (k : ℕ). lines_f (first_trees k (cons t f))) el', o.far (omega (arith, counts))));
              ends = omega (arith, n);
            }

    -- With no line left a child is lacking.
    pub over-lacking : length os / 2 ≤ at → 0 < left → spanned_by from children (row_of (drop (2 * from) os)) ≡ None
    unfolding spanned_by when◌then◌else◌ count lines_f
    over-lacking past more = rw o.is (go o.rest refl)
      where
        go : (g : Forest) → o.rest ≡ g → when◌then◌else◌ {A = Option Spanned} (leb children (count o.row)) (Some (record { end = from + lines_f (first_trees children o.row); depth = depth_f (first_trees children o.row) })) None ≡ None
        go bare e = rw (o.enough ∙ lt-leb left (count o.rest) (omega (arith, ap count e))) refl
        go (cons t f) e = absurd (omega (arith, o.ends, ap lines_f e, some-line t))

    -- Past the last child all are taken.
    pub over-all : left ≡ 0 → spanned_by from children (row_of (drop (2 * from) os)) ≡ Some (record { end = at; depth = depth₀ })
    unfolding spanned_by when◌then◌else◌ first_trees lines_f depth_f
    over-all none =
        let deep : depth₀ ≡ depth_f (first_trees children o.row) = omega (arith, rw none at (o.deep (omega arith))) in
        let far : at ≡ from + lines_f (first_trees children o.row) = omega (arith, rw none at (o.far (omega arith))) in
        rw (o.is, o.enough ∙ le-leb left (count o.rest) (omega arith), deep, far) refl

-- Behind the first child, whose span is known.
module _ (os ss : List ℕ) (from first top run children : ℕ) (even : 2 * (length os / 2) ≡ length os) (room : length os ≤ length ss)
    (low : 2 * from ≤ length os) (are : SpansAre from (drop (2 * from) (take (length os) ss)) (row_of (drop (2 * from) os))) (k : FirstSpan os ss from first top run) (more : 0 < children) where
  -- Where there is no line behind the node, it lacks a child.
  pub first-lacking : length os / 2 ≤ from → spanned_by from children (row_of (drop (2 * from) os)) ≡ None
  first-lacking past = over-lacking os ss from children even room from 0 children (over-start os ss from children even room low are) past more

  -- The other children are left.
  pub first-over : from < length os / 2 → Over os ss from children first (top + 1) (children - 1)
  first-over some =
      let d : max 0 (suc top) ≡ top + 1 = omega arith in
      rw (← d) (over-next os ss from children even room from 0 children (over-start os ss from children even room low are) first top some more (k.ends some) (k.deep some))

-- ---- the loop over the lines

-- The lines from `line` on are measured.
pub record Back (os ss₀ ss : List ℕ) (line : ℕ) : Type 0 where
  pub even : 2 * (length os / 2) ≡ length os
  pub room : length os ≤ length ss
  pub short : length os ≤ most_words
  pub kept : length ss ≡ length ss₀
  pub low : 2 * line ≤ length os
  pub are : SpansAre line (drop (2 * line) (take (length os) ss)) (row_of (drop (2 * line) os))

-- Behind the last line nothing is left.
pub back_start : (os ss : List ℕ) → 2 * (length os / 2) ≡ length os → length os ≤ length ss → length os ≤ most_words → Back os ss ss (length os / 2)
unfolding row_of spans_from subtrees_f
back_start os ss even room short =
    let a : drop (2 * (length os / 2)) (take (length os) ss) ≡ [] = drop_of_length-le (take (length os) ss) {i = 2 * (length os / 2)} (omega (arith, length-take (length os) ss, even)) in
    let b : drop (2 * (length os / 2)) os ≡ [] = drop_of_length-le os {i = 2 * (length os / 2)} (omega (arith, even)) in
    record { even = even; room = room; short = short; kept = refl; low = omega (arith, even); are = rw (b, a) refl }

-- The words from a line on are its two and those behind it.
two_words : (os : List ℕ) (at : ℕ) → 2 * at + 2 ≤ length os → drop (2 * at) os ≡ get_or os (2 * at) 0 ∷ get_or os (2 * at + 1) 0 ∷ drop (2 * (at + 1)) os
two_words os at h = node-words os (2 * at) (2 * (at + 1)) (omega arith) (omega arith)

-- What a node comes to.
abbrev end_of : Option Spanned → ℕ
end_of None = 0
end_of (Some to) = to.end

abbrev depth-of : Option Spanned → ℕ
depth-of None = 0
depth-of (Some to) = to.depth

-- Two words stored before those of the lines behind.
stored : (ss : List ℕ) (len at line x y : ℕ) → at + 1 ≡ line → 2 * line ≤ len → len ≤ length ss
    → drop (2 * at) (take len (set (set ss (2 * at) x) (2 * at + 1) y)) ≡ x ∷ y ∷ drop (2 * line) (take len ss)
stored ss len at line x y e h room =
    let two : drop (2 * at) (take len ss) ≡ get_or (take len ss) (2 * at) 0 ∷ get_or (take len ss) (2 * at + 1) 0 ∷ drop (2 * (at + 1)) (take len ss) =
    two_words (take len ss) at (omega (arith, length-take len ss)) in
    ap (drop (2 * at)) (take-set-lt len (set ss (2 * at) x) (2 * at + 1) y (omega arith) ∙ ap (λ (l : List ℕ). set l (2 * at + 1) y) (take-set-lt len ss (2 * at) x (omega arith)))
    ∙ drop-set-add (2 * at) (set (take len ss) (2 * at) x) 1 y
    ∙ ap (λ (l : List ℕ). set l 1 y) (ap (λ (k : ℕ). drop (2 * at) (set (take len ss) k x)) (sym (add-zero (2 * at))) ∙ drop-set-add (2 * at) (take len ss) 0 x)
    ∙ ap (λ (l : List ℕ). set (set l 0 x) 1 y) two
    ∙ ap (λ (k : ℕ). x ∷ y ∷ drop (2 * k) (take len ss)) e

-- What the scratch says of a node and the lines behind it.
node-spans : (at line c n : ℕ) (f : Forest) (x y : ℕ) → suc at ≡ line → x ≡ line + lines_f (first_trees n f) → y ≡ depth_f (first_trees n f)
    → (x ∷ y ∷ spans_from line (subtrees_f f)) ≡ spans_from at (subtrees_f (cons (node c (first_trees n f)) (later_trees n f)))
unfolding spans_from subtrees_f subtrees lines depth
node-spans at line c n f x y l p q =
    let e : x ≡ at + suc (lines_f (first_trees n f)) = omega (arith, p, l) in
    rw (e, q, ← l, subtrees-split n f) refl

-- ---- the first of the lines that were gone over

-- Behind the last line there is none.
pub front-start : (os ss : List ℕ) → 2 * (length os / 2) ≡ length os → FirstSpan os ss (length os / 2) 0 0 0
unfolding row_of leaves_f
front-start os ss even =
    let b : drop (2 * (length os / 2)) os ≡ [] = drop_of_length-le os {i = 2 * (length os / 2)} (omega (arith, even)) in
    record { ends = λ l. absurd (omega arith); deep = λ l. absurd (omega arith); leaves = rw b refl }

-- The line that was written is the first, and its span is what was written.
front-written : (os ss : List ℕ) (at x y run : ℕ) → 2 * at + 2 ≤ length ss → LeavesAre run (row_of (drop (2 * at) os))
    → FirstSpan os (set (set ss (2 * at) x) (2 * at + 1) y) at x y run
front-written os ss at x y run h l = record {
  ends = λ z. sym (get_or-set_other (set ss (2 * at) x) (2 * at + 1) (2 * at) y 0 (λ e. omega arith) ∙ get_or-set_same ss (2 * at) x 0 (omega arith));
  deep = λ z. sym (get_or-set_same (set ss (2 * at) x) (2 * at + 1) y 0 (omega (arith, length-set ss (2 * at) x)));
  leaves = l;
}

-- A node over leaves alone ends past the last of them and is one deep.
pub front-leaves : (os ss : List ℕ) (i first top run n : ℕ) → FirstSpan os ss i first top run → 0 < n → n ≤ run → spanned_by i n (row_of (drop (2 * i) os)) ≡ Some (record { end = i + n; depth = 1 })
unfolding spanned_by when◌then◌else◌
front-leaves os ss i first top run n k more few = go (row_of (drop (2 * i) os)) k.leaves
  where
    go : (r : Rowed) → LeavesAre run r → spanned_by i n r ≡ Some (record { end = i + n; depth = 1 })
    go faulty h = absurd h
    go (rowed f) h =
        let all : n ≤ leaves_f f = omega (arith, h) in
        rw (le-leb n (count f) (omega (arith, leaves-few f)), leaves_lines n f all, leaves-deep n f all more) refl

-- ---- a turn

module _ (os ss₀ ss : List ℕ) (line : ℕ) (b : Back os ss₀ ss line) (at c n : ℕ) (more : 0 < line) (before : at ≡ line - 1)
    (code : c ≡ get_or os (2 * line - 2) 0) (children : n ≡ get_or os (2 * line - 1) 0) where
  -- The row from the line on, by the row behind it.
  row_here : row_of (drop (2 * at) os) ≡ node_before (sound_node c n) c n (row_of (drop (2 * line) os))
  unfolding row_of
  row_here =
      let e : at + 1 ≡ line = omega arith in
      let x : 2 * line - 2 ≡ 2 * at = omega arith in
      let y : 2 * line - 1 ≡ 2 * at + 1 = omega arith in
      let c' : c ≡ get_or os (2 * at) 0 = code ∙ ap (λ (i : ℕ). get_or os i 0) x in
      let n' : n ≡ get_or os (2 * at + 1) 0 = children ∙ ap (λ (i : ℕ). get_or os i 0) y in
      ap row_of (two_words os at (omega (arith, b.low))) ∙ rw (e, c', n') refl

  -- A fault here is one of the whole.
  fault-here : row_of (drop (2 * at) os) ≡ faulty → tree_of os ≡ missing
  fault-here = fault-missing at os (omega (arith, b.low))

  -- A node out of range.
  pub back_unsound : sound_node c n ≡ false → tree_of os ≡ missing
  unfolding node_before
  back_unsound e = fault-here (row_here ∙ rw e refl)

  -- A node that lacks a child.
  pub back_lacking : None ≡ spanned_by line n (row_of (drop (2 * line) os)) → tree_of os ≡ missing
  unfolding spanned_by node_before when◌then◌else◌
  back_lacking e = go (row_of (drop (2 * line) os)) refl
    where
      by_count : (f : Forest) → row_of (drop (2 * line) os) ≡ rowed f → (x : Bool) → leb n (count f) ≡ x → tree_of os ≡ missing
      by_count f r true l = never (cc (rw (r, l) at e))
      by_count f r false l = fault-here (row_here ∙ rw r (lacks_child (sound_node c n) c n f l))

      go : (r : Rowed) → row_of (drop (2 * line) os) ≡ r → tree_of os ≡ missing
      go faulty r = absurd (rw r at b.are)
      go (rowed f) r = by_count f r (leb n (count f)) refl

  -- A node that has its children.
  pub back_next : (end₁ deep₁ : ℕ) → sound_node c n ≡ true → Some (record { end = end₁; depth = deep₁ }) ≡ spanned_by line n (row_of (drop (2 * line) os)) → Back os ss₀ (set (set ss (2 * at) end₁) (2 * at + 1) deep₁) at
  unfolding spanned_by node_before when◌then◌else◌
  back_next end₁ deep₁ e g = go (row_of (drop (2 * line) os)) refl
    where
      made : (f : Forest) → row_of (drop (2 * line) os) ≡ rowed f → leb n (count f) ≡ true → end₁ ≡ line + lines_f (first_trees n f) → deep₁ ≡ depth_f (first_trees n f)
          → Back os ss₀ (set (set ss (2 * at) end₁) (2 * at + 1) deep₁) at
      made f r l p q =
          let is : row_of (drop (2 * at) os) ≡ rowed (cons (node c (first_trees n f)) (later_trees n f)) = row_here ∙ rw (e, r, l) refl in
          let behind : drop (2 * line) (take (length os) ss) ≡ spans_from line (subtrees_f f) = rw r at b.are in
          record {
            even = b.even;
            room = rw (length-set (set ss (2 * at) end₁) (2 * at + 1) deep₁, length-set ss (2 * at) end₁) b.room;
            short = b.short;
            kept = length-set (set ss (2 * at) end₁) (2 * at + 1) deep₁ ∙ length-set ss (2 * at) end₁ ∙ b.kept;
            low = omega (arith, b.low);
            are = rw is (stored ss (length os) at line end₁ deep₁ (omega arith) (omega (arith, b.low)) b.room ∙ rw behind (node-spans at line c n f end₁ deep₁ (omega arith) p q));
          }

      by_count : (f : Forest) → row_of (drop (2 * line) os) ≡ rowed f → (x : Bool) → leb n (count f) ≡ x → Back os ss₀ (set (set ss (2 * at) end₁) (2 * at + 1) deep₁) at
      by_count f r true l =
          let same : Some (record { end = end₁; depth = deep₁ }) ≡ Some (record { end = line + lines_f (first_trees n f); depth = depth_f (first_trees n f) }) = rw (r, l) at g in
          made f r l (ap end_of same) (ap depth-of same)
      by_count f r false l = never (cc (rw (r, l) at g))

      go : (r : Rowed) → row_of (drop (2 * line) os) ≡ r → Back os ss₀ (set (set ss (2 * at) end₁) (2 * at + 1) deep₁) at
      go faulty r = absurd (rw r at b.are)
      go (rowed f) r = by_count f r (leb n (count f)) refl

  -- A leaf ends where the next line begins.
  pub leaf_spans : n ≡ 0 → Some (record { end = line; depth = 0 }) ≡ spanned_by line n (row_of (drop (2 * line) os))
  unfolding spanned_by when◌then◌else◌ first_trees lines_f depth_f
  leaf_spans e = go (row_of (drop (2 * line) os)) b.are
    where
      go : (r : Rowed) → SpansAre line (drop (2 * line) (take (length os) ss)) r → Some (record { end = line; depth = 0 }) ≡ spanned_by line n r
      go faulty h = absurd h
      go (rowed f) h = rw (e, le-leb 0 (count f) (omega arith), add-zero line) refl

  -- A leaf is one more of those that begin there.
  pub front-leaf : (first top run : ℕ) → FirstSpan os ss line first top run → sound_node c n ≡ true → n ≡ 0 → FirstSpan os (set (set ss (2 * at) line) (2 * at + 1) 0) at line 0 (run + 1)
  unfolding node_before when◌then◌else◌
  front-leaf first top run k e z = front-written os ss at line 0 (run + 1) (omega (arith, b.low, b.room)) (go (row_of (drop (2 * line) os)) refl k.leaves)
    where
      go : (r : Rowed) → row_of (drop (2 * line) os) ≡ r → LeavesAre run r → LeavesAre (run + 1) (row_of (drop (2 * at) os))
      go faulty r h = absurd h
      go (rowed f) r h =
          let is : row_of (drop (2 * at) os) ≡ rowed (cons (node c (first_trees 0 f)) (later_trees 0 f)) = row_here ∙ rw (e, r, z, le-leb 0 (count f) (omega arith)) refl in
          rw is (omega (arith, h, leaf_more c f))

  -- A node that has children is no leaf.
  pub front-node : (first top run end₁ deep₁ : ℕ) → FirstSpan os ss line first top run → sound_node c n ≡ true → 0 < n → Some (record { end = end₁; depth = deep₁ }) ≡ spanned_by line n (row_of (drop (2 * line) os))
      → FirstSpan os (set (set ss (2 * at) end₁) (2 * at + 1) deep₁) at end₁ deep₁ 0
  unfolding spanned_by node_before when◌then◌else◌
  front-node first top run end₁ deep₁ k e z g = front-written os ss at end₁ deep₁ 0 (omega (arith, b.low, b.room)) (go (row_of (drop (2 * line) os)) refl k.leaves)
    where
      by_count : (f : Forest) → row_of (drop (2 * line) os) ≡ rowed f → (x : Bool) → leb n (count f) ≡ x → LeavesAre 0 (row_of (drop (2 * at) os))
      by_count f r true l =
          let is : row_of (drop (2 * at) os) ≡ rowed (cons (node c (first_trees n f)) (later_trees n f)) = row_here ∙ rw (e, r, l) refl in
          rw is (sym (leaf_none c n f z (leb-true _ _ l)))
      by_count f r false l = never (cc (rw (r, l) at g))

      go : (r : Rowed) → row_of (drop (2 * line) os) ≡ r → LeavesAre run r → LeavesAre 0 (row_of (drop (2 * at) os))
      go faulty r h = absurd h
      go (rowed f) r h = by_count f r (leb n (count f)) refl

-- What is known of the lines behind is known of equals.
pub back_equal : (os ss₀ ss ss₁ : List ℕ) (line first first₁ top top₁ run run₁ : ℕ) → ss ≡ ss₁ → first ≡ first₁ → top ≡ top₁ → run ≡ run₁
    → Back os ss₀ ss₁ line × FirstSpan os ss₁ line first₁ top₁ run₁ → Back os ss₀ ss line × FirstSpan os ss line first top run
back_equal os ss₀ ss ss₁ line first first₁ top top₁ run run₁ a b c d h = rw (a, b, c, d) h

-- What a node comes to is no more than there are lines.
pub back_small : (os ss₀ ss : List ℕ) (line n e d : ℕ) → Back os ss₀ ss line → Some (record { end = e; depth = d }) ≡ spanned_by line n (row_of (drop (2 * line) os)) → (e ≤ length os / 2) × (d ≤ length os / 2)
unfolding spanned_by when◌then◌else◌
back_small os ss₀ ss line n e d b g = go (row_of (drop (2 * line) os)) refl
  where
    by_count : (f : Forest) → row_of (drop (2 * line) os) ≡ rowed f → (x : Bool) → leb n (count f) ≡ x → (e ≤ length os / 2) × (d ≤ length os / 2)
    by_count f r true l =
        let same : Some (record { end = e; depth = d }) ≡ Some (record { end = line + lines_f (first_trees n f); depth = depth_f (first_trees n f) }) = rw (r, l) at g in
        let are : drop (2 * line) (take (length os) ss) ≡ spans_from line (subtrees_f f) = rw r at b.are in
        let long = lines_left os ss line f b.room are in
        (omega (arith, ap end_of same, first-lines n f, b.even, b.low), omega (arith, ap depth-of same, depth_f_lines (first_trees n f), first-lines n f, b.even, b.low))
    by_count f r false l = never (cc (rw (r, l) at g))

    go : (r : Rowed) → row_of (drop (2 * line) os) ≡ r → (e ≤ length os / 2) × (d ≤ length os / 2)
    go faulty r = absurd (rw r at b.are)
    go (rowed f) r = by_count f r (leb n (count f)) refl

-- There are no more leaves than lines.
pub front-small : (os ss₀ ss : List ℕ) (line first top run : ℕ) → Back os ss₀ ss line → FirstSpan os ss line first top run → run ≤ length os / 2
front-small os ss₀ ss line first top run b k = go (row_of (drop (2 * line) os)) b.are k.leaves
  where
    go : (r : Rowed) → SpansAre line (drop (2 * line) (take (length os) ss)) r → LeavesAre run r → run ≤ length os / 2
    go faulty are h = absurd h
    go (rowed f) are h =
        omega (arith, h, leaves-short f, lines_left os ss line f b.room are, b.even, b.low)

-- All lines are measured.
pub back_all : (os ss₀ ss : List ℕ) (line : ℕ) → Back os ss₀ ss line → line ≡ 0 → SpansAre 0 (take (length os) ss) (row_of os)
back_all os ss₀ ss line b e = rw e at b.are

-- ---- all lines

-- A row has two words in the scratch for each of its lines.
row-long : (os ss : List ℕ) (f : Forest) → length os ≤ length ss → take (length os) ss ≡ spans_from 0 (subtrees_f f) → length os ≡ 2 * lines_f f
row-long os ss f room e = omega (arith, lines_left os ss 0 f room e)

-- The words are a row that is measured.
module _ (os ss : List ℕ) (even : 2 * (length os / 2) ≡ length os) (room : length os ≤ length ss) (are : SpansAre 0 (take (length os) ss) (row_of os)) where
  -- The row, and how long it is.
  record Whole : Type 0 where
    row : Forest
    is : row_of os ≡ rowed row
    spans : take (length os) ss ≡ spans_from 0 (subtrees_f row)
    long : length os ≡ 2 * lines_f row

  whole : Whole
  whole = go (row_of os) refl
    where
      go : (r : Rowed) → row_of os ≡ r → Whole
      go faulty e = absurd (rw e at are)
      go (rowed f) e = let h : take (length os) ss ≡ spans_from 0 (subtrees_f f) = rw e at are in record { row = f; is = e; spans = h; long = row-long os ss f room h }

  -- Words that are not a row of one tree are none.
  other : ((t : Tree) → whole.row ≡ cons t bare → ⊥) → tree_of os ≡ missing
  other n = row-missing os (λ t e. n t (let z : rowed whole.row ≡ rowed (cons t bare) = sym whole.is ∙ e in cc))

  -- No words are no tree.
  pub whole-none : length os < 2 → tree_of os ≡ missing
  unfolding lines_f
  whole-none h = other (λ t e. omega (arith, whole.long, ap lines_f e, some-line t))

  -- The first line's words.
  first-here : (t : Tree) (f : Forest) → whole.row ≡ cons t f → 2 ≤ length os → (get_or ss 0 0 ≡ lines t) × (get_or ss 1 0 ≡ depth t)
  first-here t f e h =
      let z : take (length os) ss ≡ spans_from 0 (subtrees_f (cons t f)) = whole.spans ∙ ap (λ (g : Forest). spans_from 0 (subtrees_f g)) e in (
        omega (arith, sym (get_or-take (length os) ss 0 0 (omega arith)) ∙ ap (λ (l : List ℕ). get_or l 0 0) z ∙ (first-words 0 t f).0),
        sym (get_or-take (length os) ss 1 0 (omega arith)) ∙ ap (λ (l : List ℕ). get_or l 1 0) z ∙ (first-words 0 t f).1,
      )

  -- More lines than the first tree has are more trees.
  pub whole-more : 2 ≤ length os → (get_or ss 0 0 ≡ length os / 2 → ⊥) → tree_of os ≡ missing
  unfolding lines_f
  whole-more h n = other (λ t e. n ((first-here t bare e h).0 ∙ omega (arith, whole.long, ap lines_f e)))

  -- As many are one tree.
  pub whole-one : 2 ≤ length os → get_or ss 0 0 ≡ length os / 2 → measured_of (tree_of os) ≡ Some (get_or ss 1 0)
  unfolding lines_f measured_of
  whole-one h e = go whole.row refl
    where
      go : (f : Forest) → whole.row ≡ f → measured_of (tree_of os) ≡ Some (get_or ss 1 0)
      go bare r = absurd (omega (arith, whole.long, ap lines_f r))
      go (cons t bare) r = rw (row-tree os t (whole.is ∙ ap rowed r), (first-here t bare r h).1) refl
      go (cons t (cons u f)) r = absurd (omega (arith, whole.long, ap lines_f r, (first-here t (cons u f) r h).0, some-line u))

  -- Of a tree all lines are measured.
  pub whole-listed : (t : Tree) → tree_of os ≡ found t → take (length os) ss ≡ spans_from 0 (subtrees t)
  unfolding subtrees_f
  whole-listed t e =
      let z : rowed whole.row ≡ rowed (cons t bare) = sym whole.is ∙ tree-row os t e in
      let y : whole.row ≡ cons t bare = cc in
      whole.spans ∙ ap (λ (g : Forest). spans_from 0 (subtrees_f g)) y ∙ ap (spans_from 0) (append-nil (subtrees t))

-- ---- what words come to, and the tree that they are

-- Words that are no tree are answered so, and nothing is to be listed.
pub no_tree : (os ss : List ℕ) → tree_of os ≡ missing → (None ≡ measured_of (tree_of os)) × ((t : Tree) → tree_of os ≡ found t → take (length os) ss ≡ spans_from 0 (subtrees t))
unfolding measured_of
no_tree os ss e = (rw e refl, λ t f. never (cc (e, f)))

-- Where words come to nothing there is no tree.
pub broken-missing : (x : TreeFound) → measured_of x ≡ None → x ≡ missing
unfolding measured_of
broken-missing missing e = refl
broken-missing (found t) e = never cc

-- Where they come to a depth, there is a tree of that depth.
pub measured_found : (x : TreeFound) (d : ℕ) → measured_of x ≡ Some d → FoundDeep x d
unfolding measured_of
measured_found missing d e = never cc
measured_found (found t) d e = record { tree = t; is = refl; deep = cc }

-- The spans of an order's lines are those of its tree.
pub spans-of : (os : List ℕ) (t : Tree) → order_of os ≡ order t → spans_in os ≡ spans_from 0 (subtrees t)
unfolding spans_in by_order
spans-of os t e = rw e

-- Spans that are those of any tree that is read are the order's.
pub gone-over : (os ss : List ℕ) → ((t : Tree) → tree_of os ≡ found t → take (length os) ss ≡ spans_from 0 (subtrees t)) → cause_of os ≡ done → GoneOver os ss
gone-over os ss h e =
    let t = (has-tree os e).tree in
    let p = (has-tree os e).passes in
    record { sound = e; spans = h t (ap tree_of p.spelt ∙ words-read t p.good) ∙ sym (spans-of os t p.is) }
