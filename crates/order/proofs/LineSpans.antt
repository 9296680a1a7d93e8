-- A line of an order that was gone over: what the scratch says of its subtree, and what waits from the line on. Assumes nothing.
use Prim.Native.Nat.{ℕ, zero, suc, ◌+◌, ◌-◌, ◌*◌, ◌/◌, ◌≤◌, ◌<◌}
use mathlib.Core.Path.{◌≡◌, refl, ap, sym, ◌∙◌}
use mathlib.Core.List.{List, [], ◌∷◌}
use native.Mathlib.Nat.{zero-add, add-zero}
use native.Mathlib.Omega.{arith}
use lib.Dec.{leb}
use lib.ListN.{length, drop, get_or, length-take}
use lib.Seq.{drop-nil, get_or-take, get_or-drop}
use Rattle.words.proofs.Tests.{never}
use Rattle.figures.specs.Limits.{greatest_depth}
use Rattle.figures.specs.Numbers.{done}
use Rattle.order.specs.Trees.{Tree, node, Forest, words, depth, cut, subtrees}
use Rattle.order.specs.Reading.{found, cause_of}
use Rattle.order.specs.Parts.{is_low}
use Rattle.order.specs.Standing.{tree_from, cut_of, At, place_of}
use Rattle.order.specs.Levels.{levels_in, LinesLevelled}
use Rattle.order.specs.Spans.{lines, spans_from, spans_in, GoneOver}
use Rattle.order.specs.Answers.{tree_at}
use Rattle.order.proofs.Orders.{size}
use Rattle.order.proofs.Causes.{Passed, has-tree}
use Rattle.order.proofs.Lines.{line-spot, from_spot, cut-spot, next-tree, HasLine, placed, StandsAt, stands_at}
use Rattle.order.proofs.Spots.{two_words-a_line}
use Rattle.order.proofs.Spanning.{spans-long, lines-subtrees, spans-of}
use Rattle.order.proofs.Levels.{levels_count, level-within, levels_of_lem}
use Rattle.order.proofs.Waiting.{Waiting, waits, words_w, subtrees_w, levels_w, open_subtrees, open_levels, waiting_at}

-- ---- the spans

-- What the scratch says of the tree at a place of a list.
spans-at : (ts : List Tree) (i j : ℕ) (s : Tree) → tree_at ts i ≡ found s → (get_or (spans_from j ts) (i * 2) 0 ≡ j + i + lines s) × (get_or (spans_from j ts) (i * 2 + 1) 0 ≡ depth s)
unfolding tree_at spans_from
spans-at [] i j s e = never cc
spans-at (t ∷ ts) zero j s e = let z : t ≡ s = cc in (rw z (omega arith), rw z refl)
spans-at (t ∷ ts) (suc i) j s e =
    let a : suc i * 2 ≡ suc (suc (i * 2)) = omega arith in
    let b : suc i * 2 + 1 ≡ suc (suc (i * 2 + 1)) = omega arith in
    let r = spans-at ts i (suc j) s e in
    (rw a (r.0 ∙ omega arith), rw b r.1)

-- Behind the first places it says what it says of the trees behind.
pub spans-behind : (i j : ℕ) (ts : List Tree) → drop (i * 2) (spans_from j ts) ≡ spans_from (j + i) (drop i ts)
unfolding spans_from
spans-behind zero j ts = let z : j + 0 ≡ j = omega arith in rw z refl
spans-behind (suc i) j [] = drop-nil (suc i * 2)
spans-behind (suc i) j (t ∷ ts) =
    let a : suc i * 2 ≡ suc (suc (i * 2)) = omega arith in
    let b : j + suc i ≡ suc j + i = omega arith in
    rw (a, b) (spans-behind i (suc j) ts)

-- There are as many words as the order has.
spans-size : (os : List ℕ) (t : Tree) → Passed os t → length (spans_in os) ≡ length os
spans-size os t p = omega (arith, ap length (spans-of os t p.is), spans-long 0 (subtrees t), two_words-a_line os t p)

module _ (os ss : List ℕ) (over : GoneOver os ss) where
  -- The scratch has room for them.
  pub spans-room : length os ≤ length ss
  spans-room =
      let x = has-tree os over.sound in
      omega (arith, spans-size os x.tree x.passes, ap length over.spans, length-take (length os) ss)

  -- A word of them is the one that is read.
  pub span-read : (i : ℕ) → i < length os → get_or ss i 0 ≡ get_or (spans_in os) i 0
  span-read i h = sym (get_or-take (length os) ss i 0 h) ∙ ap (λ (l : List ℕ). get_or l i 0) over.spans

  -- What is read of a line: the line past its subtree, and how deep that is.
  pub span-is : (line : ℕ) (s : Tree) → line < length os / 2 → tree_from os (line * 2) ≡ found s
      → (get_or ss (line * 2) 0 ≡ line + length (subtrees s)) × (get_or ss (line * 2 + 1) 0 ≡ depth s)
  span-is line s h e =
      let x = has-tree os over.sound in
      let q = line-spot os x.tree line x.passes (omega (arith, two_words-a_line os x.tree x.passes)) in
      let both : found q.tree ≡ found s = sym (from_spot os (line * 2) _ q) ∙ e in
      let is : q.tree ≡ s = cc in
      let r = spans-at (subtrees x.tree) line 0 s (q.is ∙ both) in
      let all = spans-of os x.tree x.passes.is in (
        span-read (line * 2) (omega arith) ∙ ap (λ (l : List ℕ). get_or l (line * 2) 0) all ∙ omega (arith, r.0, lines-subtrees s),
        span-read (line * 2 + 1) (omega arith) ∙ ap (λ (l : List ℕ). get_or l (line * 2 + 1) 0) all ∙ r.1,
      )

  -- The word past its subtree.
  pub span-end : (line : ℕ) (s : Tree) → line < length os / 2 → tree_from os (line * 2) ≡ found s → get_or ss (line * 2) 0 * 2 ≡ line * 2 + length (words s)
  span-end line s h e = omega (arith, (span-is line s h e).0, size s)

  -- Whether it stands for a low part.
  pub span-low : (k line : ℕ) (s : Tree) → line < length os / 2 → tree_from os (line * 2) ≡ found s → leb (get_or ss (line * 2 + 1) 0) (k - 2) ≡ is_low k s
  unfolding is_low
  span-low k line s h e = ap (λ (n : ℕ). leb n (k - 2)) (span-is line s h e).1

-- What is known of a line of an order that was found at a word: it stands there, and by its span where its subtree ends and how deep that is.
pub record FoundLine (os ss : List ℕ) (line at : ℕ) : Type 0 where
  pub has : HasLine os line at
  pub stands : StandsAt os line at
  pub within : at / 2 < length os / 2
  pub even : at / 2 * 2 ≡ at
  pub ends : get_or ss (at / 2 * 2) 0 * 2 ≡ at + length (words has.spot.tree)
  pub deep : get_or ss (at / 2 * 2 + 1) 0 ≡ depth has.spot.tree

-- So it is where a call has found it, for the order that was gone over.
pub found-line : (os ss : List ℕ) (line at : ℕ) → GoneOver os ss → At at ≡ place_of os line → FoundLine os ss line at
found-line os ss line at over e =
    let h : HasLine os line at = placed os line (At at) (At at) e refl in
    let p : StandsAt os line at = stands_at os line at (sym e) in
    let few : at / 2 < length os / 2 = omega (arith, p.some, p.has, p.word) in
    let even : at / 2 * 2 ≡ at = omega (arith, p.word) in
    let here : tree_from os (at / 2 * 2) ≡ found h.spot.tree = ap (tree_from os) even ∙ from_spot os at _ h.spot in
    record {
      has = h;
      stands = p;
      within = few;
      even = even;
      ends = span-end os ss over (at / 2) h.spot.tree few here ∙ ap (λ (n : ℕ). n + length (words h.spot.tree)) even;
      deep = (span-is os ss over (at / 2) h.spot.tree few here).1;
    }

-- ---- the levels

module _ (os ls : List ℕ) (sound : cause_of os ≡ done) (levelled : LinesLevelled os ls) where
  -- There is one for each line.
  levels_size : length (levels_in os) ≡ length os / 2
  levels_size =
      let x = has-tree os sound in
      omega (arith, ap length (levels_of_lem os x.tree x.passes.is), levels_count x.tree 0, two_words-a_line os x.tree x.passes)

  -- The scratch has room for them.
  pub levels_room : length os / 2 ≤ length ls
  levels_room = omega (arith, levels_size, ap length levelled, length-take (length os / 2) ls)

  -- The level of a line is the one that is read.
  pub level-read : (i : ℕ) → i < length os / 2 → get_or ls i 0 ≡ get_or (levels_in os) i 0
  level-read i h = sym (get_or-take (length os / 2) ls i 0 h) ∙ ap (λ (l : List ℕ). get_or l i 0) levelled

  -- It is at most 12.
  pub level-small : (i : ℕ) → i < length os / 2 → get_or ls i 0 ≤ greatest_depth
  level-small i h =
      let x = has-tree os sound in
      let n : i < length (subtrees x.tree) = omega (arith, two_words-a_line os x.tree x.passes) in
      omega (arith, level-within x.tree i n, x.passes.deep, ap (λ (l : List ℕ). get_or l i 0) (levels_of_lem os x.tree x.passes.is), level-read i h)

-- ---- what waits

-- A line of an order: its node, its level, and what waits behind its subtree; by the order's words, spans and levels.
pub record LineOpen (os : List ℕ) (line : ℕ) : Type 0 where
  pub code : ℕ
  pub row : Forest
  pub level : ℕ
  pub others : Waiting
  pub words_are : drop (line * 2) os ≡ words_w (waits (node code row) level others)
  pub spans-are : drop (line * 2) (spans_in os) ≡ spans_from line (subtrees_w (waits (node code row) level others))
  pub levels_are : drop line (levels_in os) ≡ levels_w (waits (node code row) level others)
  pub cut-is : (d : ℕ) → cut_of os (line * 2) d ≡ words (cut (node code row) d)

-- Every line that an order has.
pub line-open : (os : List ℕ) (line : ℕ) → cause_of os ≡ done → line < length os / 2 → LineOpen os line
line-open os line e h =
    let t = (has-tree os e).tree in
    let p = (has-tree os e).passes in
    let few : line < length (subtrees t) = omega (arith, two_words-a_line os t p) in
    let w = waiting_at t line few in
    let s = line-spot os t line p few in
    let u : Tree = node w.code w.row in
    let both : found s.tree ≡ found u =
    sym s.is ∙ next-tree (subtrees t) line u _ (w.subtrees-are ∙ open_subtrees w.code w.row w.level w.others) in
    let is : s.tree ≡ u = cc in
    record {
      code = w.code;
      row = w.row;
      level = w.level;
      others = w.others;
      words_are = ap (drop (line * 2)) p.spelt ∙ w.words_are;
      spans-are = ap (drop (line * 2)) (spans-of os t p.is) ∙ spans-behind line 0 (subtrees t) ∙ ap (λ (n : ℕ). spans_from n (drop line (subtrees t))) (zero-add line) ∙ ap (spans_from line) w.subtrees-are;
      levels_are = ap (drop line) (levels_of_lem os t p.is) ∙ w.levels_are;
      cut-is = λ d. cut-spot os (line * 2) _ s d ∙ ap (λ (v : Tree). words (cut v d)) is;
    }

-- The word at a place is the first of those from there on.
first : (l : List ℕ) (n : ℕ) (ws : List ℕ) → drop n l ≡ ws → get_or l n 0 ≡ get_or ws 0 0
first l n ws e = ap (λ (m : ℕ). get_or l m 0) (sym (add-zero n)) ∙ sym (get_or-drop n l 0 0) ∙ ap (λ (r : List ℕ). get_or r 0 0) e

-- What is read of the line: where its subtree ends, and its level.
pub line-starts : (os ss ls : List ℕ) (line : ℕ) (over : GoneOver os ss) (levelled : LinesLevelled os ls) (h : line < length os / 2)
    → let o = line-open os line over.sound h in
    (get_or ss (line * 2) 0 ≡ line + length (subtrees (node o.code o.row))) × (o.level ≡ get_or ls line 0)
unfolding spans_from
line-starts os ss ls line over levelled h =
    let o = line-open os line over.sound h in
    let ts = o.spans-are ∙ ap (spans_from line) (open_subtrees o.code o.row o.level o.others) in (
      span-read os ss over (line * 2) (omega arith) ∙ first (spans_in os) (line * 2) _ ts ∙ sym (ap (λ (n : ℕ). line + n) (lines-subtrees (node o.code o.row))),
      sym (level-read os ls over.sound levelled line h ∙ first (levels_in os) line _ (o.levels_are ∙ open_levels o.code o.row o.level o.others)),
    )
