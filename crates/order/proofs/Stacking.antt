-- A row of trees by the stack of their depths: what taking a node's children from it leaves, and what is found once all nodes are gone over. Assumes nothing.
use Rattle.std.specs.Prelude.{None, Some, Option}
use Prim.Native.Nat.{ℕ, zero, suc, ◌+◌, ◌*◌, ◌-◌, ◌/◌, ◌≤◌, ◌<◌, max}
use mathlib.Core.Path.{◌≡◌, refl, sym, ap, subst, ◌∙◌}
use mathlib.Core.Bool.{Bool, true, false}
use mathlib.Core.List.{List, [], ◌∷◌, ◌++◌}
use native.Mathlib.Omega.{arith}
use borrow.Author.Tests.{le-leb, lt-leb, leb-true}
use lib.Dec.{leb}
use lib.ListN.{length, take, drop, get_or, set, length-set, length-append, length-drop, drop_of_length-le, get_or-append}
use lib.Seq.{length-take-le, take_all, take-nil, take-take, take-append-le, drop-append-le, get_or_at, get_or-take, get_or-drop, take-suc-set}
use Rattle.order.specs.declared.Popped.{Popped}
use Rattle.words.proofs.Tests.{never, by_test}
use Rattle.words.specs.Base.{when◌then◌else◌}
use Rattle.figures.specs.Nodes.{sound_node}
use Rattle.figures.specs.Limits.{most_words}
use Rattle.order.specs.Trees.{node, Forest, bare, cons, count, depth, depth_f}
use Rattle.order.specs.Reading.{first_trees, later_trees, missing, tree_of}
use Rattle.order.specs.Spans.{Rowed, faulty, rowed, node_before, row_of, leaves_f, measured_of, stack_of, StackIs, popped_by}
use Rattle.order.proofs.Rowing.{row-tree, row-missing, lacks_child, fault-missing, node-words}
use Rattle.order.proofs.Leaves.{leaves-few, leaves-deep, leaf_more, leaf_none}

-- ---- the depths of a row's trees

-- A word for each tree.
stack_long : (f : Forest) → length (stack_of f) ≡ count f
unfolding stack_of count
stack_long bare = refl
stack_long (cons t f) = omega (arith, stack_long f, length-append (stack_of f) (depth t ∷ []))

-- The words of the trees past the first n are the first ones.
stack_later : (n : ℕ) (f : Forest) → n ≤ count f → (count (later_trees n f) ≡ count f - n) × (take (count f - n) (stack_of f) ≡ stack_of (later_trees n f))
unfolding stack_of count later_trees
stack_later zero f h = (omega arith, take_all (count f - 0) (stack_of f) (omega (arith, stack_long f)))
stack_later (suc n) bare h = absurd (omega arith)
stack_later (suc n) (cons t f) h =
    let r = stack_later n f (omega arith) in
    let z : suc (count f) - suc n ≡ count f - n = omega arith in
    (omega (arith, r.0), rw z (take-append-le (count f - n) (stack_of f) (depth t ∷ []) (omega (arith, stack_long f)) ∙ r.1))

-- A node over one tree more is as deep as the one before, or as one over that tree.
first_more : (j : ℕ) (f : Forest) → j < count f → depth_f (first_trees (suc j) f) ≡ max (depth_f (first_trees j f)) (suc (get_or (stack_of f) (count f - suc j) 0))
unfolding stack_of count first_trees depth_f
first_more j bare h = absurd (omega arith)
first_more zero (cons t f) h =
    let z : suc (count f) - 1 ≡ count f = omega arith in
    let d : get_or (stack_of f ++ (depth t ∷ [])) (count f) 0 ≡ depth t = get_or_at (stack_of f) (depth t) [] 0 (count f) (stack_long f) in
    rw (z, d) (omega arith)
first_more (suc j) (cons t f) h =
    let z : suc (count f) - suc (suc j) ≡ count f - suc j = omega arith in
    let d : get_or (stack_of f ++ (depth t ∷ [])) (count f - suc j) 0 ≡ get_or (stack_of f) (count f - suc j) 0 = get_or-append (stack_of f) (depth t ∷ []) 0 (count f - suc j) (omega (arith, stack_long f)) in
    rw (z, d) (omega (arith, first_more j f (omega arith)))

-- ---- what taking children from a row comes to

module _ (many top run : ℕ) (ss : List ℕ) (f : Forest) (b : StackIs many top run ss f) where
  -- The words that are the depths stand one further on among all, behind which `top` is put.
  word_of : (i : ℕ) → get_or (stack_of f) i 0 ≡ get_or (take many ss ++ (top ∷ [])) (1 + i) 0
  word_of i = ap (λ (l : List ℕ). get_or l i 0) (sym b.depths) ∙ get_or-drop 1 (take many ss ++ (top ∷ [])) i 0

  -- All children are leaves.
  pub leaves-popped : (n taken : ℕ) → taken ≡ n → n ≤ run → 0 < n → Some (record { many = many + 1 - taken; depth = 1 }) ≡ popped_by n f
  unfolding popped_by when◌then◌else◌
  leaves-popped n taken w h more =
      let l : n ≤ leaves_f f = omega (arith, b.leaves) in
      let k : count f + 1 - n ≡ many + 1 - taken = omega (arith, b.counted) in
      rw (le-leb n (count f) (omega (arith, leaves-few f)), leaves-deep n f l more, k) refl

  -- A child is lacking.
  pub none-popped : (n : ℕ) → many < n → None ≡ popped_by n f
  unfolding popped_by when◌then◌else◌
  none-popped n h = rw (lt-leb n (count f) (omega (arith, b.counted))) refl

  module _ (low : many ≤ length ss) where
    -- The first tree is taken.
    pub first_popped : 0 < many → top + 1 ≡ depth_f (first_trees 1 f)
    unfolding first_trees depth_f
    first_popped more =
        let k : 1 + (count f - 1) ≡ many = omega (arith, b.counted) in
        let d : get_or (take many ss ++ (top ∷ [])) many 0 ≡ top = get_or_at (take many ss) top [] 0 many (length-take-le many ss low) in
        let w : get_or (stack_of f) (count f - 1) 0 ≡ top = word_of (count f - 1) ∙ ap (λ (j : ℕ). get_or (take many ss ++ (top ∷ [])) j 0) k ∙ d in
        omega (arith, first_more 0 f (omega (arith, b.counted)), w)

    -- One more tree is taken: its word stands before that of the last taken.
    pub one-popped : (at deep : ℕ) → at ≤ many → 1 < at → deep ≡ depth_f (first_trees (suc (many - at)) f) → max deep (suc (get_or ss (at - 1) 0)) ≡ depth_f (first_trees (suc (many - (at - 1))) f)
    one-popped at deep h more e =
        let z : many - (at - 1) ≡ suc (many - at) = omega arith in
        let i : count f - suc (suc (many - at)) ≡ at - 2 = omega (arith, b.counted) in
        let k : 1 + (at - 2) ≡ at - 1 = omega arith in
        let l : get_or (take many ss ++ (top ∷ [])) (at - 1) 0 ≡ get_or (take many ss) (at - 1) 0 = get_or-append (take many ss) (top ∷ []) 0 (at - 1) (omega (arith, length-take-le many ss low)) in
        let w : get_or (stack_of f) (at - 2) 0 ≡ get_or ss (at - 1) 0 =
        word_of (at - 2) ∙ ap (λ (j : ℕ). get_or (take many ss ++ (top ∷ [])) j 0) k ∙ l ∙ get_or-take many ss (at - 1) 0 (omega arith) in
        let m : depth_f (first_trees (suc (suc (many - at))) f) ≡ max (depth_f (first_trees (suc (many - at)) f)) (suc (get_or ss (at - 1) 0)) =
        first_more (suc (many - at)) f (omega (arith, b.counted)) ∙ ap (λ (j : ℕ). max (depth_f (first_trees (suc (many - at)) f)) (suc (get_or (stack_of f) j 0))) i ∙ ap (λ (d : ℕ). max (depth_f (first_trees (suc (many - at)) f)) (suc d)) w in
        rw (z, m, e) refl

  -- All children are taken.
  pub all-popped : (n taken at deep : ℕ) → taken ≡ n → 0 < n → taken ≤ many → at ≡ many + 1 - taken → deep ≡ depth_f (first_trees (suc (many - at)) f) → Some (record { many = many + 1 - taken; depth = deep }) ≡ popped_by n f
  unfolding popped_by when◌then◌else◌
  all-popped n taken at deep w more h a e =
      let k : count f + 1 - n ≡ many + 1 - taken = omega (arith, b.counted) in
      let m : suc (many - at) ≡ n = omega arith in
      let d : deep ≡ depth_f (first_trees n f) = e ∙ ap (λ (j : ℕ). depth_f (first_trees j f)) m in
      rw (le-leb n (count f) (omega (arith, b.counted)), k) (ap (λ (d : ℕ). Some (record { many = many + 1 - taken; depth = d })) d)

-- ---- what is known once a node is put before a row

-- A depth put behind words leaves the first word where it is.
put_behind : (ws : List ℕ) (d : ℕ) → 0 < length ws → drop 1 (ws ++ (d ∷ [])) ≡ drop 1 ws ++ (d ∷ [])
put_behind ws d h = drop-append-le 1 ws (d ∷ []) (omega arith)

-- The first words past one, taken in either order.
take-tail : (n : ℕ) (ws : List ℕ) → take n (drop 1 ws) ≡ drop 1 (take (suc n) ws)
take-tail n [] = take-nil n
take-tail n (w ∷ ws) = refl

module _ (many top run : ℕ) (ss : List ℕ) (f : Forest) (b : StackIs many top run ss f) where
  -- A leaf: the depth of the tree behind it comes upon the stack.
  leaf_put : many < length ss → (c : ℕ) → StackIs (many + 1) 0 (run + 1) (set ss many top) (cons (node c (first_trees 0 f)) (later_trees 0 f))
  unfolding stack_of count depth depth_f first_trees later_trees
  leaf_put room c =
      let one : many + 1 ≡ suc many = omega arith in
      let ws : List ℕ = take many ss ++ (top ∷ []) in
      let p : take (many + 1) (set ss many top) ≡ ws = rw one (take-suc-set ss many top room) in
      let long : length ws ≡ length (take many ss) + 1 = length-append (take many ss) (top ∷ []) in
      record {
        counted = omega (arith, b.counted);
        depths = rw p (put_behind ws 0 (omega (arith, long)) ∙ ap (λ (l : List ℕ). l ++ (0 ∷ [])) b.depths);
        leaves = omega (arith, b.leaves, leaf_more c f);
      }

  -- A node that has its children: it is the first tree before those left.
  node-put : many ≤ length ss → (c n rest deep : ℕ) → 0 < n → n ≤ count f → rest ≡ count f + 1 - n → deep ≡ depth_f (first_trees n f) → StackIs rest deep 0 ss (cons (node c (first_trees n f)) (later_trees n f))
  unfolding stack_of count depth
  node-put low c n rest deep more h r d =
      let l = stack_later n f h in
      let k : rest ≡ suc (count f - n) = omega arith in
      let p : drop 1 (take rest ss) ≡ stack_of (later_trees n f) =
      ap (λ (j : ℕ). drop 1 (take j ss)) k
      ∙ ap (drop 1) (sym (take-take (suc (count f - n)) many ss (omega (arith, b.counted))) ∙ sym (take-append-le (suc (count f - n)) (take many ss) (top ∷ []) (omega (arith, b.counted, length-take-le many ss low))))
      ∙ sym (take-tail (count f - n) (take many ss ++ (top ∷ [])))
      ∙ ap (take (count f - n)) b.depths
      ∙ l.1 in
      record {
        counted = omega (arith, l.0);
        depths = put_behind (take rest ss) deep (omega (arith, length-take-le rest ss (omega (arith, b.counted)))) ∙ ap (λ (l : List ℕ). l ++ (deep ∷ [])) p ∙ ap (λ (d : ℕ). stack_of (later_trees n f) ++ (d ∷ [])) d;
        leaves = sym (leaf_none c n f more h);
      }

-- ---- a row is no longer, and no deeper, than it has nodes

-- The first trees of a row, and the later ones, are no deeper than all.
first-shallow : (n : ℕ) (f : Forest) → depth_f (first_trees n f) ≤ depth_f f
unfolding depth_f first_trees
first-shallow zero f = omega arith
first-shallow (suc n) bare = omega arith
first-shallow (suc n) (cons t f) = omega (arith, first-shallow n f)

later-small : (n : ℕ) (f : Forest) → (depth_f (later_trees n f) ≤ depth_f f) × (count (later_trees n f) ≤ count f)
unfolding depth_f later_trees count
later-small zero f = (omega arith, omega arith)
later-small (suc n) bare = (omega arith, omega arith)
later-small (suc n) (cons t f) = (omega (arith, (later-small n f).0), omega (arith, (later-small n f).1))

-- Each tree has a node, of two words, and so has each depth below the top.
abbrev Small : List ℕ → Rowed → Type 0
Small ws faulty = Unit {0}
Small ws (rowed f) = (2 * count f ≤ length ws) × (2 * depth_f f ≤ length ws)

small-node : (b : Bool) (c n : ℕ) (ws : List ℕ) (r : Rowed) → Small ws r → Small (c ∷ n ∷ ws) (node_before b c n r)
unfolding node_before when◌then◌else◌ count depth_f depth
small-node false c n ws r h = tt
small-node true c n ws faulty h = tt
small-node true c n ws (rowed f) h = go (leb n (count f))
  where
    go : (b : Bool) → Small (c ∷ n ∷ ws) (when b then rowed (cons (node c (first_trees n f)) (later_trees n f)) else faulty)
    go false = tt
    go true =
        let l = later-small n f in
        (omega (arith, l.1, h.0), omega (arith, l.0, first-shallow n f, h.1))

row_small : (ws : List ℕ) → Small ws (row_of ws)
unfolding row_of count depth_f
row_small [] = (omega arith, omega arith)
row_small (c ∷ []) = tt
row_small (c ∷ n ∷ ws) = small-node (sound_node c n) c n ws (row_of ws) (row_small ws)

-- ---- the loop over the nodes

-- The nodes from word `at` on are gone over: `many`, `top`, `run` and the stack tell of the row of trees they spell.
pub record Stacked (os ss₀ ss : List ℕ) (at many top run : ℕ) : Type 0 where
  pub row : Forest
  pub even : 2 * (length os / 2) ≡ length os
  pub short : length os ≤ most_words
  pub room : length os / 2 ≤ length ss
  pub kept : length ss ≡ length ss₀
  pub low : at ≤ length os
  pub paired : 2 * (at / 2) ≡ at
  pub is : row_of (drop at os) ≡ rowed row
  pub stands : StackIs many top run ss row
  pub shallow : top ≤ most_words

-- Behind the last node there is no tree.
pub stacked_start : (os ss : List ℕ) → 2 * (length os / 2) ≡ length os → length os ≤ most_words → length os / 2 ≤ length ss → Stacked os ss ss (length os) 0 0 0
unfolding row_of stack_of count leaves_f
stacked_start os ss even short room =
    let b : drop (length os) os ≡ [] = drop_of_length-le os {i = length os} (omega arith) in
    record {
      row = bare;
      even = even;
      short = short;
      room = room;
      kept = refl;
      low = omega arith;
      paired = even;
      is = ap row_of b;
      stands = record { counted = refl; depths = refl; leaves = refl };
      shallow = omega arith;
    }

-- Words that are no tree are answered so.
broken : (os : List ℕ) → tree_of os ≡ missing → None ≡ measured_of (tree_of os)
unfolding measured_of
broken os e = rw e refl

-- What is taken.
abbrev many-of : Option Popped → ℕ
many-of None = 0
many-of (Some left) = left.many

abbrev depth-of : Option Popped → ℕ
depth-of None = 0
depth-of (Some left) = left.depth

-- What a node takes of a row that has its children.
had : (n rest deep : ℕ) (f : Forest) → Some (record { many = rest; depth = deep }) ≡ popped_by n f → (n ≤ count f) × (rest ≡ count f + 1 - n) × (deep ≡ depth_f (first_trees n f))
unfolding popped_by when◌then◌else◌
had n rest deep f e = go (leb n (count f)) refl
  where
    go : (x : Bool) → leb n (count f) ≡ x → (n ≤ count f) × (rest ≡ count f + 1 - n) × (deep ≡ depth_f (first_trees n f))
    go true l =
        let same : Some (record { many = rest; depth = deep }) ≡ Some (record { many = count f + 1 - n; depth = depth_f (first_trees n f) }) = rw l at e in
        (leb-true _ _ l, ap many-of same, ap depth-of same)
    go false l = never (cc (rw l at e))

-- A node before a row that lacks a child is a fault.
lacked : (x : Bool) (c n : ℕ) (f : Forest) → None ≡ popped_by n f → node_before x c n (rowed f) ≡ faulty
unfolding popped_by when◌then◌else◌
lacked x c n f e = by_test (leb n (count f)) (λ l. never (cc (rw l at e))) (lacks_child x c n f)

module _ (os ss₀ ss : List ℕ) (at many top run : ℕ) (b : Stacked os ss₀ ss at many top run) where
  -- The trees are no more, and no deeper, than there are nodes behind.
  small : (2 * count b.row ≤ length os - at) × (2 * depth_f b.row ≤ length os - at)
  small =
      let z : Small (drop at os) (rowed b.row) = subst (Small (drop at os)) b.is (row_small (drop at os)) in
      (omega (arith, length-drop at os, z.0), omega (arith, length-drop at os, z.1))

  -- There are no more leaves than trees, and words for them.
  pub stacked_few : (many ≤ length ss) × (run ≤ many) × (2 * many ≤ most_words)
  stacked_few =
      let s = b.stands in (
        omega (arith, s.counted, small.0, b.room, b.even),
        omega (arith, s.counted, s.leaves, leaves-few b.row),
        omega (arith, s.counted, small.0, b.short),
      )

  -- There is a word for one tree more.
  pub stacked_room : 0 < at → many < length ss
  stacked_room more = omega (arith, b.stands.counted, small.0, b.room, b.even, b.low, b.paired)

  module _ (more : 0 < at) (here c n : ℕ) (before : here ≡ at - 2) (code : c ≡ get_or os here 0) (children : n ≡ get_or os (here + 1) 0) where
    -- The row from the node on, by the row behind it.
    row_here : row_of (drop here os) ≡ node_before (sound_node c n) c n (rowed b.row)
    unfolding row_of
    row_here =
        let r : row_of (drop here os) ≡ node_before (sound_node c n) c n (row_of (drop at os)) = ap row_of (node-words os here at (omega (arith, b.paired)) b.low) ∙ rw (code, children) refl in
        r ∙ ap (node_before (sound_node c n) c n) b.is

    -- A fault here is one of the whole.
    fault-here : row_of (drop here os) ≡ faulty → None ≡ measured_of (tree_of os)
    fault-here e =
        let two : 2 * (here / 2) ≡ here = omega (arith, b.paired) in
        broken os (fault-missing (here / 2) os (omega (arith, b.low)) (rw two e))

    -- A node out of range.
    pub stacked_unsound : sound_node c n ≡ false → None ≡ measured_of (tree_of os)
    unfolding node_before
    stacked_unsound e = fault-here (row_here ∙ rw e refl)

    -- A node that lacks a child.
    pub stacked_short : None ≡ popped_by n b.row → None ≡ measured_of (tree_of os)
    stacked_short e = fault-here (row_here ∙ lacked (sound_node c n) c n b.row e)

    -- A node that has its children is put before the trees behind them.
    node-here : sound_node c n ≡ true → n ≤ count b.row → row_of (drop here os) ≡ rowed (cons (node c (first_trees n b.row)) (later_trees n b.row))
    unfolding node_before when◌then◌else◌
    node-here s h = row_here ∙ rw (s, le-leb n (count b.row) h) refl

    -- A leaf.
    pub stacked_leaf : sound_node c n ≡ true → n ≡ 0 → Stacked os ss₀ (set ss many top) here (many + 1) 0 (run + 1)
    stacked_leaf s z =
        record {
          row = cons (node c (first_trees 0 b.row)) (later_trees 0 b.row);
          even = b.even;
          short = b.short;
          room = omega (arith, length-set ss many top, b.room);
          kept = length-set ss many top ∙ b.kept;
          low = omega (arith, b.low);
          paired = omega (arith, b.paired);
          is = node-here s (omega arith) ∙ ap (λ (k : ℕ). rowed (cons (node c (first_trees k b.row)) (later_trees k b.row))) z;
          stands = leaf_put many top run ss b.row b.stands (stacked_room more) c;
          shallow = omega arith;
        }

    -- A node that has its children.
    pub stacked_next : (rest deep : ℕ) → sound_node c n ≡ true → 0 < n → Some (record { many = rest; depth = deep }) ≡ popped_by n b.row → Stacked os ss₀ ss here rest deep 0
    stacked_next rest deep s some e =
        let h = had n rest deep b.row e in
        record {
          row = cons (node c (first_trees n b.row)) (later_trees n b.row);
          even = b.even;
          short = b.short;
          room = b.room;
          kept = b.kept;
          low = omega (arith, b.low);
          paired = omega (arith, b.paired);
          is = node-here s h.0;
          stands = node-put many top run ss b.row b.stands stacked_few.0 c n rest deep some h.0 h.1 h.2;
          shallow = omega (arith, h.2, first-shallow n b.row, small.1, b.short);
        }

-- ---- all nodes

module _ (os ss₀ ss : List ℕ) (at many top run : ℕ) (b : Stacked os ss₀ ss at many top run) (done : at ≡ 0) where
  -- The words are a row.
  all : row_of os ≡ rowed b.row
  all = ap (λ (k : ℕ). row_of (drop k os)) (sym done) ∙ b.is

  -- Words that are another number of trees than one are none.
  pub stacked_other : (many ≡ 1 → ⊥) → None ≡ measured_of (tree_of os)
  unfolding count
  stacked_other n =
      broken os (row-missing os (λ t e. let z : rowed b.row ≡ rowed (cons t bare) = sym all ∙ e in let y : b.row ≡ cons t bare = cc in n (b.stands.counted ∙ ap count y)))

  -- One tree is as deep as was found.
  pub stacked_one : many ≡ 1 → Some top ≡ measured_of (tree_of os)
  unfolding count measured_of first_trees depth_f
  stacked_one m = go b.row refl
    where
      go : (f : Forest) → b.row ≡ f → Some top ≡ measured_of (tree_of os)
      go bare r = absurd (omega (arith, b.stands.counted, ap count r))
      go (cons t bare) r =
          let d : top + 1 ≡ depth_f (first_trees 1 (cons t bare)) = first_popped many top run ss b.row b.stands (stacked_few os ss₀ ss at many top run b).0 (omega arith) ∙ ap (λ (f : Forest). depth_f (first_trees 1 f)) r in
          let e : top ≡ depth t = omega (arith, d) in
          rw (row-tree os t (all ∙ ap rowed r), e) refl
      go (cons t (cons u f)) r = absurd (omega (arith, b.stands.counted, ap count r))
