-- The parts of an order, entered one after the other, each once: what is entered in the end, and what each line adds. Assumes nothing.
use Prim.Native.Nat.{ℕ, ◌+◌, ◌*◌, ◌-◌, ◌/◌, ◌≤◌, ◌<◌}
use mathlib.Core.Path.{◌≡◌, refl, sym, ap, ◌∙◌}
use mathlib.Core.Bool.{Bool, true, false, not, beq}
use mathlib.Core.List.{List, [], ◌∷◌, map}
use native.Mathlib.Omega.{arith}
use borrow.Author.Tests.{leb-true, leb-false, le-leb, lt-leb}
use lib.Dec.{leb}
use lib.ListN.{length, get_or, drop, drop_of_length-le}
use Rattle.words.specs.Base.{when◌then◌else◌, keep, same_words}
use Rattle.words.proofs.Tests.{no_test, by_test}
use Rattle.figures.specs.Limits.{least_k, most_words}
use Rattle.section.specs.Entries.{Entry, counted, has, Sorted, add, add_once}
use Rattle.section.proofs.Counts.{has-add}
use Rattle.section.proofs.Sorting.{sorted-add, add_commutes}
use Rattle.section.proofs.Once.{once_has, once_lacks, sorted-add_once, has-once}
use Rattle.order.specs.Trees.{Tree, words, depth, cut, subtrees}
use Rattle.order.specs.Parts.{is_low, is_middle, middle, lows, middles, same_tree, each_once, low_parts, middle_parts}
use Rattle.order.specs.Reading.{found, by_order}
use Rattle.order.specs.Standing.{tree_from, cut_of}
use Rattle.order.specs.Spans.{GoneOver}
use Rattle.order.specs.Answers.{tree_at}
use Rattle.order.proofs.Unique.{tree-same}
use Rattle.order.proofs.Orders.{size}
use Rattle.order.proofs.Causes.{Passed}
use Rattle.order.proofs.Lines.{Spot, line-spot, tree-next, from_spot, cut-spot}
use Rattle.order.proofs.LineSpans.{span-low}
use Rattle.order.proofs.Spots.{two_words-a_line, short-order, cut_short}
use Rattle.order.proofs.Cutting.{cut-shallow}
use Rattle.book.specs.Taught.{add_each}
use Rattle.book.proofs.Taught.{sorted-each}
use Rattle.book_listing.specs.Own.{occurring, parts_once, each_words, list_of}

-- ---- trees entered once

-- An entry of count n for each tree, once however often it occurs.
unfoldable pub enter_each : ℕ → List Tree → List Entry → List Entry
enter_each n [] es = es
enter_each n (t ∷ ts) es = enter_each n ts (add_once (counted (words t) n) es)

module _ {A : Type 0} where
  -- What passes one test and then another is what passes a third that says both.
  keep-keep : (p q r : A → Bool) → ((x : A) → r x ≡ (when q x then p x else false)) → (l : List A) → keep p (keep q l) ≡ keep r l
  unfolding keep when◌then◌else◌
  keep-keep p q r both [] = refl
  keep-keep p q r both (x ∷ l) = go (q x) refl (p x) refl (keep-keep p q r both l)
    where
      go : (a : Bool) → q x ≡ a → (b : Bool) → p x ≡ b → keep p (keep q l) ≡ keep r l → keep p (keep q (x ∷ l)) ≡ keep r (x ∷ l)
      go true e true f ih = rw (both x, e, f, ih)
      go true e false f ih = rw (both x, e, f, ih)
      go false e b f ih = rw (both x, e, ih)

  -- A test that all pass keeps all.
  keep_all : (p : A → Bool) → ((x : A) → p x ≡ true) → (l : List A) → keep p l ≡ l
  unfolding keep when◌then◌else◌
  keep_all p all [] = refl
  keep_all p all (x ∷ l) = rw (all x, keep_all p all l)

-- One more of a tree can be added before or after the others.
each-add : (n : ℕ) (x : List ℕ) (ts : List Tree) (es : List Entry) → 1 ≤ n → Sorted es → add n x (add_each n ts es) ≡ add_each n ts (add n x es)
unfolding add_each
each-add n x [] es p s = refl
each-add n x (t ∷ ts) es p s = add_commutes n n x (words t) (add_each n ts es) p p (sorted-each n ts es p s) ∙ ap (add n (words t)) (each-add n x ts es p s)

-- A tree that has no entry.
abbrev lacks : List Entry → Tree → Bool
lacks es s = not (has (words s) es)

-- Once a tree has an entry, the other trees that lack one are all that lack one.
lacks_known : (t u : Tree) (es : List Entry) → has (words t) es ≡ true → lacks es u ≡ (when not (same_tree t u) then lacks es u else false)
unfolding when◌then◌else◌
lacks_known t u es h = by_test (same_tree t u) (λ e. rw (e, ← tree-same t u e, h)) (λ e. rw e)

-- With n more of a tree the other trees that lacked an entry lack one.
lacks_added : (n : ℕ) (t u : Tree) (es : List Entry) → lacks (add n (words t) es) u ≡ (when not (same_tree t u) then lacks es u else false)
unfolding when◌then◌else◌ same_tree
lacks_added n t u es = rw (has-add n (words t) (words u) es) (go (same_words (words t) (words u)))
  where
    go : (b : Bool) → not (when b then true else has (words u) es) ≡ (when not b then lacks es u else false)
    go true = refl
    go false = refl

-- Entered one after the other, each tree that had no entry is added once.
entered-once : (n : ℕ) (ts : List Tree) (es : List Entry) → 1 ≤ n → Sorted es → enter_each n ts es ≡ add_each n (keep (lacks es) (each_once ts)) es
unfolding enter_each each_once add_each keep when◌then◌else◌
entered-once n [] es p s = refl
entered-once n (t ∷ ts) es p s =
    go (has (words t) es) refl (entered-once n ts es p s) (entered-once n ts (add n (words t) es) p (sorted-add n (words t) es p s))
  where
    others : Tree → Bool
    others u = not (same_tree t u)

    go : (b : Bool) → has (words t) es ≡ b → enter_each n ts es ≡ add_each n (keep (lacks es) (each_once ts)) es
        → enter_each n ts (add n (words t) es) ≡ add_each n (keep (lacks (add n (words t) es)) (each_once ts)) (add n (words t) es)
        → enter_each n ts (add_once (counted (words t) n) es) ≡ add_each n (keep (lacks es) (t ∷ keep others (each_once ts))) es
    go true e known added =
        rw (once_has (counted (words t) n) es e, e, keep-keep (lacks es) others (lacks es) (λ u. lacks_known t u es e) (each_once ts)) known
    go false e known added =
        rw (once_lacks (counted (words t) n) es e, e, keep-keep (lacks es) others (lacks (add n (words t) es)) (λ u. lacks_added n t u es) (each_once ts))
        (added ∙ sym (each-add n (words t) (keep (lacks (add n (words t) es)) (each_once ts)) es p s))

-- Entered into nothing, each tree is added once.
entered_all : (n : ℕ) (ts : List Tree) → 1 ≤ n → enter_each n ts [] ≡ add_each n (each_once ts) []
unfolding Sorted has
entered_all n ts p = entered-once n ts [] p tt ∙ ap (λ (us : List Tree). add_each n us []) (keep_all (lacks []) (λ u. refl) (each_once ts))

-- ---- the parts of a kind

-- The parts that these subtrees stand for, of the low or of the middle ones.
unfoldable pub parts_of_kind : Bool → ℕ → List Tree → List Tree
parts_of_kind true k ss = keep (is_low k) ss
parts_of_kind false k ss = map (middle k) (keep (is_middle k) ss)

-- No subtrees stand for none.
pub parts_none : (low : Bool) (k : ℕ) → parts_of_kind low k [] ≡ []
unfolding parts_of_kind keep
parts_none true k = refl
parts_none false k = refl

-- Those of an order's subtrees are the order's.
pub parts_all : (low : Bool) (k : ℕ) (t : Tree) → parts_of_kind low k (subtrees t) ≡ occurring low k t
unfolding parts_of_kind lows middles
parts_all true k t = refl
parts_all false k t = refl

-- Each once they are the order's, each once.
parts-once : (low : Bool) (k : ℕ) (t : Tree) → each_once (parts_of_kind low k (subtrees t)) ≡ parts_once low k t
unfolding parts_of_kind lows middles low_parts middle_parts
parts-once true k t = refl
parts-once false k t = refl

-- A subtree is of one kind or of the other.
either_kind : (k : ℕ) (s : Tree) → least_k ≤ k → is_middle k s ≡ not (is_low k s)
unfolding is_middle is_low
either_kind k s h =
    by_test (leb (depth s) (k - 2))
    (λ e. rw e (lt-leb (k - 1) (depth s) (omega (arith, leb-true (depth s) (k - 2) e))))
    (λ e. rw e (le-leb (k - 1) (depth s) (omega (arith, leb-false (depth s) (k - 2) e))))

module _ (k : ℕ) (s : Tree) (ss : List Tree) (least : least_k ≤ k) where
  -- A subtree of the kind stands for its cut at k-1.
  pub parts_more : (low : Bool) → is_low k s ≡ low → parts_of_kind low k (s ∷ ss) ≡ cut s (k - 1) ∷ parts_of_kind low k ss
  unfolding parts_of_kind keep when◌then◌else◌ middle is_low
  parts_more true e = rw (e, cut-shallow s (k - 1) (omega (arith, leb-true (depth s) (k - 2) e)))
  parts_more false e = rw (either_kind k s least, e)

  -- One of the other kind adds none.
  pub parts_same : (low : Bool) → (is_low k s ≡ low → ⊥) → parts_of_kind low k (s ∷ ss) ≡ parts_of_kind low k ss
  unfolding parts_of_kind keep when◌then◌else◌
  parts_same low other = go low (is_low k s) refl other
    where
      go : (low b : Bool) → is_low k s ≡ b → (is_low k s ≡ low → ⊥) → parts_of_kind low k (s ∷ ss) ≡ parts_of_kind low k ss
      go true true e h = absurd (h e)
      go true false e h = rw e
      go false true e h = rw (either_kind k s least, e)
      go false false e h = absurd (h e)

-- ---- the lines that are gone over

-- All parts, entered one after the other, are those that n teachings count.
pub all-entered : (low : Bool) (k n : ℕ) (os : List ℕ) (t : Tree) → 1 ≤ n → Passed os t → list_of low k n os ≡ enter_each n (parts_of_kind low k (subtrees t)) []
unfolding list_of by_order
all-entered low k n os t some p = rw p.is (sym (entered_all n (parts_of_kind low k (subtrees t)) some ∙ ap (λ (ts : List Tree). add_each n ts []) (parts-once low k t)))

-- The entry of the part that a line stands for: its subtree's cut at k-1, which is the subtree itself where that is low.
abbrev pub part_here : ℕ → ℕ → List ℕ → ℕ → Entry
part_here k n os line = counted (cut_of os (line * 2) (k - 1)) n

-- So many lines of an order are gone over, and these entries are those of their parts: with the parts of the lines left they come to all parts.
pub record Gone (low : Bool) (k n : ℕ) (os : List ℕ) (t : Tree) (line : ℕ) (listed : List Entry) : Type 0 where
  pub some : 1 ≤ n
  pub passes : Passed os t
  pub sorted : Sorted listed
  pub left : enter_each n (parts_of_kind low k (drop line (subtrees t))) listed ≡ enter_each n (parts_of_kind low k (subtrees t)) []

-- Before the first line there are none.
pub gone_none : (low : Bool) (k n : ℕ) (os : List ℕ) (t : Tree) → 1 ≤ n → Passed os t → Gone low k n os t 0 []
unfolding Sorted
gone_none low k n os t some p = record { some = some; passes = p; sorted = tt; left = refl }

-- A key that was entered stays.
has-entered : (n : ℕ) (z : List ℕ) (ts : List Tree) (es : List Entry) → has z es ≡ true → has z (enter_each n ts es) ≡ true
unfolding enter_each when◌then◌else◌
has-entered n z [] es h = h
has-entered n z (t ∷ ts) es h = has-entered n z ts (add_once (counted (words t) n) es) (go (same_words (words t) z) (has-once (counted (words t) n) es z))
  where
    go : (b : Bool) → has z (add_once (counted (words t) n) es) ≡ (when b then true else has z es) → has z (add_once (counted (words t) n) es) ≡ true
    go true e = e
    go false e = e ∙ h

module _ (low : Bool) (k n : ℕ) (os : List ℕ) (t : Tree) (line : ℕ) (listed : List Entry) (g : Gone low k n os t line listed) where
  -- Past the last line they are those of all parts.
  pub gone_all : length os / 2 ≤ line → listed ≡ list_of low k n os
  unfolding enter_each
  gone_all past =
      let none : parts_of_kind low k (drop line (subtrees t)) ≡ [] =
      ap (parts_of_kind low k) (drop_of_length-le (subtrees t) {i = line} (omega (arith, two_words-a_line os t g.passes))) ∙ parts_none low k in
      ap (λ (ts : List Tree). enter_each n ts listed) (sym none) ∙ g.left ∙ sym (all-entered low k n os t g.some g.passes)

  -- A key that they have is one of all parts.
  pub gone_has : (z : List ℕ) → has z listed ≡ true → has z (list_of low k n os) ≡ true
  gone_has z h =
      ap (has z) (all-entered low k n os t g.some g.passes ∙ sym g.left) ∙ has-entered n z (parts_of_kind low k (drop line (subtrees t))) listed h

-- Two answers that are told the same are the same.
told_same : (a b : Bool) → beq a b ≡ true → a ≡ b
told_same true true e = refl
told_same true false e = no_test e
told_same false true e = no_test e
told_same false false e = refl

-- Two that are told apart are not.
told-other : (a b : Bool) → beq a b ≡ false → a ≡ b → ⊥
told-other true true e f = no_test (sym e)
told-other true false e f = no_test (sym f)
told-other false true e f = no_test f
told-other false false e f = no_test (sym e)

-- An answer tells whether a line stands for a low part: whether the tree that stands there is low.
abbrev pub TellsLow : Bool → ℕ → List ℕ → ℕ → Type 0
TellsLow b k os line = (s : Tree) → tree_from os (line * 2) ≡ found s → b ≡ is_low k s

-- What the spans say of a line of an order tells it.
pub span-tells : (b : Bool) (k : ℕ) (os ss : List ℕ) (line : ℕ) → GoneOver os ss → line < length os / 2 → b ≡ leb (get_or ss (line * 2 + 1) 0) (k - 2) → TellsLow b k os line
span-tells b k os ss line over more is s here = is ∙ span-low os ss over k line s more here

module _ (low : Bool) (k n : ℕ) (os : List ℕ) (t : Tree) (line : ℕ) (listed : List Entry) (g : Gone low k n os t line listed) (more : line < length os / 2) where
  -- The line's subtree stands at its word.
  spot : Spot os (line * 2) (tree_at (subtrees t) line)
  spot = line-spot os t line g.passes (omega (arith, two_words-a_line os t g.passes))

  -- It is the first of those left.
  next : drop line (subtrees t) ≡ spot.tree ∷ drop (line + 1) (subtrees t)
  next = tree-next (subtrees t) line spot.tree spot.is

  -- Its kind is what is told of the line.
  kind-here : (b : Bool) → TellsLow b k os line → is_low k spot.tree ≡ b
  kind-here b is = sym (is spot.tree (from_spot os (line * 2) _ spot))

  -- Its cut has at most 128 words.
  pub cut-few : (d : ℕ) → length (cut_of os (line * 2) d) ≤ most_words
  cut-few d = cut_short os (line * 2) _ spot d (short-order os t g.passes)

  -- It has two words a node.
  pub cut-even : (d : ℕ) → 2 * (length (cut_of os (line * 2) d) / 2) ≡ length (cut_of os (line * 2) d)
  cut-even d = rw (cut-spot os (line * 2) _ spot d) (omega (arith, size (cut spot.tree d)))

  module _ (b : Bool) (least : least_k ≤ k) (is : TellsLow b k os line) where
    -- A line of the other kind stands for none of the parts left.
    pub parts-past : beq b low ≡ false → parts_of_kind low k (drop line (subtrees t)) ≡ parts_of_kind low k (drop (line + 1) (subtrees t))
    parts-past other =
        ap (parts_of_kind low k) next ∙ parts_same k spot.tree (drop (line + 1) (subtrees t)) least low (λ e. told-other b low other (sym (kind-here b is) ∙ e))

    -- Past it the entries are as they were.
    pub gone_passed : beq b low ≡ false → Gone low k n os t (line + 1) listed
    gone_passed other = record {
      some = g.some;
      passes = g.passes;
      sorted = g.sorted;
      left = ap (λ (ts : List Tree). enter_each n ts listed) (sym (parts-past other)) ∙ g.left;
    }

    module _ (same : beq b low ≡ true) where
      -- The parts left are that of the line, and those of the lines behind it.
      parts-here : parts_of_kind low k (drop line (subtrees t)) ≡ cut spot.tree (k - 1) ∷ parts_of_kind low k (drop (line + 1) (subtrees t))
      parts-here = ap (parts_of_kind low k) next ∙ parts_more k spot.tree (drop (line + 1) (subtrees t)) least low (kind-here b is ∙ told_same b low same)

      -- Its entry has its words of those for the parts left.
      pub words-here : each_words (parts_of_kind low k (drop line (subtrees t))) ≡ 2 + length (part_here k n os line).key + each_words (parts_of_kind low k (drop (line + 1) (subtrees t)))
      unfolding each_words
      words-here = ap each_words parts-here ∙ rw (cut-spot os (line * 2) _ spot (k - 1))

      -- Past the line its part is entered once.
      pub gone_entered : Gone low k n os t (line + 1) (add_once (part_here k n os line) listed)
      unfolding enter_each
      gone_entered = record {
        some = g.some;
        passes = g.passes;
        sorted = sorted-add_once (part_here k n os line) listed g.some g.sorted;
        left = ap (λ (w : List ℕ). enter_each n (parts_of_kind low k (drop (line + 1) (subtrees t))) (add_once (counted w n) listed)) (cut-spot os (line * 2) _ spot (k - 1))
            ∙ ap (λ (ts : List Tree). enter_each n ts listed) (sym parts-here) ∙ g.left;
      }
