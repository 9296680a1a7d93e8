-- An order's own book: what it is, and how many words it takes. Assumes nothing.
use Prim.Native.Nat.{ℕ, suc, ◌+◌, ◌*◌, ◌-◌, ◌/◌, ◌≤◌, ◌<◌}
use mathlib.Core.Path.{◌≡◌, refl, sym, ap, ap₂, ◌∙◌}
use mathlib.Core.Bool.{Bool, true, false}
use mathlib.Core.List.{List, [], ◌∷◌, append-nil}
use native.Mathlib.Nat.{mul-le-mul}
use native.Mathlib.Omega.{arith}
use lib.ListN.{length}
use Rattle.words.proofs.Tests.{no_test}
use Rattle.figures.specs.Limits.{least_k, greatest_k, most_nodes, most_words, greatest_depth}
use Rattle.figures.specs.Numbers.{done}
use Rattle.section.specs.Entries.{Entry, counted, entry_words, section_words, Sorted, total, add, add_once}
use Rattle.section.proofs.Once.{sorted-add_once, size-once}
use Rattle.order.specs.Trees.{Tree, words, cut, subtrees}
use Rattle.order.specs.Reading.{found, by_order, cause_of}
use Rattle.order.specs.Standing.{cut_of}
use Rattle.order.specs.Parts.{is_low, top}
use Rattle.order.proofs.Orders.{size, some-lines}
use Rattle.order.proofs.Causes.{Passed, has-tree}
use Rattle.order.proofs.Cutting.{cut-shallow}
use Rattle.order.proofs.Shares.{cut_nodes, top-shares}
use Rattle.order.proofs.Lines.{cut-spot}
use Rattle.order.proofs.LineCuts.{line-short}
use Rattle.order.proofs.Spots.{two_words-a_line, top-spot}
use Rattle.book.specs.Book.{Book, section_of, used, live}
use Rattle.book.specs.declared.Section.{Section}
use Rattle.book.specs.declared.Section.TheVariants.{Taught, Tops, Lows, Middles}
use Rattle.book.specs.Taught.{taught, book_of}
use Rattle.book.proofs.Meaning.{used_is}
use Rattle.book_listing.specs.Own.{list_words, own_words, own_book, own_of, each_words, part_words, list_of, room_for}
use Rattle.book_listing.proofs.Parts.{enter_each, all-entered, parts_of_kind, parts_none, parts_all, parts_more, parts_same}

-- ---- how many words it takes

-- A section of one entry has its words.
pub one-words : (e : Entry) → section_words (e ∷ []) ≡ entry_words e
unfolding section_words
one-words e = append-nil (entry_words e)

-- So it has two words more than its tree.
one-long : (key : List ℕ) (n : ℕ) → length (section_words (counted key n ∷ [])) ≡ 2 + length key
one-long key n = rw (one-words (counted key n)) (omega arith)

-- Every subtree stands for a part of one kind, its cut at k-1: a head of two words, and two words for each node of the cut.
parts-both : (k : ℕ) (ss : List Tree) → least_k ≤ k → each_words (parts_of_kind true k ss) + each_words (parts_of_kind false k ss) ≡ 2 * length ss + 2 * cut_nodes (k - 1) ss
unfolding each_words cut_nodes
parts-both k [] least = rw (parts_none true k, parts_none false k) refl
parts-both k (s ∷ ss) least = go (is_low k s) refl (parts-both k ss least) (size (cut s (k - 1)))
  where
    go : (b : Bool) → is_low k s ≡ b → each_words (parts_of_kind true k ss) + each_words (parts_of_kind false k ss) ≡ 2 * length ss + 2 * cut_nodes (k - 1) ss
        → length (words (cut s (k - 1))) ≡ length (subtrees (cut s (k - 1))) * 2
        → each_words (parts_of_kind true k (s ∷ ss)) + each_words (parts_of_kind false k (s ∷ ss)) ≡ 2 * length (s ∷ ss) + 2 * cut_nodes (k - 1) (s ∷ ss)
    go true e ih two = rw (parts_more k s ss least true e, parts_same k s ss least false (λ f. no_test (sym f ∙ e))) (omega arith)
    go false e ih two = rw (parts_same k s ss least true (λ f. no_test (sym e ∙ f)), parts_more k s ss least false e) (omega arith)

-- Trees that are entered take at most the words of an entry for each.
each-size : (n : ℕ) (ts : List Tree) (es : List Entry) → 1 ≤ n → Sorted es → length (section_words (enter_each n ts es)) ≤ length (section_words es) + each_words ts
unfolding enter_each each_words
each-size n [] es some sorted = omega arith
each-size n (t ∷ ts) es some sorted =
    let e : Entry = counted (words t) n in
    omega (arith, each-size n ts (add_once e es) some (sorted-add_once e es some sorted), size-once e es sorted)

-- The words for the parts of a kind are those for what the lines stand for.
words_are : (low : Bool) (k : ℕ) (os : List ℕ) (t : Tree) → Passed os t → part_words low k os ≡ each_words (parts_of_kind low k (subtrees t))
unfolding part_words by_order
words_are low k os t p = rw (p.is, parts_all low k t)

-- Live are as many teachings as it is the book of.
pub own_live : (k n : ℕ) (t : Tree) → live (own_book k n t) ≡ n
unfolding live total book_of taught add
own_live k n t = omega arith

-- What is listed in a section of it: one entry for the order, one for its top, and the entries of its parts of either kind.
abbrev pub listed_in : Section → ℕ → ℕ → List ℕ → List Entry
listed_in Taught k n os = counted (cut_of os 0 greatest_depth) n ∷ []
listed_in Tops k n os = counted (cut_of os 0 (k - 2)) n ∷ []
listed_in Lows k n os = list_of true k n os
listed_in Middles k n os = list_of false k n os

-- The book of the four.
abbrev book_listed : ℕ → ℕ → List ℕ → Book
book_listed k n os = record { k = k; T = listed_in Taught k n os; R = listed_in Tops k n os; L = listed_in Lows k n os; P = listed_in Middles k n os }

-- An order within the limits, and what it says of its own book.
module _ (os : List ℕ) (is : cause_of os ≡ done) where
  -- It has a first line.
  pub first-line : 0 < length os / 2
  first-line = let x = has-tree os is in omega (arith, two_words-a_line os x.tree x.passes, some-lines x.tree)

  -- A cut of it has at most 128 words.
  pub whole-short : (d : ℕ) → length (cut_of os 0 d) ≤ most_words
  whole-short d = line-short os 0 d is first-line

  -- Its top and all its parts have room in the scratch, since each of at most 64 nodes stands in at most k of them.
  pub few_words : (k : ℕ) → least_k ≤ k → k ≤ greatest_k → room_for Tops k os + (part_words true k os + part_words false k os) ≤ list_words
  few_words k least most =
      let x = has-tree os is in
      let t = x.tree in
      let same : suc (k - 2) ≡ k - 1 = omega arith in
      let deep : cut_nodes (suc (k - 2)) (subtrees t) ≡ cut_nodes (k - 1) (subtrees t) = ap (λ (d : ℕ). cut_nodes d (subtrees t)) same in
      let levels : suc (suc (k - 2)) ≤ greatest_k = omega arith in
      let times : suc (suc (k - 2)) * length (subtrees t) ≤ greatest_k * most_nodes = mul-le-mul levels x.passes.nodes in
      let top : length (cut_of os 0 (k - 2)) ≡ length (subtrees (cut t (k - 2))) * 2 = ap length (cut-spot os 0 (found t) (top-spot os t x.passes) (k - 2)) ∙ size (cut t (k - 2)) in
      omega (arith, words_are true k os t x.passes, words_are false k os t x.passes, parts-both k (subtrees t) least, top-shares t (k - 2), deep, x.passes.nodes)

  module _ (k n : ℕ) where
    -- Its own book is that of what is listed in the four sections.
    own_is : own_of k n os ≡ book_listed k n os
    unfolding own_of list_of by_order book_of taught add top
    own_is =
        let x = has-tree os is in
        let t = x.tree in
        let s = top-spot os t x.passes in
        let all : words t ≡ cut_of os 0 greatest_depth = ap words (sym (cut-shallow t greatest_depth x.passes.deep)) ∙ sym (cut-spot os 0 (found t) s greatest_depth) in
        let some : words (cut t (k - 2)) ≡ cut_of os 0 (k - 2) = sym (cut-spot os 0 (found t) s (k - 2)) in
        rw (x.passes.is, ← all, ← some)

    -- So a section that is asked for has what is listed in it.
    pub section-is : (s asked : Section) → asked ≡ s → listed_in s k n os ≡ section_of asked (own_of k n os)
    unfolding section_of
    section-is s asked told = here s ∙ sym (ap₂ section_of told own_is)
      where
        here : (s : Section) → listed_in s k n os ≡ section_of s (book_listed k n os)
        here Taught = refl
        here Tops = refl
        here Lows = refl
        here Middles = refl

    -- Its k is that which is given.
    pub own_k : (own_of k n os).k ≡ k
    own_k = ap (λ (b : Book). b.k) own_is

    -- Live are as many teachings as are given.
    pub listed-live : live (own_of k n os) ≡ n
    unfolding live total
    listed-live = ap live own_is ∙ omega arith

    module _ (some : 1 ≤ n) where
      -- The list of a kind takes an entry's words for each part of the kind at most.
      list_short : (low : Bool) → length (section_words (list_of low k n os)) ≤ part_words low k os
      unfolding Sorted section_words
      list_short low =
          let x = has-tree os is in
          let t = x.tree in
          rw (all-entered low k n os t some x.passes, words_are low k os t x.passes) (omega (arith, each-size n (parts_of_kind low k (subtrees t)) [] some tt))

      -- A section of it takes no more words than there is room for.
      pub section-short : (s : Section) → length (section_words (section_of s (own_of k n os))) ≤ room_for s k os
      unfolding section_of
      section-short s = rw (← section-is s s refl) (short s)
        where
          short : (s : Section) → length (section_words (listed_in s k n os)) ≤ room_for s k os
          short Taught = omega (arith, one-long (cut_of os 0 greatest_depth) n, whole-short greatest_depth)
          short Tops = omega (arith, one-long (cut_of os 0 (k - 2)) n)
          short Lows = list_short true
          short Middles = list_short false

      -- It takes no more words than its slice has.
      pub own_short : least_k ≤ k → k ≤ greatest_k → used (own_of k n os) ≤ own_words
      unfolding section_of
      own_short least most =
          omega (arith, used_is (own_of k n os), section-short Taught, section-short Tops, section-short Lows, section-short Middles, few_words k least most)
